-- Rows written one by one to the front of a buffer. Assumes nothing.
use mathlib.Core.Path.{◌≡◌, refl, ap, ◌∙◌}
use Prim.Native.Nat.{ℕ, zero, suc, ◌+◌, ◌<◌}
use native.Mathlib.Omega.{arith}
use native.Mathlib.Numerals.{add-one}
use mathlib.Core.List.{List, [], ◌∷◌, ◌++◌}
use lib.ListN.{length, get_or, set, take, drop}
use lib.Seq.{take-length}
use Rattle.metrics.specs.Placed.{placed}

-- the first i rows are written
pub put_on : (i : ℕ) (from rows : List ℕ) → i < length from → i < length rows → set (take i from ++ drop i rows) i (get_or from i 0) ≡ take (i + 1) from ++ drop (i + 1) rows
put_on i from rows p q = go i from rows p q ∙ rw (add-one i)
  where
    go : (i : ℕ) (from rows : List ℕ) → i < length from → i < length rows → set (take i from ++ drop i rows) i (get_or from i 0) ≡ take (suc i) from ++ drop (suc i) rows
    go i [] rows p q = absurd (omega arith)
    go i (x ∷ from) [] p q = absurd (omega arith)
    go zero (x ∷ from) (y ∷ rows) p q = refl
    go (suc i) (x ∷ from) (y ∷ rows) p q = ap (λ (l : List ℕ). x ∷ l) (go i from rows (omega arith) (omega arith))

pub put_done : (i : ℕ) (from rows : List ℕ) → i ≡ length from → take i from ++ drop i rows ≡ placed rows from
put_done i from rows e = rw (e, take-length from)
