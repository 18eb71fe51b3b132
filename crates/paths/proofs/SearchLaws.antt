-- Laws of the search. Assumes nothing.
use mathlib.Core.Path.{◌≡◌, refl}
use Prim.Native.Nat.{ℕ, zero, suc, ◌+◌}
use native.Mathlib.Omega.{arith}
use mathlib.Core.Bool.{Bool, true, false}
use mathlib.Core.List.{List, [], ◌∷◌, ◌++◌}
use Rattle.paths.specs.Sums.{sum_by}
use Rattle.paths.specs.Search.{before, choose, pick, after, scored, left}
use Rattle.paths.proofs.SumLaws.{sum_append}

module _ {A : Type 0} (dist : A → ℕ) where
  -- a pick parts the queue
  pub pick_sum : (w : A → ℕ) (x : A) (q : List A) → w (pick dist x q).0 + sum_by w (pick dist x q).1 ≡ sum_by w (x ∷ q)
  unfolding pick
  pick_sum w x [] = refl
  pick_sum w x (y ∷ q) = go (before dist x (pick dist y q).0) (pick dist y q) (pick_sum w y q)
    where
      go : (t : Bool) (p : A × List A) → w p.0 + sum_by w p.1 ≡ sum_by w (y ∷ q)
          → w (choose t x (y ∷ q) p).0 + sum_by w (choose t x (y ∷ q) p).1 ≡ sum_by w (x ∷ (y ∷ q))
      go true p h = refl
      go false p h = omega arith

  module _ (ext : A → List A) (v w : A → ℕ) (law : (a : A) → w a ≡ v a + sum_by w (ext a)) where
    -- what is scored, weighed by v, and what is left, weighed by w, come to what was queued
    pub conserve : (f : ℕ) (q : List A) → sum_by v (scored dist ext f q) + sum_by w (left dist ext f q) ≡ sum_by w q
    unfolding scored left after
    conserve zero q = omega arith
    conserve (suc f) [] = refl
    conserve (suc f) (x ∷ q) =
        let p = pick dist x q in
        omega (arith, conserve f (p.1 ++ ext p.0), sum_append w p.1 (ext p.0), law p.0, pick_sum w x q)
