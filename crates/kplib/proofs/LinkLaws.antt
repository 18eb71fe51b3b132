-- Parents and last rows are read off the links entry by entry: a read, a store and the length go through. Assumes nothing.
use mathlib.Core.Path.{◌≡◌, refl, ap, ◌∙◌}
use Prim.Native.Nat.{ℕ, zero, suc, ◌+◌, ◌-◌, ◌*◌, ◌/◌, ◌%◌, ◌<◌}
use native.Mathlib.Omega.{arith}
use mathlib.Core.List.{List, [], ◌∷◌, map}
use lib.ListN.{length, get_or, set, length-map, get_or-map}
use Rattle.paths.specs.Queue.{Links}
use Rattle.paths.proofs.TableLaws.{Reading, read_on}
use Rattle.kplib.specs.SearchSteps.{parents_of, lasts_of}

module _ (f : ℕ → ℕ) where
  map_store : (l : List ℕ) (i x : ℕ) → map f (set l i x) ≡ set (map f l) i (f x)
  map_store [] i x = refl
  map_store (y ∷ l) zero x = refl
  map_store (y ∷ l) (suc i) x = ap (λ (m : List ℕ). f y ∷ m) (map_store l i x)

module _ (links : List ℕ) where
  pub parents_length : length (parents_of links) ≡ length links
  parents_length = length-map links (λ l. l / 64)

  pub lasts_length : length (lasts_of links) ≡ length links
  lasts_length = length-map links (λ l. l % 64)

  module _ (i : ℕ) where
    pub parent_at : get_or (parents_of links) i 0 ≡ get_or links i 0 / 64
    parent_at = get_or-map (λ l. l / 64) links i 0

    pub last_at : get_or (lasts_of links) i 0 ≡ get_or links i 0 % 64
    last_at = get_or-map (λ l. l % 64) links i 0

    -- a link is stored
    module _ (parent row : ℕ) (h : row < 64) where
      pub parents_store : parents_of (set links i (parent * 64 + row)) ≡ set (parents_of links) i parent
      parents_store = let e : (parent * 64 + row) / 64 ≡ parent = omega arith in map_store (λ l. l / 64) links i (parent * 64 + row) ∙ ap (λ (p : ℕ). set (parents_of links) i p) e

      pub lasts_store : lasts_of (set links i (parent * 64 + row)) ≡ set (lasts_of links) i row
      lasts_store = let e : (parent * 64 + row) % 64 ≡ row = omega arith in map_store (λ l. l % 64) links i (parent * 64 + row) ∙ ap (λ (r : ℕ). set (lasts_of links) i r) e

-- a turn of reading a chain back: the entry's row is written, and its parent comes next
module _ (links : List ℕ) {e : ℕ} {out : List ℕ} {at i : ℕ} (h : Reading (parents_of links) (lasts_of links) e out at i) (l : Links (parents_of links) (suc e)) (p : 0 < i) where
  pub parent_before : get_or links i 0 / 64 < i
  parent_before = omega (arith, parent_at links i, l i p (omega (arith, h.low)))

  pub read_link : Reading (parents_of links) (lasts_of links) e (set out (at - 1) (get_or links i 0 % 64)) (at - 1) (get_or links i 0 / 64)
  read_link = rw (← last_at links i, ← parent_at links i) (read_on h l p)
