-- The least key names the chain that the step rule picks: the nearest, and the earliest queued among equals.
use mathlib.Core.Path.{◌≡◌, refl, ◌∙◌}
use Prim.Native.Nat.{ℕ, zero, suc, ◌≤◌, ◌<◌}
use native.Mathlib.Omega.{arith}
use mathlib.Core.Bool.{Bool, true, false}
use mathlib.Core.List.{List, [], ◌∷◌, map}
use lib.ListN.{length, get_or}
use borrow.Author.Tests.{le-leb, lt-leb}
use Rattle.paths.specs.Search.{before, choose, pick}
use Rattle.paths.specs.Best.{All}
use Rattle.paths.specs.Queue.{key_of, entry_of, Rising}
use Rattle.paths.proofs.HeapLaws.{without}

module _ {A : Type 0} (dist : A → ℕ) (P : A → Type 0) where
  -- what holds of each entry of a queue holds of the one that is picked and of the others
  pub picked_all : (x : A) (q : List A) → P x → All P q → P (pick dist x q).0 × All P (pick dist x q).1
  unfolding pick
  picked_all x [] h a = (h, tt)
  picked_all x (y ∷ q) h a = go (before dist x (pick dist y q).0) (pick dist y q) (picked_all y q a.0 a.1)
    where
      go : (t : Bool) (p : A × List A) → P p.0 × All P p.1 → P (choose t x (y ∷ q) p).0 × All P (choose t x (y ∷ q) p).1
      go true p k = (h, a)
      go false p k = (k.0, (h, k.1))

module _ {A : Type 0} (dist : A → ℕ) where
  -- none is nearer: the first is picked
  pick_head : (x : A) (q : List A) → All (λ b. dist x ≤ dist b) q → pick dist x q ≡ (x, q)
  unfolding pick
  pick_head x [] a = refl
  pick_head x (y ∷ q) a = rw (le-leb (dist x) (dist (pick dist y q).0) (picked_all dist (λ b. dist x ≤ dist b) y q a.0 a.1).0)

  -- the first is farther than what the rest picks
  pick_tail : (x y : A) (q : List A) → dist (pick dist y q).0 < dist x → pick dist x (y ∷ q) ≡ ((pick dist y q).0, (x ∷ (pick dist y q).1))
  unfolding pick
  pick_tail x y q h = rw (lt-leb (dist x) (dist (pick dist y q).0) h)

pub all_at : {A : Type 0} (P : A → Type 0) (z : A) (l : List A) (i : ℕ) → i < length l → All P l → P (get_or l i z)
all_at P z [] i h a = absurd (omega arith)
all_at P z (x ∷ l) zero h a = a.0
all_at P z (x ∷ l) (suc i) h a = all_at P z l i (omega arith) a.1

pub all_from : {A : Type 0} (P : A → Type 0) (z : A) (l : List A) → ((i : ℕ) → i < length l → P (get_or l i z)) → All P l
all_from P z [] h = tt
all_from P z (x ∷ l) h = (h 0 (omega arith), all_from P z l (λ i k. h (suc i) (omega arith)))

module _ {A : Type 0} (dist : A → ℕ) (f : ℕ → A) where
  abbrev Good : ℕ → Type 0
  Good k = k ≡ key_of (dist (f k)) (entry_of k)

  nearer : (k : ℕ) (q : List ℕ) → k ≡ key_of (dist (f k)) (entry_of k) → All (λ j. j ≡ key_of (dist (f j)) (entry_of j)) q → All (λ j. k ≤ j) q → All (λ b. dist (f k) ≤ dist b) (map f q)
  nearer k [] g h a = tt
  nearer k (j ∷ q) g h a = (omega (arith, h.0, a.0), nearer k q g h.1 a.1)

  pub pick_least : (q : List ℕ) (i : ℕ) → i < length q → All (λ j. j ≡ key_of (dist (f j)) (entry_of j)) q → Rising q → All (λ j. get_or q i 0 ≤ j) q
      → (x : A) × (r : List A) × (map f q ≡ x ∷ r) × (pick dist x r ≡ (f (get_or q i 0), map f (without i q)))
  unfolding without
  pick_least [] i h g u a = absurd (omega arith)
  pick_least (k ∷ q) zero h g u a = (f k, map f q, refl, pick_head dist (f k) (map f q) (nearer k q g.0 g.1 a.1))
  pick_least (k ∷ q) (suc i) h g u a =
      let r = pick_least q i (omega arith) g.1 u.1 a.1 in
      let e : entry_of k < entry_of (get_or q i 0) = all_at (λ j. entry_of k < entry_of j) 0 q i (omega arith) u.0 in
      let w : get_or q i 0 ≡ key_of (dist (f (get_or q i 0))) (entry_of (get_or q i 0)) = all_at (λ j. j ≡ key_of (dist (f j)) (entry_of j)) 0 q i (omega arith) g.1 in
      let lt : dist (f (get_or q i 0)) < dist (f k) = omega (arith, g.0, w, a.0, e) in
      (f k, r.0 ∷ r.1, rw r.2, pick_tail dist (f k) r.0 r.1 (rw r.3 lt) ∙ rw r.3)

pub all_without : {A : Type 0} (P : A → Type 0) (i : ℕ) (l : List A) → All P l → All P (without i l)
unfolding without
all_without P i [] a = tt
all_without P zero (x ∷ l) a = a.1
all_without P (suc i) (x ∷ l) a = (a.0, all_without P i l a.1)

pub rising_without : (i : ℕ) (q : List ℕ) → Rising q → Rising (without i q)
unfolding without
rising_without i [] u = tt
rising_without zero (k ∷ q) u = u.1
rising_without (suc i) (k ∷ q) u = (all_without (λ j. entry_of k < entry_of j) i q u.0, rising_without i q u.1)
