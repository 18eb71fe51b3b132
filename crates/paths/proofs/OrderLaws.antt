-- Which extensions there are and in which order they stand: row k's, if there is one, stands before those by rows below k.
-- What is picked: the first entry, where it is no farther than what the rest picks, and then none is nearer; else what the rest picks, and then the first is farther.
-- Cites no law about `extensions` or `pick`, so that a definition in another order is refused here first.
use mathlib.Core.Path.{◌≡◌, refl, sym, ap, ◌∙◌}
use Prim.Native.Nat.{ℕ, zero, suc, ◌+◌, ◌*◌, ◌≤◌, ◌<◌}
use native.Mathlib.Omega.{arith}
use mathlib.Core.Bool.{Bool, true, false, ◌&&◌}
use mathlib.Core.List.{List, [], ◌∷◌, ◌++◌}
use lib.Dec.{ltb, eqb}
use borrow.Author.Tests.{leb-true, leb-false, ltb-true, ltb-false, eqb-true, eqb-false, lt-ltb, le-ltb}
use Rattle.paths.specs.Sums.{sum_by, bit, same_rows, times_in}
use Rattle.paths.specs.Chains.{first_after, extends, extensions}
use Rattle.paths.specs.Search.{before, choose, pick}
use Rattle.paths.specs.Best.{All}
use Rattle.paths.specs.Order.{HighestNodeFirst, is_extension, ExtensionOrder, Nearest, PickOrder}
use Rattle.paths.proofs.SumLaws.{bit_and}
use Rattle.paths.proofs.BestLaws.{all_map}

-- ---- extensions
-- the smallest case, which nothing cites: a definition in another order fails here first, in plain numbers
two_rows : extensions (λ c s. true) 2 [] ≡ (1 ∷ []) ∷ ((0 ∷ []) ∷ [])
unfolding extensions extends
two_rows = refl

module _ (follows : List ℕ → ℕ → Bool) (c : List ℕ) where
  -- row k's extension, if there is one, stands before those by rows below k
  next_highest : (k : ℕ) → All (λ y. first_after y < suc k) (extensions follows k c) → HighestNodeFirst (extensions follows k c)
      → (t : Bool) → extends follows c k ≡ t → HighestNodeFirst (extensions follows (suc k) c)
  unfolding extensions
  next_highest k below lower true e = rw e (below, lower)
  next_highest k below lower false e = rw e lower

  -- the extensions by rows below k end at nodes up to k
  next_below : (k m : ℕ) → k < m → All (λ y. first_after y < suc m) (extensions follows k c) → (t : Bool) → extends follows c k ≡ t
      → All (λ y. first_after y < suc m) (extensions follows (suc k) c)
  unfolding extensions
  next_below k m h below true e = rw e (omega arith, below)
  next_below k m h below false e = rw e below

  all_below : (k m : ℕ) → k ≤ m → All (λ y. first_after y < suc m) (extensions follows k c)
  unfolding extensions
  all_below zero m h = tt
  all_below (suc k) m h = next_below k m h (all_below k m (omega arith)) (extends follows c k) refl

  highest : (k : ℕ) → HighestNodeFirst (extensions follows k c)
  unfolding extensions
  highest zero = tt
  highest (suc k) = next_highest k (all_below k k (omega arith)) (highest k) (extends follows c k) refl

  -- a sum over the extensions by rows below k + 1 is row k's weight, if it extends c, and the sum over those by rows below k
  pub sum_next : (w : List ℕ → ℕ) (k : ℕ) (t : Bool) → extends follows c k ≡ t → sum_by w (extensions follows (suc k) c) ≡ bit t * w (k ∷ c) + sum_by w (extensions follows k c)
  unfolding extensions
  sum_next w k true e = rw e (omega arith)
  sum_next w k false e = rw e (omega arith)

  never_empty : (k : ℕ) → times_in [] (extensions follows k c) ≡ 0
  unfolding extensions
  never_empty zero = refl
  never_empty (suc k) = omega (arith, sum_next (λ a. bit (same_rows [] a)) k (extends follows c k) refl, never_empty k)

  -- how often s is the row of an extension of c below k
  unfoldable pub hits : ℕ → ℕ → ℕ
  hits s k = bit (ltb s k && extends follows c s)

  -- row s is row k, or it is below k exactly when it is below k + 1
  pub hits_suc : (s k : ℕ) → hits s (suc k) ≡ bit (extends follows c k) * bit (eqb s k) + hits s k
  unfolding hits
  hits_suc s k = go (eqb s k) refl
    where
      bits : (t : Bool) → bit (true && t) ≡ bit t * 1 + bit (false && t)
      bits true = refl
      bits false = refl

      go : (t : Bool) → eqb s k ≡ t → bit (ltb s (suc k) && extends follows c s) ≡ bit (extends follows c k) * bit t + bit (ltb s k && extends follows c s)
      go true e =
          let p : s ≡ k = eqb-true s k e in
          rw (lt-ltb s (suc k) (omega arith), le-ltb s k (omega arith), p) (bits (extends follows c k))
      go false e =
          let p : s ≡ k → ⊥ = eqb-false s k e in
          go2 (ltb s k) refl p
        where
          go2 : (t : Bool) → ltb s k ≡ t → (s ≡ k → ⊥) → bit (ltb s (suc k) && extends follows c s) ≡ bit (extends follows c k) * 0 + bit (t && extends follows c s)
          go2 true e p = rw (lt-ltb s (suc k) (omega (arith, ltb-true s k e))) (omega arith)
          go2 false e p = rw (le-ltb s (suc k) (omega (arith, ltb-false s k e))) (omega arith)

  pub hits_none : (s : ℕ) → hits s 0 ≡ 0
  unfolding hits
  hits_none s = rw (le-ltb s 0 (omega arith))

  stands : (s : ℕ) (x : List ℕ) (k : ℕ) → times_in (s ∷ x) (extensions follows k c) ≡ hits s k * bit (same_rows x c)
  unfolding extensions
  stands s x zero = rw (hits_none s) (omega arith)
  stands s x (suc k) =
      rw (hits_suc s k)
      (omega (arith, sum_next (λ a. bit (same_rows (s ∷ x) a)) k (extends follows c k) refl, stands s x k, ap (λ (m : ℕ). bit (extends follows c k) * m) (bit_and (eqb s k) (same_rows x c))))

  each_once : (k : ℕ) (x : List ℕ) → times_in x (extensions follows k c) ≡ bit (is_extension follows k c x)
  unfolding hits
  each_once k [] = never_empty k
  each_once k (s ∷ x) = stands s x k ∙ sym (bit_and (same_rows x c) (ltb s k && extends follows c s))

pub extension_order : ExtensionOrder
extension_order = record { each_once = λ follows n c x. each_once follows c n x; highest_first = λ follows n c. highest follows c n }

-- ---- what is picked
all_both : {A : Type 0} (P : A → Type 0) (a b : List A) (y : A) → All P a → P y → All P b → All P (a ++ (y ∷ b))
all_both P [] b y f g h = (g, h)
all_both P (x ∷ a) b y f g h = (f.0, all_both P a b y f.1 g h)

module _ {A : Type 0} (dist : A → ℕ) where
  -- no entry of the queue is nearer
  none_nearer : {queue rest : List A} {y : A} → Nearest dist queue y rest → All (λ a. dist y ≤ dist a) queue
  none_nearer {queue} {rest} {y} h =
      let earlier = all_map (λ a. dist y < dist a) (λ a. dist y ≤ dist a) (λ a l. omega arith) h.earlier h.earlier_farther in
      rw h.stood (all_both (λ a. dist y ≤ dist a) h.earlier h.later y earlier (omega arith) h.later_no_nearer)

  -- the first entry is taken or left
  chosen : (x : A) (q : List A) (y : A) (rest : List A) → Nearest dist q y rest → (t : Bool) → before dist x y ≡ t
      → Nearest dist (x ∷ q) (choose t x q (y, rest)).0 (choose t x q (y, rest)).1
  chosen x q y rest h true e = record {
    earlier = [];
    later = q;
    stood = refl;
    is_left = refl;
    earlier_farther = tt;
    later_no_nearer = all_map (λ a. dist y ≤ dist a) (λ a. dist x ≤ dist a) (λ a l. omega (arith, leb-true)) q (none_nearer h);
  }
  chosen x q y rest h false e = record {
    earlier = x ∷ h.earlier;
    later = h.later;
    stood = ap (λ (l : List A). x ∷ l) h.stood;
    is_left = ap (λ (l : List A). x ∷ l) h.is_left;
    earlier_farther = (omega (arith, leb-false), h.earlier_farther);
    later_no_nearer = h.later_no_nearer;
  }

  nearest : (x : A) (q : List A) → Nearest dist (x ∷ q) (pick dist x q).0 (pick dist x q).1
  unfolding pick
  nearest x [] = record { earlier = []; later = []; stood = refl; is_left = refl; earlier_farther = tt; later_no_nearer = tt }
  nearest x (y ∷ q) = chosen x (y ∷ q) (pick dist y q).0 (pick dist y q).1 (nearest y q) (before dist x (pick dist y q).0) refl

pub pick_order : PickOrder
pick_order A dist x q = nearest dist x q
