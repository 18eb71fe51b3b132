-- A heap with a hole: a place whose key is not looked at. The order is asked of every other key, and across the hole. The key above comes down into the hole, or
-- the least key below goes up, and leaves the hole where it stood; the hole is filled where the key in hand is not below the one above and not above those below.
-- What the list holds is counted key by key: with the key in hand in the hole, each number stands as often as it should, and a move changes no count. Assumes nothing.
use mathlib.Core.Path.{◌≡◌, refl, sym, ap, ◌∙◌}
use mathlib.Core.Logic.{◌≢◌}
use Prim.Native.Nat.{ℕ, zero, suc, ◌+◌, ◌-◌, ◌*◌, ◌≤◌, ◌<◌}
use native.Mathlib.Omega.{arith}
use mathlib.Core.Bool.{Bool, true, false}
use mathlib.Core.List.{List, [], ◌∷◌, ◌++◌}
use lib.Dec.{eqb}
use lib.ListN.{length, get_or, set, take, length-set, length-append}
use lib.Seq.{get_or-set_same, get_or-set_other, take-set-lt, get_or-take, take-suc, length-take-le}
use borrow.Author.Tests.{eqb-true, eqb-false, eq-eqb}
use Rattle.paths.specs.Sums.{bit}
use Rattle.paths.specs.Heap.{above_of, Ordered, times, Heap, Taken, LeastBelow}

-- ---- what a list holds

times_set : (x : ℕ) (l : List ℕ) (i a : ℕ) → i < length l → times x (set l i a) + bit (eqb x (get_or l i 0)) ≡ times x l + bit (eqb x a)
unfolding times
times_set x [] i a h = absurd (omega arith)
times_set x (y ∷ l) zero a h = omega arith
times_set x (y ∷ l) (suc i) a h = omega (arith, times_set x l i a (omega arith))

times_append : (x : ℕ) (a b : List ℕ) → times x (a ++ b) ≡ times x a + times x b
unfolding times
times_append x [] b = omega arith
times_append x (y ∷ a) b = omega (arith, times_append x a b)

module _ (x : ℕ) (h : List ℕ) (n : ℕ) (w : n ≤ length h) where
  times_store : (i a : ℕ) → i < n → times x (take n (set h i a)) + bit (eqb x (get_or h i 0)) ≡ times x (take n h) + bit (eqb x a)
  times_store i a l = rw (take-set-lt n h i a l, ← get_or-take n h i 0 l) (times_set x (take n h) i a (omega (arith, length-take-le n h w)))

times_last : (x : ℕ) (h : List ℕ) (n : ℕ) → n < length h → times x (take (n + 1) h) ≡ times x (take n h) + bit (eqb x (get_or h n 0))
unfolding times
times_last x h n l =
    let e : n + 1 ≡ suc n = omega arith in
    rw (e, take-suc h n 0 l) (times_append x (take n h) (get_or h n 0 ∷ []) ∙ omega arith)

-- ---- the order

-- the front is the least
front_least : (h : List ℕ) (n : ℕ) → Ordered h n → (f i : ℕ) → i ≤ f → i < n → get_or h 0 0 ≤ get_or h i 0
front_least h n o zero zero p l = omega arith
front_least h n o zero (suc i) p l = absurd (omega arith)
front_least h n o (suc f) zero p l = omega arith
front_least h n o (suc f) (suc i) p l = omega (arith, front_least h n o f (above_of (suc i)) (omega arith) (omega arith), o (suc i) (omega arith) l)

-- in order but for the key at place i, which is not looked at
pub record Hole (h : List ℕ) (n i : ℕ) : Type 0 where
  pub around : (j : ℕ) → 0 < j → j < n → j ≢ i → above_of j ≢ i → get_or h (above_of j) 0 ≤ get_or h j 0
  pub across : (j : ℕ) → 0 < j → j < n → above_of j ≡ i → 0 < i → get_or h (above_of i) 0 ≤ get_or h j 0

-- no key below the hole is below k
abbrev pub FitsBelow : List ℕ → ℕ → ℕ → ℕ → Type 0
FitsBelow h n i k = (j : ℕ) → 0 < j → j < n → above_of j ≡ i → k ≤ get_or h j 0

-- the key above the hole is not above k
abbrev pub FitsAbove : List ℕ → ℕ → ℕ → Type 0
FitsAbove h i k = 0 < i → get_or h (above_of i) 0 ≤ k

module _ {h : List ℕ} {n i : ℕ} (o : Hole h n i) (li : i < n) (w : n ≤ length h) where
  at_i : (a : ℕ) → get_or (set h i a) i 0 ≡ a
  at_i a = get_or-set_same h i a 0 (omega arith)

  at_j : (a j : ℕ) → j ≢ i → get_or (set h i a) j 0 ≡ get_or h j 0
  at_j a j ne = get_or-set_other h i j a 0 ne

  -- a key in order with those above and below fills the hole
  module _ (k : ℕ) (above : FitsAbove h i k) (below : FitsBelow h n i k) where
    filled_at : (j : ℕ) → 0 < j → j < n → (t : Bool) → eqb j i ≡ t → (u : Bool) → eqb (above_of j) i ≡ u → get_or (set h i k) (above_of j) 0 ≤ get_or (set h i k) j 0
    filled_at j p l true e u f =
        let m : j ≡ i = eqb-true j i e in
        let ne : above_of i ≢ i = omega arith in
        rw m (omega (arith, at_i k, at_j k (above_of i) ne, above (omega arith)))
    filled_at j p l false e true f =
        let m : above_of j ≡ i = eqb-true (above_of j) i f in
        rw m (omega (arith, at_i k, at_j k j (eqb-false j i e), below j p l m))
    filled_at j p l false e false f =
        omega (arith, at_j k j (eqb-false j i e), at_j k (above_of j) (eqb-false (above_of j) i f), o.around j p l (eqb-false j i e) (eqb-false (above_of j) i f))

    filled : Ordered (set h i k) n
    filled j p l = filled_at j p l (eqb j i) refl (eqb (above_of j) i) refl

  -- the hole goes up
  module _ (z : 0 < i) where
    up_around : (j : ℕ) → 0 < j → j < n → j ≢ above_of i → above_of j ≢ above_of i → (u : Bool) → eqb (above_of j) i ≡ u
        → get_or (set h i (get_or h (above_of i) 0)) (above_of j) 0 ≤ get_or (set h i (get_or h (above_of i) 0)) j 0
    up_around j p l a b true f =
        let m : above_of j ≡ i = eqb-true (above_of j) i f in
        let ne : j ≢ i = omega arith in
        rw m (omega (arith, at_i (get_or h (above_of i) 0), at_j (get_or h (above_of i) 0) j ne, o.across j p l m z))
    up_around j p l a b false f =
        let ne : j ≢ i = λ e. b (ap above_of e) in
        omega (arith, at_j (get_or h (above_of i) 0) j ne, at_j (get_or h (above_of i) 0) (above_of j) (eqb-false (above_of j) i f), o.around j p l ne (eqb-false (above_of j) i f))

    up_across : (j : ℕ) → 0 < j → j < n → above_of j ≡ above_of i → 0 < above_of i → (t : Bool) → eqb j i ≡ t
        → get_or (set h i (get_or h (above_of i) 0)) (above_of (above_of i)) 0 ≤ get_or (set h i (get_or h (above_of i) 0)) j 0
    up_across j p l m y true e =
        let k : j ≡ i = eqb-true j i e in
        let ne : above_of (above_of i) ≢ i = omega arith in
        rw k (omega (arith, at_i (get_or h (above_of i) 0), at_j (get_or h (above_of i) 0) (above_of (above_of i)) ne, o.around (above_of i) y (omega arith) (omega arith) ne))
    up_across j p l m y false e =
        let k : j ≢ i = eqb-false j i e in
        let ne : above_of (above_of i) ≢ i = omega arith in
        let q : get_or h (above_of i) 0 ≤ get_or h j 0 = rw m at (o.around j p l k (omega arith)) in
        omega (arith, at_j (get_or h (above_of i) 0) j k, at_j (get_or h (above_of i) 0) (above_of (above_of i)) ne, o.around (above_of i) y (omega arith) (omega arith) ne)

    hole_up : Hole (set h i (get_or h (above_of i) 0)) n (above_of i)
    hole_up = record {
      around = λ j p l a b. up_around j p l a b (eqb (above_of j) i) refl;
      across = λ j p l m y. up_across j p l m y (eqb j i) refl;
    }

  -- the hole goes down to the least of the places below it
  module _ (c : ℕ) (q : LeastBelow h n i c) where
    down_around : (j : ℕ) → 0 < j → j < n → j ≢ c → above_of j ≢ c → (t : Bool) → eqb j i ≡ t → (u : Bool) → eqb (above_of j) i ≡ u
        → get_or (set h i (get_or h c 0)) (above_of j) 0 ≤ get_or (set h i (get_or h c 0)) j 0
    down_around j p l a b true e u f =
        let m : j ≡ i = eqb-true j i e in
        let ne : above_of i ≢ i = omega arith in
        rw m (omega (arith, at_i (get_or h c 0), at_j (get_or h c 0) (above_of i) ne, o.across c q.after q.within q.below (omega arith)))
    down_around j p l a b false e true f =
        let m : above_of j ≡ i = eqb-true (above_of j) i f in
        rw m (omega (arith, at_i (get_or h c 0), at_j (get_or h c 0) j (eqb-false j i e), q.least j p l m))
    down_around j p l a b false e false f =
        omega (arith, at_j (get_or h c 0) j (eqb-false j i e), at_j (get_or h c 0) (above_of j) (eqb-false (above_of j) i f), o.around j p l (eqb-false j i e) (eqb-false (above_of j) i f))

    down_across : (j : ℕ) → 0 < j → j < n → above_of j ≡ c → 0 < c → get_or (set h i (get_or h c 0)) (above_of c) 0 ≤ get_or (set h i (get_or h c 0)) j 0
    down_across j p l m y =
        let b : above_of c ≡ i = q.below in
        let ne : j ≢ i = omega arith in
        let nc : above_of j ≢ i = omega arith in
        let r : get_or h c 0 ≤ get_or h j 0 = rw m at (o.around j p l ne nc) in
        rw b (omega (arith, at_i (get_or h c 0), at_j (get_or h c 0) j ne))

    hole_down : Hole (set h i (get_or h c 0)) n c
    hole_down = record {
      around = λ j p l a b. down_around j p l a b (eqb j i) refl (eqb (above_of j) i) refl;
      across = λ j p l m y. down_across j p l m y;
    }

-- ---- the hole on its way

-- with k in the hole at place i, the first n keys of h hold what stands in l
pub record Open (h : List ℕ) (n i k : ℕ) (l : List ℕ) : Type 0 where
  pub in_it : i < n
  pub room : n ≤ length h
  pub hole : Hole h n i
  pub many : length l ≡ n
  pub same : (x : ℕ) → times x l + bit (eqb x (get_or h i 0)) ≡ times x (take n h) + bit (eqb x k)

module _ {h : List ℕ} {n i k : ℕ} {l : List ℕ} (o : Open h n i k l) where
  same_moved : (c : ℕ) → c ≢ i → (x : ℕ) → times x l + bit (eqb x (get_or (set h i (get_or h c 0)) c 0)) ≡ times x (take n (set h i (get_or h c 0))) + bit (eqb x k)
  same_moved c ne x =
      omega (arith, o.same x, times_store x h n o.room i (get_or h c 0) o.in_it, ap (λ (m : ℕ). bit (eqb x m)) (get_or-set_other h i c (get_or h c 0) 0 ne))

  pub close : FitsAbove h i k → FitsBelow h n i k → Heap (set h i k) n l
  close a b = record {
    order = filled o.hole o.in_it o.room k a b;
    many = o.many;
    same = λ x. omega (arith, o.same x, times_store x h n o.room i k o.in_it);
  }

  pub go_up : 0 < i → Open (set h i (get_or h (above_of i) 0)) n (above_of i) k l
  go_up z = record {
    in_it = omega (arith, o.in_it);
    room = simp length-set o.room;
    hole = hole_up o.hole o.in_it o.room z;
    many = o.many;
    same = same_moved (above_of i) (omega arith);
  }

  pub go_down : (c : ℕ) → LeastBelow h n i c → Open (set h i (get_or h c 0)) n c k l
  go_down c q = record {
    in_it = q.within;
    room = simp length-set o.room;
    hole = hole_down o.hole o.in_it o.room c q;
    many = o.many;
    same = same_moved c (omega (arith, q.below, q.after));
  }

  fits_lifted : 0 < i → k < get_or h (above_of i) 0 → FitsBelow h n i k → (j : ℕ) → 0 < j → j < n → above_of j ≡ above_of i → (t : Bool) → eqb j i ≡ t → k ≤ get_or
      (set h i (get_or h (above_of i) 0)) j 0
  fits_lifted z q b j p r m true e =
      let y : j ≡ i = eqb-true j i e in
      rw y (omega (arith, get_or-set_same h i (get_or h (above_of i) 0) 0 (omega (arith, o.in_it, o.room))))
  fits_lifted z q b j p r m false e =
      let ne : j ≢ i = eqb-false j i e in
      let y : get_or h (above_of i) 0 ≤ get_or h j 0 = rw m at (o.hole.around j p r ne (omega arith)) in
      omega (arith, get_or-set_other h i j (get_or h (above_of i) 0) 0 ne)

  -- the key above is greater, and comes down
  pub fits_up : 0 < i → k < get_or h (above_of i) 0 → FitsBelow h n i k → FitsBelow (set h i (get_or h (above_of i) 0)) n (above_of i) k
  fits_up z q b j p r m = fits_lifted z q b j p r m (eqb j i) refl

  -- the least key below is smaller, and goes up
  pub fits_down : (c : ℕ) → LeastBelow h n i c → get_or h c 0 < k → FitsAbove (set h i (get_or h c 0)) c k
  fits_down c q y z =
      let b : above_of c ≡ i = q.below in
      rw b (omega (arith, get_or-set_same h i (get_or h c 0) 0 (omega (arith, o.in_it, o.room))))

-- a key more: the hole is behind the n keys
pub open_end : (h : List ℕ) (n k : ℕ) → n < length h → Ordered h n → (Open h (n + 1) n k (take n h ++ (k ∷ []))) × (FitsBelow h (n + 1) n k)
unfolding times
open_end h n k l o = (
  record {
    in_it = omega arith;
    room = omega arith;
    hole = record { around = λ j p q a b. o j p (omega arith); across = λ j p q m z. absurd (omega arith) };
    many = omega (arith, length-append (take n h) (k ∷ []), length-take-le n h (omega arith));
    same = λ x. omega (arith, times_last x h n l, times_append x (take n h) (k ∷ []));
  },
  λ j p q m. absurd (omega arith),
)

-- the front key is replaced: the hole is at the front
pub open_front : (h : List ℕ) (n k : ℕ) → 0 < n → n ≤ length h → Ordered h n → (Open h n 0 k (take n (set h 0 k))) × (FitsAbove h 0 k)
open_front h n k p l o = (
  record {
    in_it = p;
    room = l;
    hole = record { around = λ j z q a b. o j z q; across = λ j z q m y. absurd (omega arith) };
    many = length-take-le n (set h 0 k) (simp length-set l);
    same = λ x. times_store x h n l 0 k p;
  },
  λ z. absurd (omega arith),
)

-- the places below place i are 2 i + 1 and, where there is one more, the next
module _ (h : List ℕ) (n i c : ℕ) (from : 2 * i + 1 ≤ c) (to : c ≤ 2 * i + 1 + 1) (l : c < n)
    (left : get_or h c 0 ≤ get_or h (2 * i + 1) 0) (right : 2 * i + 1 + 1 < n → get_or h c 0 ≤ get_or h (2 * i + 1 + 1) 0) where
  least_at : (j : ℕ) → 0 < j → j < n → above_of j ≡ i → (t : Bool) → eqb j (2 * i + 1) ≡ t → get_or h c 0 ≤ get_or h j 0
  least_at j p q m true e = let y : j ≡ 2 * i + 1 = eqb-true j (2 * i + 1) e in rw y left
  least_at j p q m false e =
      let ne : j ≢ 2 * i + 1 = eqb-false j (2 * i + 1) e in
      let y : j ≡ 2 * i + 1 + 1 = omega arith in
      rw y (right (omega arith))

  pub least_below_lem : LeastBelow h n i c
  least_below_lem = record { after = omega arith; within = l; below = omega arith; least = λ j p q m. least_at j p q m (eqb j (2 * i + 1)) refl }

-- no place is below place i
pub none_below : (h : List ℕ) (n i k : ℕ) → n ≤ 2 * i + 1 → FitsBelow h n i k
none_below h n i k l j p q m = absurd (omega arith)

-- no key is below the least of those below place i
pub fits_least : {h : List ℕ} {n i c k : ℕ} → LeastBelow h n i c → k ≤ get_or h c 0 → FitsBelow h n i k
fits_least {h} q l j p r m = omega (arith, q.least j p r m)

-- ---- the front key is taken

-- the last key has taken the front's place
pub taken_off : {h h' : List ℕ} (n : ℕ) → 1 < n → n ≤ length h → Ordered h n → Heap h' (n - 1) (take (n - 1) (set h 0 (get_or h (n - 1) 0))) → Taken h n h'
unfolding times
taken_off {h} {h'} n p l r o = record {
  least = λ j k. front_least h n r j j (omega arith) k;
  order = o.order;
  same = λ x.
      let e : n ≡ n - 1 + 1 = omega arith in
      let q : times x (take n h) ≡ times x (take (n - 1) h) + bit (eqb x (get_or h (n - 1) 0)) = ap (λ (m : ℕ). times x (take m h)) e ∙ times_last x h (n - 1) (omega arith) in
      omega (arith, q, o.same x, times_store x h (n - 1) (omega arith) 0 (get_or h (n - 1) 0) (omega arith));
}

-- the only key
pub taken_only : (h : List ℕ) (n : ℕ) → n ≡ 1 → 1 ≤ length h → Taken h n h
unfolding times
taken_only [] n e l = absurd (omega arith)
taken_only (k ∷ h) n e l = rw e (record { least = λ j q. let z : j ≡ 0 = omega arith in rw z (omega arith); order = λ j p q. absurd (omega arith); same = λ x. refl })

-- ---- a heap of what another list holds

-- l without what stands at place i
unfoldable pub without : {A : Type 0} → ℕ → List A → List A
without i [] = []
without zero (x ∷ l) = l
without (suc i) (x ∷ l) = x ∷ without i l

length_without : {A : Type 0} (i : ℕ) (l : List A) → i < length l → length (without i l) ≡ length l - 1
unfolding without
length_without i [] h = absurd (omega arith)
length_without zero (x ∷ l) h = omega arith
length_without (suc i) (x ∷ l) h = omega (arith, length_without i l (omega arith))

times_without : (x i : ℕ) (l : List ℕ) → i < length l → times x (without i l) + bit (eqb x (get_or l i 0)) ≡ times x l
unfolding times without
times_without x i [] h = absurd (omega arith)
times_without x zero (y ∷ l) h = omega arith
times_without x (suc i) (y ∷ l) h = omega (arith, times_without x i l (omega arith))

-- x stands at a place of l
Stands : ℕ → List ℕ → Type 0
Stands x l = (i : ℕ) × (i < length l) × (get_or l i 0 ≡ x)

stands : (x : ℕ) (l : List ℕ) → 0 < times x l → Stands x l
unfolding times Stands
stands x [] h = absurd (omega arith)
stands x (y ∷ l) h = go (eqb x y) refl (stands x l)
  where
    go : (t : Bool) → eqb x y ≡ t → (0 < times x l → Stands x l) → Stands x (y ∷ l)
    go true e r = (0, omega arith, sym (eqb-true x y e))
    go false e r = let s = r (omega (arith, h, ap bit e)) in (suc s.0, omega (arith, s.1), s.2)

times_at : (l : List ℕ) (i : ℕ) → i < length l → 0 < times (get_or l i 0) l
unfolding times
times_at [] i h = absurd (omega arith)
times_at (y ∷ l) zero h = omega (arith, ap bit (eq-eqb y y refl))
times_at (y ∷ l) (suc i) h = omega (arith, times_at l i (omega arith))

module _ {h : List ℕ} {n : ℕ} {l : List ℕ} (o : Heap h n l) (w : n ≤ length h) where
  -- the front key is one of them
  pub front_stands : 0 < n → (i : ℕ) × (i < length l) × (get_or l i 0 ≡ get_or h 0 0)
  unfolding Stands
  front_stands p =
      let e : get_or (take n h) 0 0 ≡ get_or h 0 0 = get_or-take n h 0 0 p in
      let k : 0 < times (get_or h 0 0) (take n h) = rw e at (times_at (take n h) 0 (omega (arith, length-take-le n h w))) in
      stands (get_or h 0 0) l (omega (arith, o.same (get_or h 0 0)))

  -- and none of them is below it
  pub front_below : {h' : List ℕ} → Taken h n h' → (j : ℕ) → j < length l → get_or h 0 0 ≤ get_or l j 0
  unfolding Stands
  front_below t j q =
      let s = stands (get_or l j 0) (take n h) (omega (arith, o.same (get_or l j 0), times_at l j q)) in
      let m : s.0 < n = omega (arith, s.1, length-take-le n h w) in
      omega (arith, s.2, get_or-take n h s.0 0 m, t.least s.0 m)

  -- what was put to it stands behind the list
  pub heap_more : {h' : List ℕ} {m : ℕ} (f : List ℕ) → Heap h' m (take n h ++ f) → Heap h' m (l ++ f)
  heap_more f p = record {
    order = p.order;
    many = omega (arith, p.many, o.many, length-append (take n h) f, length-append l f, length-take-le n h w);
    same = λ x. omega (arith, p.same x, o.same x, times_append x (take n h) f, times_append x l f);
  }

  -- the front key is gone from the list
  pub heap_less : {h' : List ℕ} (i : ℕ) → i < length l → get_or l i 0 ≡ get_or h 0 0 → Taken h n h' → Heap h' (n - 1) (without i l)
  unfolding times
  heap_less i q e t = record {
    order = t.order;
    many = omega (arith, o.many, length_without i l q);
    same = λ x. omega (arith, t.same x, o.same x, times_without x i l q, ap (λ (m : ℕ). bit (eqb x m)) e);
  }
