-- The lists that take p begin with p, those that do not begin later: so a list stands in at most one of the two, and the first are before the second.
-- The lists of one length are followed by shorter ones.
use Prim.Native.Nat.{ℕ, zero, suc, ◌+◌, ◌-◌, ◌≤◌, ◌<◌, max}
use native.Mathlib.Omega.{arith}
use native.Mathlib.Nat.{le_of_suc-le-suc, not-suc-le-zero}
use mathlib.Core.Path.{◌≡◌, refl, sym, ap, ◌∙◌}
use mathlib.Core.Bool.{Bool, true, false, ◌&&◌}
use mathlib.Core.List.{List, [], ◌∷◌, ◌++◌, map}
use borrow.Author.Tests.{lt-ltb, le-ltb, le-leb, lt-leb, eq-eqb, ne_eqb, leb-true, leb-false, eqb-true, eqb-false}
use lib.Dec.{leb, ltb, eqb, eqb-zero-suc, eqb-suc-zero, eqb-suc-suc}
use lib.ListN.{length}
use Rattle.paths.specs.Sums.{bit, same_rows, times_in}
use Rattle.paths.proofs.SumLaws.{sum_append}
use Rattle.kplib.specs.Parts.{choices, falling_lists, lengths_of, part_lists}
use Rattle.kplib.proofs.PartLaws.{whole_only, all_lengths}
use Rattle.paths.specs.Best.{All}
use Rattle.paths.proofs.BestLaws.{all_map}
use Rattle.audit.specs.PartOrder.{ascending, lex_before, longer_first, InOrder, StandsWhen, PartOrder}

-- ---- tests
same_leb : (a b c d : ℕ) → (a ≤ b → c ≤ d) → (c ≤ d → a ≤ b) → leb a b ≡ leb c d
same_leb a b c d f g = go (leb a b) refl
  where
    go : (t : Bool) → leb a b ≡ t → leb a b ≡ leb c d
    go true e = e ∙ sym (le-leb c d (f (leb-true a b e)))
    go false e = go' (leb c d) refl
      where
        go' : (u : Bool) → leb c d ≡ u → leb a b ≡ leb c d
        go' true h = let k = g (leb-true c d h) in let l = leb-false a b e in absurd (omega (arith, k, l))
        go' false h = e ∙ sym h

-- ---- membership
-- among the lists that begin with p, one that does stands as often as its rest stands among the rests, another never
module _ (a p : ℕ) (y : List ℕ) where
  taken : a ≡ p → (l : List (List ℕ)) → times_in (a ∷ y) (map (λ (x : List ℕ). p ∷ x) l) ≡ times_in y l
  taken e [] = refl
  taken e (x ∷ l) = rw (eq-eqb a p e, taken e l)

  not_taken : (a ≡ p → ⊥) → (l : List (List ℕ)) → times_in (a ∷ y) (map (λ (x : List ℕ). p ∷ x) l) ≡ 0
  not_taken e [] = refl
  not_taken e (x ∷ l) = rw (ne_eqb a p e, not_taken e l)

never_empty : (p : ℕ) (l : List (List ℕ)) → times_in [] (map (λ (x : List ℕ). p ∷ x) l) ≡ 0
never_empty p [] = refl
never_empty p (x ∷ l) = rw (never_empty p l)

no_bit : (b c : Bool) → c ≡ false → bit (b && c) ≡ 0
no_bit true c h = rw h
no_bit false c h = refl

-- no position is from `low` on and below an end that is not beyond `low`
no_room : (low end a : ℕ) (rest q : Bool) → end ≤ low → bit ((leb low a && (ltb a end && rest)) && q) ≡ 0
no_room low end a rest q h = go (leb low a) refl
  where
    go : (t : Bool) → leb low a ≡ t → bit ((t && (ltb a end && rest)) && q) ≡ 0
    go true e = let k = leb-true low a e in let z = le-ltb a end (omega (arith, k)) in rw z
    go false e = refl

-- a list begins with p, or later
module _ (p end a : ℕ) (rest q : Bool) where
  begins_with : p < end → a ≡ p → bit (rest && q) + bit ((leb (suc p) a && (ltb a end && rest)) && q) ≡ bit ((leb p a && (ltb a end && rest)) && q)
  begins_with h e = rw (lt-leb (suc p) a (omega arith), le-leb p a (omega arith), lt-ltb a end (omega arith)) (omega arith)

  begins_later : (a ≡ p → ⊥) → bit ((leb (suc p) a && (ltb a end && rest)) && q) ≡ bit ((leb p a && (ltb a end && rest)) && q)
  begins_later e = rw (same_leb (suc p) a p a (λ h. omega arith) (λ h. omega (arith, e)))

-- the lists that take p, and how often a list stands in these and in those that do not
abbrev taking : ℕ → ℕ → ℕ → List (List ℕ)
taking left p n = map (λ (l : List ℕ). p ∷ l) (choices left (suc p) n)

in_either : (left p n : ℕ) (x : List ℕ) → times_in x (choices (suc left) p (suc n)) ≡ times_in x (taking left p n) + times_in x (choices left (suc p) (suc n))
unfolding choices
in_either left p n x = sum_append (λ l. bit (same_rows x l)) (taking left p n) (choices left (suc p) (suc n))

abbrev Chosen : ℕ → ℕ → ℕ → List ℕ → Type 0
Chosen left p n x = StandsWhen x (choices left p n) (ascending p (p + left) x && eqb (length x) n)

module _ (left p n a : ℕ) (y : List ℕ) (rest : Chosen left (suc p) n y) (later : Chosen left (suc p) (suc n) (a ∷ y)) where
  abbrev end : ℕ
  end = p + suc left

  moved : suc p + left ≡ end
  moved = omega arith

  chosen_cons : (t : Bool) → eqb a p ≡ t → Chosen (suc left) p (suc n) (a ∷ y)
  chosen_cons true e =
      let h : a ≡ p = eqb-true a p e in
      let r : times_in y (choices left (suc p) n) ≡ bit (ascending (suc a) end y && eqb (length (a ∷ y)) (suc n)) = rw (h, eqb-suc-suc (length y) n, ← moved) rest in
      let l : times_in (a ∷ y) (choices left (suc p) (suc n)) ≡ bit ((leb (suc p) a && (ltb a end && ascending (suc a) end y)) && eqb (length (a ∷ y)) (suc n)) = rw (← moved) later in
      omega (arith, in_either left p n (a ∷ y), taken a p y h (choices left (suc p) n), r, l, begins_with p end a (ascending (suc a) end y) (eqb (length (a ∷ y)) (suc n)) (omega arith) h)
  chosen_cons false e =
      let h = eqb-false a p e in
      let l : times_in (a ∷ y) (choices left (suc p) (suc n)) ≡ bit ((leb (suc p) a && (ltb a end && ascending (suc a) end y)) && eqb (length (a ∷ y)) (suc n)) = rw (← moved) later in
      omega (arith, in_either left p n (a ∷ y), not_taken a p y h (choices left (suc p) n), l, begins_later p end a (ascending (suc a) end y) (eqb (length (a ∷ y)) (suc n)) h)

chosen : (left p n : ℕ) (x : List ℕ) → Chosen left p n x
unfolding choices
chosen left p zero [] = refl
chosen left p zero (a ∷ y) = sym (no_bit (ascending p (p + left) (a ∷ y)) (eqb (length (a ∷ y)) 0) (eqb-suc-zero (length y)))
chosen zero p (suc n) [] = rw (eqb-zero-suc n)
chosen zero p (suc n) (a ∷ y) = sym (no_room p (p + 0) a (ascending (suc a) (p + 0) y) (eqb (length (a ∷ y)) (suc n)) (omega arith))
chosen (suc left) p (suc n) [] = omega (arith, in_either left p n [], never_empty p (choices left (suc p) n), chosen left (suc p) (suc n) [])
chosen (suc left) p (suc n) (a ∷ y) = chosen_cons left p n a y (chosen left (suc p) n y) (chosen left (suc p) (suc n) (a ∷ y)) (eqb a p) refl

-- ---- order
all_append : (P : List ℕ → Type 0) (a b : List (List ℕ)) → All P a → All P b → All P (a ++ b)
all_append P [] b h k = k
all_append P (x ∷ a) b h k = (h.0, all_append P a b h.1 k)

-- with p before each
all_with : (P Q : List ℕ → Type 0) (p : ℕ) → ((x : List ℕ) → P x → Q (p ∷ x)) → (l : List (List ℕ)) → All P l → All Q (map (λ (x : List ℕ). p ∷ x) l)
all_with P Q p give [] h = tt
all_with P Q p give (x ∷ l) h = (give x h.0, all_with P Q p give l h.1)

order_append : (before : List ℕ → List ℕ → Bool) (a b : List (List ℕ)) → InOrder before a → InOrder before b → All (λ x. All (λ y. before x y ≡ true) b) a → InOrder before (a ++ b)
order_append before [] b h k across = k
order_append before (x ∷ a) b h k across = (all_append (λ y. before x y ≡ true) a b h.0 across.0, order_append before a b h.1 k across.1)

order_with : (p : ℕ) (l : List (List ℕ)) → InOrder lex_before l → InOrder lex_before (map (λ (x : List ℕ). p ∷ x) l)
order_with p [] h = tt
order_with p (x ∷ l) h = (
  all_with (λ y. lex_before x y ≡ true) (λ y. lex_before (p ∷ x) y ≡ true) p (λ y k. rw (le-ltb p p (omega arith), eq-eqb p p refl) k) l h.0,
  order_with p l h.1,
)

abbrev Sized : ℕ → List ℕ → Type 0
Sized n x = length x ≡ n

chosen_sized : (left p n : ℕ) → All (Sized n) (choices left p n)
unfolding choices
chosen_sized left p zero = (refl, tt)
chosen_sized zero p (suc n) = tt
chosen_sized (suc left) p (suc n) =
    all_append (Sized (suc n)) (taking left p n) (choices left (suc p) (suc n))
    (all_with (Sized n) (Sized (suc n)) p (λ x h. ap suc h) (choices left (suc p) n) (chosen_sized left (suc p) n))
    (chosen_sized left (suc p) (suc n))

-- a list that begins with p or later
StartsFrom : ℕ → List ℕ → Type 0
StartsFrom p [] = ⊥
StartsFrom p (a ∷ x) = p ≤ a

starts_later : (p : ℕ) (x : List ℕ) → StartsFrom (suc p) x → StartsFrom p x
unfolding StartsFrom
starts_later p [] h = h
starts_later p (a ∷ x) h = omega arith

starts_before : (p : ℕ) (x y : List ℕ) → StartsFrom (suc p) y → lex_before (p ∷ x) y ≡ true
unfolding StartsFrom
starts_before p x [] h = absurd h
starts_before p x (b ∷ y) h = rw (lt-ltb p b h)

chosen_start : (left p n : ℕ) → All (StartsFrom p) (choices left p (suc n))
unfolding choices StartsFrom
chosen_start zero p n = tt
chosen_start (suc left) p n =
    all_append (StartsFrom p) (taking left p n) (choices left (suc p) (suc n))
    (all_with (Sized n) (StartsFrom p) p (λ x h. omega arith) (choices left (suc p) n) (chosen_sized left (suc p) n))
    (all_map (StartsFrom (suc p)) (StartsFrom p) (starts_later p) (choices left (suc p) (suc n)) (chosen_start left (suc p) n))

chosen_order : (left p n : ℕ) → InOrder lex_before (choices left p n)
unfolding choices
chosen_order left p zero = (tt, tt)
chosen_order zero p (suc n) = tt
chosen_order (suc left) p (suc n) =
    let later = choices left (suc p) (suc n) in
    order_append lex_before (taking left p n) later
    (order_with p (choices left (suc p) n) (chosen_order left (suc p) n))
    (chosen_order left (suc p) (suc n))
    (all_with (Sized n) (λ x. All (λ y. lex_before x y ≡ true) later) p
    (λ x h. all_map (StartsFrom (suc p)) (λ y. lex_before (p ∷ x) y ≡ true) (starts_before p x) later (chosen_start left (suc p) n))
    (choices left (suc p) n) (chosen_sized left (suc p) n))

-- ---- all lengths
-- among lists of one length the two orders are the same
one_length : (n : ℕ) (l : List (List ℕ)) → All (Sized n) l → InOrder lex_before l → InOrder longer_first l
one_length n [] h k = tt
one_length n (x ∷ l) h k = (both l h.1 k.0, one_length n l h.1 k.1)
  where
    both : (l : List (List ℕ)) → All (Sized n) l → All (λ y. lex_before x y ≡ true) l → All (λ y. longer_first x y ≡ true) l
    both [] s b = tt
    both (y ∷ l) s b =
        let e : length y ≡ length x = s.0 ∙ sym h.0 in
        (rw (le-ltb (length y) (length x) (omega arith), eq-eqb (length y) (length x) e) b.0, both l s.1 b.1)

abbrev Short : ℕ → List ℕ → Type 0
Short n x = length x ≤ n

falling_short : (m lengths n : ℕ) → lengths ≤ n → All (Short n) (falling_lists m lengths n)
unfolding falling_lists
falling_short m zero n h = tt
falling_short m (suc lengths) zero h = absurd (not-suc-le-zero h)
falling_short m (suc lengths) (suc n) h =
    let z : suc n - 1 ≡ n = omega arith in
    rw z (all_append (Short (suc n)) (choices m 0 (suc n)) (falling_lists m lengths n)
    (all_map (Sized (suc n)) (Short (suc n)) (λ x e. omega arith) (choices m 0 (suc n)) (chosen_sized m 0 (suc n)))
    (all_map (Short n) (Short (suc n)) (λ x e. omega arith) (falling_lists m lengths n) (falling_short m lengths n (le_of_suc-le-suc h))))

falling_order : (m lengths n : ℕ) → lengths ≤ n → InOrder longer_first (falling_lists m lengths n)
unfolding falling_lists
falling_order m zero n h = tt
falling_order m (suc lengths) zero h = absurd (not-suc-le-zero h)
falling_order m (suc lengths) (suc n) h =
    let z : suc n - 1 ≡ n = omega arith in
    let less = le_of_suc-le-suc h in
    rw z (order_append longer_first (choices m 0 (suc n)) (falling_lists m lengths n)
    (one_length (suc n) (choices m 0 (suc n)) (chosen_sized m 0 (suc n)) (chosen_order m 0 (suc n)))
    (falling_order m lengths n less)
    (all_map (Sized (suc n)) (λ x. All (λ y. longer_first x y ≡ true) (falling_lists m lengths n))
    (λ x e. all_map (Short n) (λ y. longer_first x y ≡ true) (λ y k. rw (lt-ltb (length y) (length x) (omega arith))) (falling_lists m lengths n) (falling_short m lengths n less))
    (choices m 0 (suc n)) (chosen_sized m 0 (suc n))))

-- of no length, and of one of `lengths` lengths from n down
no_length : (len n : ℕ) → (leb len n && ltb n (len + 0)) ≡ false
no_length len n = go (leb len n) refl
  where
    go : (t : Bool) → leb len n ≡ t → (t && ltb n (len + 0)) ≡ false
    go true e = let k = leb-true len n e in le-ltb n (len + 0) (omega (arith, k))
    go false e = refl

one_more : (ascends : Bool) (len n lengths : ℕ) → bit (ascends && eqb len (suc n)) + bit (ascends && (leb len n && ltb n (len + lengths)))
    ≡ bit (ascends && (leb len (suc n) && ltb (suc n) (len + suc lengths)))
one_more false len n lengths = omega arith
one_more true len n lengths = go (leb len n) refl (eqb len (suc n)) refl
  where
    go : (t : Bool) → leb len n ≡ t → (u : Bool) → eqb len (suc n) ≡ u → bit (eqb len (suc n)) + bit (leb len n && ltb n (len + lengths)) ≡ bit (leb len (suc n) && ltb (suc n) (len + suc lengths))
    go true e u f =
        let k = leb-true len n e in
        rw (
          e,
          ne_eqb len (suc n) (λ q. omega (arith, k)),
          le-leb len (suc n) (omega (arith, k)),
          same_leb (suc n) (len + lengths) (suc (suc n)) (len + suc lengths) (λ h. omega arith) (λ h. omega arith),
        )
        (omega arith)
    go false e true f = let k = eqb-true len (suc n) f in rw (e, f, le-leb len (suc n) (omega (arith, k)), lt-ltb (suc n) (len + suc lengths) (omega (arith, k)))
    go false e false f = let k = leb-false len n e in let l = eqb-false len (suc n) f in rw (e, f, lt-leb len (suc n) (omega (arith, k, l)))

falling_listed : (m lengths n : ℕ) → lengths ≤ n → (x : List ℕ) → StandsWhen x (falling_lists m lengths n) (ascending 0 m x && (leb (length x) n && ltb n (length x + lengths)))
unfolding falling_lists
falling_listed m zero n h x = sym (no_bit (ascending 0 m x) (leb (length x) n && ltb n (length x + 0)) (no_length (length x) n))
falling_listed m (suc lengths) zero h x = absurd (not-suc-le-zero h)
falling_listed m (suc lengths) (suc n) h x =
    let z : suc n - 1 ≡ n = omega arith in
    let e : 0 + m ≡ m = omega arith in
    let first : times_in x (choices m 0 (suc n)) ≡ bit (ascending 0 m x && eqb (length x) (suc n)) = rw e at (chosen m 0 (suc n) x) in
    rw z (omega (
      arith,
      sum_append (λ l. bit (same_rows x l)) (choices m 0 (suc n)) (falling_lists m lengths n),
      first,
      falling_listed m lengths n (le_of_suc-le-suc h) x,
      one_more (ascending 0 m x) (length x) n lengths,
    ))

listed : (m fnmax pileupmax : ℕ) → m < pileupmax → (x : List ℕ)
    → StandsWhen x (part_lists m fnmax pileupmax) (ascending 0 m x && (leb (length x) m && leb (max 1 (m - fnmax)) (length x)))
listed m fnmax pileupmax h x =
    rw (all_lengths m fnmax pileupmax h, ← same_leb (suc m) (length x + lengths_of m fnmax) (max 1 (m - fnmax)) (length x) (λ k. omega arith) (λ k. omega arith))
    (falling_listed m (lengths_of m fnmax) m (omega arith) x)

pub part_order : PartOrder
part_order = record {
  chosen = chosen;
  chosen_order = chosen_order;
  whole = whole_only;
  listed = listed;
  listed_order = λ m fnmax pileupmax h. rw (all_lengths m fnmax pileupmax h) (falling_order m (lengths_of m fnmax) m (omega arith));
}
