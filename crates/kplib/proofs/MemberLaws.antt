-- Positions are one of the part lists exactly when they rise below m and are at least as many as the shortest list has. The lists of n positions among those from p on
-- are the rising lists of that length: those that begin with p, then those that begin later. Lists of one length after another are those of any of these lengths. Assumes nothing.
use mathlib.Core.Path.{◌≡◌, refl, sym, ap, ◌∙◌}
use Prim.Native.Nat.{ℕ, zero, suc, ◌+◌, ◌-◌, ◌≤◌, ◌<◌, max}
use native.Mathlib.Omega.{arith}
use mathlib.Core.Bool.{Bool, true, false, cond, ◌&&◌, ◌||◌}
use mathlib.Core.List.{List, [], ◌∷◌, ◌++◌, map}
use lib.Dec.{leb, ltb, eqb}
use lib.ListN.{length}
use borrow.Author.Tests.{le-leb, lt-leb, lt-ltb, le-ltb, leb-true, leb-false, ltb-true, eqb-true, eqb-false, eq-eqb, ne_eqb}
use Rattle.paths.specs.Sums.{same_rows}
use Rattle.paths.proofs.BooleanLaws.{and_both, and_false, and_true}
use Rattle.kplib.specs.Parts.{positions_from, choices, falling_lists, lengths_of, part_lists}
use Rattle.kplib.specs.Scoring.{AllBelow}
use Rattle.kplib.specs.Proposal.{one_of, rises_below, fewest_of}
use Rattle.kplib.proofs.PartLaws.{choices_none, whole_only, all_lengths}

-- ---- one of two lists of lists, and of lists that all begin with p
or_assoc : (a b c : Bool) → (a || (b || c)) ≡ ((a || b) || c)
or_assoc true b c = refl
or_assoc false b c = refl

and_or : (a b c : Bool) → ((a && b) || (a && c)) ≡ (a && (b || c))
and_or true b c = refl
and_or false b c = refl

or_false : (a : Bool) → (a || false) ≡ a
or_false true = refl
or_false false = refl

one_of_both : (x : List ℕ) (a b : List (List ℕ)) → one_of x (a ++ b) ≡ (one_of x a || one_of x b)
one_of_both x [] b = refl
one_of_both x (l ∷ a) b = rw (one_of_both x a b) (or_assoc (same_rows x l) (one_of x a) (one_of x b))

empty_begins : (p : ℕ) (l : List (List ℕ)) → one_of [] (map (λ (c : List ℕ). p ∷ c) l) ≡ false
empty_begins p [] = refl
empty_begins p (a ∷ l) = empty_begins p l

begins : (q p : ℕ) (x : List ℕ) (l : List (List ℕ)) → one_of (q ∷ x) (map (λ (c : List ℕ). p ∷ c) l) ≡ (eqb q p && one_of x l)
begins q p x [] = sym (and_false (eqb q p))
begins q p x (a ∷ l) = rw (begins q p x l) (and_or (eqb q p) (same_rows x a) (one_of x l))

-- ---- the lists of one length
same_suc : (a b : ℕ) → eqb (suc a) (suc b) ≡ eqb a b
same_suc a b = go (eqb a b) refl
  where
    go : (t : Bool) → eqb a b ≡ t → eqb (suc a) (suc b) ≡ t
    go true e = eq-eqb (suc a) (suc b) (ap suc (eqb-true a b e))
    go false e = ne_eqb (suc a) (suc b) (λ h. eqb-false a b e (omega arith))

-- nothing lies from p on and below m
no_room : (m p q : ℕ) (rest : Bool) → m ≤ p → (leb p q && (ltb q m && rest)) ≡ false
no_room m p q rest h = go (leb p q) refl
  where
    go : (t : Bool) → leb p q ≡ t → (t && (ltb q m && rest)) ≡ false
    go true e = rw (le-ltb q m (omega (arith, leb-true p q e)))
    go false e = refl

-- a list that begins with q, from p on: it begins with p, or later
first_or_later : (m p q : ℕ) (same : Bool) (x : List ℕ) → p < m
    → ((eqb q p && (same && rises_below m (suc p) x)) || (same && (leb (suc p) q && (ltb q m && rises_below m (suc q) x))))
    ≡ (same && (leb p q && (ltb q m && rises_below m (suc q) x)))
first_or_later m p q same x h = go (eqb q p) refl
  where
    later : (t : Bool) → eqb q p ≡ false → leb p q ≡ t → leb (suc p) q ≡ t
    later true ne e = le-leb (suc p) q (omega (arith, leb-true p q e, eqb-false q p ne))
    later false ne e = lt-leb (suc p) q (omega (arith, leb-false p q e))

    go : (t : Bool) → eqb q p ≡ t
        → ((t && (same && rises_below m (suc p) x)) || (same && (leb (suc p) q && (ltb q m && rises_below m (suc q) x))))
        ≡ (same && (leb p q && (ltb q m && rises_below m (suc q) x)))
    go true e =
        let z : q ≡ p = eqb-true q p e in
        rw (z, lt-leb (suc p) p (omega arith), le-leb p p (omega arith), lt-ltb p m h, and_false same) (or_false (same && rises_below m (suc p) x))
    go false e = rw (later (leb p q) e refl)

pub chosen : (left p n : ℕ) (x : List ℕ) → one_of x (choices left p n) ≡ (eqb (length x) n && rises_below (p + left) p x)
unfolding choices
chosen left p zero [] = refl
chosen left p zero (q ∷ x) = rw (ne_eqb (suc (length x)) 0 (λ e. omega arith))
chosen zero p (suc n) [] = rw (ne_eqb 0 (suc n) (λ e. omega arith))
chosen zero p (suc n) (q ∷ x) = rw (no_room (p + 0) p q (rises_below (p + 0) (suc q) x) (omega arith)) (sym (and_false (eqb (suc (length x)) (suc n))))
chosen (suc left) p (suc n) [] =
    one_of_both [] (map (λ (c : List ℕ). p ∷ c) (choices left (suc p) n)) (choices left (suc p) (suc n))
    ∙ rw (empty_begins p (choices left (suc p) n), chosen left (suc p) (suc n) [])
chosen (suc left) p (suc n) (q ∷ x) =
    let z : suc p + left ≡ p + suc left = omega arith in
    let all : ((eqb q p && (eqb (length x) n && rises_below (suc p + left) (suc p) x)) || (eqb (length x) n && (leb (suc p) q && (ltb q (suc p + left) && rises_below (suc p + left) (suc q) x))))
    ≡ (eqb (length x) n && (leb p q && (ltb q (suc p + left) && rises_below (suc p + left) (suc q) x))) = first_or_later (suc p + left) p q (eqb (length x) n) x (omega arith) in
    one_of_both (q ∷ x) (map (λ (c : List ℕ). p ∷ c) (choices left (suc p) n)) (choices left (suc p) (suc n))
    ∙ rw (begins q p x (choices left (suc p) n), chosen left (suc p) n x, chosen left (suc p) (suc n) (q ∷ x), same_suc (length x) n) (all
    ∙ ap (λ (m : ℕ). eqb (length x) n && (leb p q && (ltb q m && rises_below m (suc q) x))) z)

-- all positions from p on are the one list of their length
whole_choice : (n p : ℕ) → choices n p n ≡ positions_from p n ∷ []
unfolding choices positions_from
whole_choice zero p = refl
whole_choice (suc n) p = rw (whole_choice n (suc p), choices_none n (suc p) (suc n) (omega arith))

-- ---- the lists of several lengths
either_length : (len n low : ℕ) → 1 ≤ n → low ≤ n - 1 → (eqb len n || (leb len (n - 1) && ltb low len)) ≡ (leb len n && ltb low len)
either_length len n low h k = go (eqb len n) refl
  where
    shorter : (t : Bool) → eqb len n ≡ false → leb len n ≡ t → leb len (n - 1) ≡ t
    shorter true ne e = le-leb len (n - 1) (omega (arith, leb-true len n e, eqb-false len n ne))
    shorter false ne e = lt-leb len (n - 1) (omega (arith, leb-false len n e))

    go : (t : Bool) → eqb len n ≡ t → (t || (leb len (n - 1) && ltb low len)) ≡ (leb len n && ltb low len)
    go true e = let z : len ≡ n = eqb-true len n e in rw (z, le-leb n n (omega arith), lt-ltb low n (omega arith))
    go false e = rw (shorter (leb len n) e refl)

one_length_more : (rises : Bool) (len n low : ℕ) → 1 ≤ n → low ≤ n - 1
    → ((eqb len n && rises) || (rises && (leb len (n - 1) && ltb low len))) ≡ (rises && (leb len n && ltb low len))
one_length_more true len n low h k = rw (and_true (eqb len n)) (either_length len n low h k)
one_length_more false len n low h k = rw (and_false (eqb len n))

falling : (m c n : ℕ) (x : List ℕ) → c ≤ n → one_of x (falling_lists m c n) ≡ (rises_below m 0 x && (leb (length x) n && ltb (n - c) (length x)))
unfolding falling_lists
falling m zero n x h = sym (rw (none (length x)) (and_false (rises_below m 0 x)))
  where
    none : (len : ℕ) → (leb len n && ltb (n - 0) len) ≡ false
    none len = go (leb len n) refl
      where
        go : (t : Bool) → leb len n ≡ t → (t && ltb (n - 0) len) ≡ false
        go true e = le-ltb (n - 0) len (omega (arith, leb-true len n e))
        go false e = refl
falling m (suc c) n x h =
    let z : 0 + m ≡ m = omega arith in
    let y : n - 1 - c ≡ n - suc c = omega arith in
    one_of_both x (choices m 0 n) (falling_lists m c (n - 1))
    ∙ rw (chosen m 0 n x, z, falling m c (n - 1) x (omega arith), y) (one_length_more (rises_below m 0 x) (length x) n (n - suc c) (omega arith) (omega arith))

-- ---- rising positions are below m, and no more than lie there
rising_parts : (m next q : ℕ) (x : List ℕ) → rises_below m next (q ∷ x) ≡ true → (next ≤ q) × ((q < m) × (rises_below m (suc q) x ≡ true))
rising_parts m next q x e =
    let a = and_both (leb next q) _ e in
    let b = and_both (ltb q m) (rises_below m (suc q) x) a.1 in
    (leb-true next q a.0, (ltb-true q m b.0, b.1))

rising_few : (m next : ℕ) (x : List ℕ) → next ≤ m → rises_below m next x ≡ true → length x + next ≤ m
rising_few m next [] h e = omega arith
rising_few m next (q ∷ x) h e = let p = rising_parts m next q x e in omega (arith, rising_few m (suc q) x p.1.0 p.1.1)

pub rising_below : (m next : ℕ) (x : List ℕ) → rises_below m next x ≡ true → AllBelow m x
rising_below m next [] e = tt
rising_below m next (q ∷ x) e = let p = rising_parts m next q x e in (p.1.0, rising_below m (suc q) x p.1.1)

pub rising_length : (m : ℕ) (x : List ℕ) → rises_below m 0 x ≡ true → length x ≤ m
rising_length m x e = omega (arith, rising_few m 0 x (omega arith) e)

-- ---- the rule
-- as many as there are: no more can rise below m
as_many : (m : ℕ) (x : List ℕ) → (eqb (length x) m && rises_below m 0 x) ≡ (leb m (length x) && rises_below m 0 x)
as_many m x = go (rises_below m 0 x) refl
  where
    same : length x ≤ m → eqb (length x) m ≡ leb m (length x)
    same h = go2 (leb m (length x)) refl
      where
        go2 : (t : Bool) → leb m (length x) ≡ t → eqb (length x) m ≡ t
        go2 true e = eq-eqb (length x) m (omega (arith, leb-true m (length x) e))
        go2 false e = let k : length x < m = leb-false m (length x) e in ne_eqb (length x) m (λ z. omega arith)

    go : (t : Bool) → rises_below m 0 x ≡ t → (eqb (length x) m && t) ≡ (leb m (length x) && t)
    go true e = rw (and_true (eqb (length x) m), and_true (leb m (length x))) (same (rising_length m x e))
    go false e = rw (and_false (eqb (length x) m), and_false (leb m (length x)))

enough : (m fnmax : ℕ) (x : List ℕ)
    → (rises_below m 0 x && (leb (length x) m && ltb (m - lengths_of m fnmax) (length x))) ≡ (leb (max 1 (m - fnmax)) (length x) && rises_below m 0 x)
enough m fnmax x = go (rises_below m 0 x) refl
  where
    least : length x ≤ m → ltb (m - lengths_of m fnmax) (length x) ≡ leb (max 1 (m - fnmax)) (length x)
    least h = go2 (leb (max 1 (m - fnmax)) (length x)) refl
      where
        go2 : (t : Bool) → leb (max 1 (m - fnmax)) (length x) ≡ t → ltb (m - lengths_of m fnmax) (length x) ≡ t
        go2 true e = let k : max 1 (m - fnmax) ≤ length x = leb-true (max 1 (m - fnmax)) (length x) e in lt-ltb (m - lengths_of m fnmax) (length x) (omega arith)
        go2 false e = let k : length x < max 1 (m - fnmax) = leb-false (max 1 (m - fnmax)) (length x) e in le-ltb (m - lengths_of m fnmax) (length x) (omega arith)

    go : (t : Bool) → rises_below m 0 x ≡ t → (t && (leb (length x) m && ltb (m - lengths_of m fnmax) (length x))) ≡ (leb (max 1 (m - fnmax)) (length x) && t)
    go true e = rw (and_true (leb (max 1 (m - fnmax)) (length x)), le-leb (length x) m (rising_length m x e)) (least (rising_length m x e))
    go false e = sym (and_false (leb (max 1 (m - fnmax)) (length x)))

pub member : (m fnmax pileupmax : ℕ) (x : List ℕ) → one_of x (part_lists m fnmax pileupmax) ≡ (leb (fewest_of m fnmax pileupmax) (length x) && rises_below m 0 x)
unfolding fewest_of
member m fnmax pileupmax x = go (leb pileupmax m) refl
  where
    go : (t : Bool) → leb pileupmax m ≡ t → one_of x (part_lists m fnmax pileupmax) ≡ (leb (cond t m (max 1 (m - fnmax))) (length x) && rises_below m 0 x)
    go true e =
        let z : 0 + m ≡ m = omega arith in
        ap (λ (l : List (List ℕ)). one_of x l) (whole_only m fnmax pileupmax (leb-true pileupmax m e) ∙ sym (whole_choice m 0)) ∙ chosen m 0 m x ∙ rw z (as_many m x)
    go false e =
        rw (all_lengths m fnmax pileupmax (leb-false pileupmax m e), falling m (lengths_of m fnmax) m x (omega arith)) (enough m fnmax x)
