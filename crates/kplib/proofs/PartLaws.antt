-- Part lists: none where too few positions are left, those that take p and then those that do not, all lengths one after another, and
-- how many there are: at most 2 ^ m - 1, since the lists of every length up to n are at most 2 ^ m and the empty one is not among them. Assumes nothing.
use mathlib.Core.Path.{◌≡◌, refl, sym, ap, ◌∙◌}
use mathlib.Core.List.{List, [], ◌∷◌, ◌++◌, map, append_assoc, append-nil}
use Prim.Native.Nat.{ℕ, zero, suc, ◌+◌, ◌-◌, ◌^◌, ◌≤◌, ◌<◌}
use native.Mathlib.Omega.{arith}
use native.Mathlib.Nat.{not-suc-le-zero, le_of_suc-le-suc, pow-suc}
use native.Mathlib.Numerals.{add-one}
use borrow.Author.Tests.{le-leb, lt-leb}
use lib.ListN.{length, length-append}
use lib.Pow.{pow_mono, pow_pos}
use Rattle.kplib.specs.Parts.{whole_of, choices, falling_lists, lengths_of, part_lists}

pub choices_none : (left p n : ℕ) → left < n → choices left p n ≡ []
unfolding choices
choices_none left p zero h = absurd (not-suc-le-zero h)
choices_none zero p (suc n) h = refl
choices_none (suc left) p (suc n) h =
    rw (choices_none left (suc p) n (le_of_suc-le-suc h), choices_none left (suc p) (suc n) (omega arith))

choices_split : (left left' p n n' : ℕ) → left ≡ suc left' → n ≡ suc n' → choices left p n ≡ map (λ (l : List ℕ). p ∷ l) (choices left' (p + 1) n') ++ choices left' (p + 1) n
unfolding choices
choices_split left left' p n n' e f = rw (add-one, e, f)

pub one_choice : (left p n : ℕ) → n ≡ 0 → choices left p n ≡ [] ∷ []
unfolding choices
one_choice left p n z = rw z

-- ---- the lists under a prefix
under : (list : List ℕ) (p : ℕ) (xs : List (List ℕ)) → map (λ (l : List ℕ). list ++ l) (map (λ (l : List ℕ). p ∷ l) xs) ≡ map (λ (l : List ℕ). (list ++ (p ∷ [])) ++ l) xs
under list p [] = refl
under list p (x ∷ xs) = rw (append_assoc list (p ∷ []) x) (ap (λ (t : List (List ℕ)). (list ++ (p ∷ x)) ∷ t) (under list p xs))

map_append : (list : List ℕ) (xs ys : List (List ℕ)) → map (λ (l : List ℕ). list ++ l) (xs ++ ys) ≡ map (λ (l : List ℕ). list ++ l) xs ++ map (λ (l : List ℕ). list ++ l) ys
map_append list [] ys = refl
map_append list (x ∷ xs) ys = ap (λ (t : List (List ℕ)). (list ++ x) ∷ t) (map_append list xs ys)

pub map_length : (list : List ℕ) (xs : List (List ℕ)) → length (map (λ (l : List ℕ). list ++ l) xs) ≡ length xs
map_length list [] = refl
map_length list (x ∷ xs) = ap suc (map_length list xs)

cons_length : (p : ℕ) (xs : List (List ℕ)) → length (map (λ (l : List ℕ). p ∷ l) xs) ≡ length xs
cons_length p [] = refl
cons_length p (x ∷ xs) = ap suc (cons_length p xs)

module _ (m p n : ℕ) (h : p < m) (nz : n ≡ 0 → ⊥) where
  split : choices (m - p) p n ≡ map (λ (l : List ℕ). p ∷ l) (choices (m - (p + 1)) (p + 1) (n - 1)) ++ choices (m - (p + 1)) (p + 1) n
  split = choices_split (m - p) (m - (p + 1)) p n (n - 1) (omega arith) (omega (arith, nz))

  pub split_under : (list : List ℕ) → map (λ (l : List ℕ). list ++ l) (choices (m - p) p n)
      ≡ map (λ (l : List ℕ). (list ++ (p ∷ [])) ++ l) (choices (m - (p + 1)) (p + 1) (n - 1)) ++ map (λ (l : List ℕ). list ++ l) (choices (m - (p + 1)) (p + 1) n)
  split_under list =
      let A = choices (m - (p + 1)) (p + 1) (n - 1) in
      rw (split, map_append list (map (λ (l : List ℕ). p ∷ l) A) (choices (m - (p + 1)) (p + 1) n), under list p A)

  pub split_length : length (choices (m - p) p n) ≡ length (choices (m - (p + 1)) (p + 1) (n - 1)) + length (choices (m - (p + 1)) (p + 1) n)
  split_length =
      ap length split ∙ length-append (map (λ (l : List ℕ). p ∷ l) (choices (m - (p + 1)) (p + 1) (n - 1))) (choices (m - (p + 1)) (p + 1) n)
      ∙ ap (λ (k : ℕ). k + length (choices (m - (p + 1)) (p + 1) n)) (cons_length p (choices (m - (p + 1)) (p + 1) (n - 1)))

-- ---- how many
-- lists of n positions, of n - 1, .., of none
up_to : ℕ → ℕ → ℕ → ℕ
up_to left p zero = length (choices left p zero)
up_to left p (suc n) = length (choices left p (suc n)) + up_to left p n

up_to_none : (p n : ℕ) → up_to 0 p n ≡ 1
unfolding up_to choices
up_to_none p zero = refl
up_to_none p (suc n) = omega (arith, up_to_none p n)

up_to_split : (left p n : ℕ) → up_to (suc left) p (suc n) ≡ up_to left (suc p) n + up_to left (suc p) (suc n)
unfolding up_to choices
up_to_split left p zero =
    omega (arith, length-append (map (λ (l : List ℕ). p ∷ l) (choices left (suc p) zero)) (choices left (suc p) 1), cons_length p (choices left (suc p) zero))
up_to_split left p (suc n) =
    omega (arith, length-append (map (λ (l : List ℕ). p ∷ l) (choices left (suc p) (suc n))) (choices left (suc p) (suc (suc n))), cons_length p (choices left (suc p) (suc n)), up_to_split left p n)

up_to_le : (left p n : ℕ) → up_to left p n ≤ 2 ^ left
unfolding up_to choices
up_to_le left p zero = pow_pos left
up_to_le zero p (suc n) = omega (arith, up_to_none p n)
up_to_le (suc left) p (suc n) = omega (arith, up_to_split left p n, up_to_le left (suc p) n, up_to_le left (suc p) (suc n), pow-suc 2 left)

up_to_some : (left p n : ℕ) → 1 ≤ up_to left p n
unfolding up_to choices
up_to_some left p zero = omega arith
up_to_some left p (suc n) = omega (arith, up_to_some left p n)

falling_up_to : (m c n : ℕ) → c ≤ n → length (falling_lists m c n) + up_to m 0 (n - c) ≡ up_to m 0 n
unfolding falling_lists up_to
falling_up_to m zero n h = let z : n - 0 ≡ n = omega arith in omega (arith, ap (λ (x : ℕ). up_to m 0 x) z)
falling_up_to m (suc c) zero h = absurd (not-suc-le-zero h)
falling_up_to m (suc c) (suc n) h =
    let e : suc n - 1 ≡ n = omega arith in
    let f : suc n - suc c ≡ n - c = omega arith in
    rw (e, f) (omega (arith, length-append (choices m 0 (suc n)) (falling_lists m c n), falling_up_to m c n (le_of_suc-le-suc h)))

pub falling_few : (m c n : ℕ) → c ≤ n → m ≤ 11 → length (falling_lists m c n) ≤ 2047
falling_few m c n h k =
    let b : 2 ^ m ≤ 2048 = pow_mono {j = 11} k in
    omega (arith, falling_up_to m c n h, up_to_le m 0 n, up_to_some m 0 (n - c))

-- ---- one length more
falling_step : (m c n : ℕ) → falling_lists m (suc c) n ≡ choices m 0 n ++ falling_lists m c (n - 1)
unfolding falling_lists
falling_step m c n = refl

pub falling_none : (m n : ℕ) → falling_lists m 0 n ≡ []
unfolding falling_lists
falling_none m n = refl

falling_last : (m c n : ℕ) → falling_lists m (suc c) n ≡ falling_lists m c n ++ choices m 0 (n - c)
unfolding falling_lists
falling_last m zero n = let z : n - 0 ≡ n = omega arith in rw (z, append-nil (choices m 0 n))
falling_last m (suc c) n =
    let z : n - 1 - c ≡ n - suc c = omega arith in
    rw (falling_step m (suc c) n, falling_last m c (n - 1), z) (sym (append_assoc (choices m 0 n) (falling_lists m c (n - 1)) (choices m 0 (n - suc c))))

pub falling_more : (m c n : ℕ) → falling_lists m (c + 1) n ≡ falling_lists m c n ++ choices m 0 (n - c)
falling_more m c n = rw add-one (falling_last m c n)

-- ---- which of the two
pub whole_only : (m fnmax pileupmax : ℕ) → pileupmax ≤ m → part_lists m fnmax pileupmax ≡ whole_of m ∷ []
unfolding part_lists
whole_only m fnmax pileupmax h = rw (le-leb pileupmax m h)

pub all_lengths : (m fnmax pileupmax : ℕ) → m < pileupmax → part_lists m fnmax pileupmax ≡ falling_lists m (lengths_of m fnmax) m
unfolding part_lists
all_lengths m fnmax pileupmax h = rw (lt-leb pileupmax m h)
