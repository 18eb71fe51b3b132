-- Where each haplotype's parts stand among those of all: the ends rise, and cut at them the parts are each haplotype's own.
use Prim.Native.Nat.{ℕ, suc, ◌+◌, ◌-◌, ◌*◌, ◌^◌, ◌≤◌, ◌<◌}
use native.Mathlib.Omega.{arith}
use native.Mathlib.Numerals.{add-one}
use native.Mathlib.Nat.{suc-mul, add-mul, zero-add}
use mathlib.Core.Path.{◌≡◌, refl, sym, ap, subst, ◌∙◌}
use mathlib.Core.Bool.{true, false, ◌||◌}
use mathlib.Core.List.{List, [], ◌∷◌, ◌++◌, append_assoc, flatten, map, map-append}
use lib.Dec.{ltb}
use lib.IntN.{ℤ}
use lib.ListN.{length, get_or, take, drop, length-append, length-map, drop_of_length-le}
use lib.Seq.{drop-cons, take_at, drop_at}
use borrow.Author.Tests.{ltb-false, lt-ltb, le-ltb}
use Rattle.params.specs.Numbers.{Parts, parts_of}
use Rattle.params.proofs.CheckLaws.{or_no}
use Rattle.metrics.specs.Letters.{counts_by}
use Rattle.form.specs.Job.{Part}
use Rattle.form.specs.Lent.{breaks_from, breaks_of}
use Rattle.desk.specs.Desk.{part_features, parts_of_haplotype, many_parts}
use Rattle.desk.specs.Memory.{ends_of, Rising, overlong, stretch, stretches}
use Rattle.desk.proofs.FeatureLaws.{row_length}

pub ends_count : (breaks : List ℕ) (all : ℕ) → length (ends_of breaks all) ≡ length breaks + 1
ends_count breaks all = length-append breaks (all ∷ [])

pub no_ends : (breaks : List ℕ) (all i : ℕ) → length breaks < i → drop i (ends_of breaks all) ≡ []
no_ends breaks all i h = let l = ends_count breaks all in drop_of_length-le (ends_of breaks all) {i = i} (omega arith)

-- the ends from haplotype i on
module _ (breaks : List ℕ) (all i to : ℕ) (more : i ≤ length breaks) (is : to ≡ get_or (ends_of breaks all) i 0) where
  pub ends_here : drop i (ends_of breaks all) ≡ to ∷ drop (suc i) (ends_of breaks all)
  ends_here =
      let l = ends_count breaks all in
      let h : i < length (ends_of breaks all) = omega arith in
      drop-cons (ends_of breaks all) i 0 h ∙ ap (λ (n : ℕ). n ∷ drop (suc i) (ends_of breaks all)) (sym is)

  pub rising_here : (m from : ℕ) → Rising m from (drop i (ends_of breaks all)) → (from ≤ to) × ((to ≤ m) × Rising m to (drop (suc i) (ends_of breaks all)))
  unfolding Rising
  rising_here m from r = subst (Rising m from) ends_here r

-- what holds before haplotype i is looked at
pub record Looking (breaks : List ℕ) (all i from : ℕ) : Type 0 where
  pub same : overlong from (drop i (ends_of breaks all)) ≡ overlong 0 (ends_of breaks all)
  pub rising : Rising all from (drop i (ends_of breaks all))
  pub within : i ≤ length breaks + 1

pub looking_start : (breaks : List ℕ) (all : ℕ) → Rising all 0 (ends_of breaks all) → Looking breaks all 0 0
looking_start breaks all r = record { same = refl; rising = r; within = omega arith }

module _ (breaks : List ℕ) (all i from : ℕ) (now : Looking breaks all i from) where
  module _ (to : ℕ) (more : i ≤ length breaks) (is : to ≡ get_or (ends_of breaks all) i 0) where
    pub looked_rises : from ≤ to
    looked_rises = (rising_here breaks all i to more is all from now.rising).0

    overlong_here : ltb 8 (to - from) || overlong to (drop (suc i) (ends_of breaks all)) ≡ overlong 0 (ends_of breaks all)
    unfolding overlong
    overlong_here = ap (overlong from) (sym (ends_here breaks all i to more is)) ∙ now.same

    pub looked_long : 8 < to - from → true ≡ overlong 0 (ends_of breaks all)
    looked_long h = rw (lt-ltb 8 (to - from) h) at overlong_here

    pub looking_next : to - from ≤ 8 → Looking breaks all (i + 1) to
    looking_next h = rw (add-one i) record {
      same = rw (le-ltb 8 (to - from) h) at overlong_here;
      rising = (rising_here breaks all i to more is all from now.rising).1.1;
      within = omega arith;
    }

  pub looked_all : length breaks < i → false ≡ overlong 0 (ends_of breaks all)
  unfolding overlong
  looked_all h = ap (overlong from) (sym (no_ends breaks all i h)) ∙ now.same

-- where each haplotype's parts end, of those behind n others
unfoldable ends_from : ℕ → List (List Part) → List ℕ
ends_from n [] = []
ends_from n (xs ∷ rest) = (n + length xs) ∷ ends_from (n + length xs) rest

ends_from_lem : (n : ℕ) (hs : List (List Part)) → breaks_from n hs ++ ((n + length (flatten hs)) ∷ []) ≡ n ∷ ends_from n hs
unfolding breaks_from ends_from flatten
ends_from_lem n [] = let z : n + 0 ≡ n = omega arith in ap (λ (m : ℕ). m ∷ []) z
ends_from_lem n (xs ∷ hs) =
    let l = length-append xs (flatten hs) in
    let e : n + length (xs ++ flatten hs) ≡ n + length xs + length (flatten hs) = omega arith in
    ap (λ (l : List ℕ). n ∷ l) (rw e (ends_from_lem (n + length xs) hs))

ends_are : (hs : List (List Part)) → 1 ≤ length hs → ends_of (breaks_of hs) (length (flatten hs)) ≡ ends_from 0 hs
unfolding breaks_of ends_from flatten
ends_are [] h = let z : ⊥ = omega arith in absurd z
ends_are (first ∷ hs) h = rw (length-append, zero-add) (ends_from_lem (length first) hs)

-- over 8 parts between two ends are over 8 parts in a haplotype
overlong_from : (n : ℕ) (hs : List (List Part)) → overlong n (ends_from n hs) ≡ many_parts hs
unfolding overlong ends_from many_parts
overlong_from n [] = refl
overlong_from n (xs ∷ hs) =
    let e : n + length xs - n ≡ length xs = omega arith in
    rw (e, overlong_from (n + length xs) hs)

rising_from : (m n : ℕ) (hs : List (List Part)) → n + length (flatten hs) ≤ m → Rising m n (ends_from n hs)
unfolding Rising ends_from flatten
rising_from m n [] h = tt
rising_from m n (xs ∷ hs) h =
    let l = length-append xs (flatten hs) in
    (omega arith, (omega arith, rising_from m (n + length xs) hs (omega arith)))

module _ (hs : List (List Part)) (some : 1 ≤ length hs) where
  pub overlong_is : overlong 0 (ends_of (breaks_of hs) (length (flatten hs))) ≡ many_parts hs
  overlong_is = ap (overlong 0) (ends_are hs some) ∙ overlong_from 0 hs

  pub rising_is : Rising (length (flatten hs)) 0 (ends_of (breaks_of hs) (length (flatten hs)))
  rising_is = rw (ends_are hs some) (rising_from (length (flatten hs)) 0 hs (omega arith))

-- a haplotype of at most 8 parts each time: no more than 8 for each
pub few_parts : (hs : List (List Part)) → many_parts hs ≡ false → length (flatten hs) ≤ 8 * length hs
unfolding many_parts flatten
few_parts [] e = omega arith
few_parts (xs ∷ hs) e =
    let a = or_no _ _ e in
    let b = ltb-false 8 (length xs) a.0 in
    let d = few_parts hs a.1 in
    rw length-append (omega arith)

-- the rows of parts, and of parts behind others
features_length : (reading k : ℕ) (xs : List Part) → length (part_features reading k xs) ≡ length xs * 4 ^ k
unfolding part_features
features_length reading k [] = omega arith
features_length reading k (x ∷ xs) =
    let a = row_length reading k x.negative x.letters in
    let b = features_length reading k xs in
    let d = suc-mul (length xs) (4 ^ k) in
    rw length-append (omega arith)

features_append : (reading k : ℕ) (xs ys : List Part) → part_features reading k (xs ++ ys) ≡ part_features reading k xs ++ part_features reading k ys
unfolding part_features
features_append reading k [] ys = refl
features_append reading k (x ∷ xs) ys =
    ap (λ (l : List ℤ). counts_by reading k x.negative x.letters ++ l) (features_append reading k xs ys)
    ∙ sym (append_assoc (counts_by reading k x.negative x.letters) (part_features reading k xs) (part_features reading k ys))

-- the middle of three lists
middle : {A : Type 0} (a b c : List A) (n m : ℕ) → length a ≡ n → length b ≡ m - n → take (m - n) (drop n (a ++ (b ++ c))) ≡ b
middle a b c n m p q = rw (drop_at a (b ++ c) n p) (take_at b c (m - n) q)

-- cut at the ends, the parts of all are each haplotype's
module _ (reading k : ℕ) where
  abbrev all_of : List Part → Parts
  all_of xs = parts_of (map (λ (x : Part). x.size) xs) (part_features reading k xs)

  stretch_is : (done xs more : List Part) → stretch (4 ^ k) (length done) (length done + length xs) (all_of (done ++ (xs ++ more))) ≡ parts_of_haplotype reading k xs
  unfolding parts_of_haplotype
  stretch_is done xs more =
      let size : Part → ℤ = λ (x : Part). x.size in
      let a : map size (done ++ (xs ++ more)) ≡ map size done ++ (map size xs ++ map size more) =
      map-append size done (xs ++ more) ∙ ap (λ (l : List ℤ). map size done ++ l) (map-append size xs more) in
      let b : part_features reading k (done ++ (xs ++ more)) ≡ part_features reading k done ++ (part_features reading k xs ++ part_features reading k more) =
      features_append reading k done (xs ++ more) ∙ ap (λ (l : List ℤ). part_features reading k done ++ l) (features_append reading k xs more) in
      let m = length-map xs size in
      let n = features_length reading k xs in
      let d = add-mul (length done) (length xs) (4 ^ k) in
      let p = middle (map size done) (map size xs) (map size more) (length done) (length done + length xs) (length-map done size) (omega arith) in
      let q = middle (part_features reading k done) (part_features reading k xs) (part_features reading k more)
      (length done * 4 ^ k) ((length done + length xs) * 4 ^ k) (features_length reading k done) (omega arith) in
      rw (a, b, p, q)

  stretches_from : (done : List Part) (hs : List (List Part)) → stretches (4 ^ k) (length done) (ends_from (length done) hs) (all_of (done ++ flatten hs)) ≡ map (parts_of_haplotype reading k) hs
  unfolding stretches ends_from flatten
  stretches_from done [] = refl
  stretches_from done (xs ∷ hs) =
      let n = length done + length xs in
      let parts = all_of (done ++ (xs ++ flatten hs)) in
      let long = ap (λ (n : ℕ). stretches (4 ^ k) n (ends_from n hs) (all_of (done ++ (xs ++ flatten hs)))) (sym (length-append done xs)) in
      let same = ap (λ (l : List Part). stretches (4 ^ k) (length (done ++ xs)) (ends_from (length (done ++ xs)) hs) (all_of l)) (sym (append_assoc done xs (flatten hs))) in
      ap (λ (p : Parts). p ∷ stretches (4 ^ k) n (ends_from n hs) parts) (stretch_is done xs (flatten hs))
      ∙ ap (λ (l : List Parts). parts_of_haplotype reading k xs ∷ l) (long ∙ same ∙ stretches_from (done ++ xs) hs)

  pub stretches_are : (hs : List (List Part)) → 1 ≤ length hs → stretches (4 ^ k) 0 (ends_of (breaks_of hs) (length (flatten hs))) (all_of (flatten hs)) ≡ map (parts_of_haplotype reading k) hs
  stretches_are hs some = ap (λ (l : List ℕ). stretches (4 ^ k) 0 l (all_of (flatten hs))) (ends_are hs some) ∙ stretches_from [] hs
