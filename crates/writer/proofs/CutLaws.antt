-- Parts cut into haplotypes at breaks: these begin there, together they are the parts, and their bytes are the parts' with one more for each break. Assumes nothing.
use Prim.Native.Nat.{ℕ, zero, suc, ◌+◌, ◌-◌, ◌≤◌, ◌<◌}
use native.Mathlib.Omega.{arith}
use native.Mathlib.Numerals.{add-one}
use mathlib.Core.Path.{◌≡◌, refl, sym, ap, ◌∙◌}
use mathlib.Core.Bool.{true}
use mathlib.Core.List.{List, [], ◌∷◌, ◌++◌, flatten, append-nil}
use lib.Dec.{leb}
use lib.ListN.{length, get_or, take, drop, length-append, length-take, length-drop, take-append-drop}
use lib.Seq.{drop-cons}
use borrow.Author.Tests.{leb-true}
use Rattle.form.specs.Job.{Part, part_bytes, parts_bytes, further_bytes, haplotypes_bytes}
use Rattle.form.specs.Lent.{breaks_from, breaks_of}
use Rattle.writer.specs.Writing.{cut_at, in_order}
use Rattle.writer.specs.Holds.{PartsHold, HaplotypesHold}
use Rattle.form.proofs.FormLaws.{both}

-- ---- they begin at the breaks
pub record Ordered (m low b : ℕ) (bs : List ℕ) : Type 0 where
  pub low_in : low ≤ b
  pub end_in : b ≤ m
  pub rest : in_order m b bs ≡ true

pub ordered : (m low b : ℕ) (bs : List ℕ) → in_order m low (b ∷ bs) ≡ true → Ordered m low b bs
unfolding in_order
ordered m low b bs h =
    let p = both (leb low b) _ h in
    let q = both (leb b m) _ p.1 in
    record { low_in = leb-true low b p.0; end_in = leb-true b m q.0; rest = q.1 }

pub ordered_at : (m low : ℕ) (bs : List ℕ) (i : ℕ) → i < length bs → in_order m low (drop i bs) ≡ true → Ordered m low (get_or bs i 0) (drop (i + 1) bs)
ordered_at m low bs i inside h = ordered m low (get_or bs i 0) (drop (i + 1) bs) (rw (add-one i) (ap (in_order m low) (sym (drop-cons bs i 0 inside)) ∙ h))

breaks_from_lem : (m at : ℕ) (bs : List ℕ) (xs : List Part) → m ≡ at + length xs → in_order m at bs ≡ true → breaks_from at (cut_at at bs xs) ≡ at ∷ bs
unfolding cut_at breaks_from
breaks_from_lem m at [] xs e h = refl
breaks_from_lem m at (b ∷ bs) xs e h =
    let o = ordered m at b bs h in
    let n : at + length (take (b - at) xs) ≡ b = simp length-take (omega (arith, o.low_in, o.end_in, e)) in
    let k : m ≡ b + length (drop (b - at) xs) = simp length-drop (omega (arith, o.low_in, o.end_in, e)) in
    rw n (ap (λ (l : List ℕ). at ∷ l) (breaks_from_lem m b bs (drop (b - at) xs) k o.rest))

pub breaks_back : (bs : List ℕ) (xs : List Part) → in_order (length xs) 0 bs ≡ true → breaks_of (cut_at 0 bs xs) ≡ bs
unfolding cut_at breaks_of breaks_from
breaks_back [] xs h = refl
breaks_back (b ∷ bs) xs h =
    let o = ordered (length xs) 0 b bs h in
    let n : length (take (b - 0) xs) ≡ b = simp length-take (omega (arith, o.end_in)) in
    let k : length xs ≡ b + length (drop (b - 0) xs) = simp length-drop (omega (arith, o.end_in)) in
    rw n (breaks_from_lem (length xs) b bs (drop (b - 0) xs) k o.rest)

-- ---- one behind the other they are the parts
pub flat_cut : (at : ℕ) (bs : List ℕ) (xs : List Part) → flatten (cut_at at bs xs) ≡ xs
unfolding cut_at flatten
flat_cut at [] xs = append-nil xs
flat_cut at (b ∷ bs) xs = ap (λ (ys : List Part). take (b - at) xs ++ ys) (flat_cut b bs (drop (b - at) xs)) ∙ take-append-drop (b - at) xs

pub long_cut : (at : ℕ) (bs : List ℕ) (xs : List Part) → length (cut_at at bs xs) ≡ suc (length bs)
unfolding cut_at
long_cut at [] xs = refl
long_cut at (b ∷ bs) xs = ap suc (long_cut b bs (drop (b - at) xs))

-- ---- what holds of the parts holds of the haplotypes
take_hold : (n : ℕ) (xs : List Part) → PartsHold xs → PartsHold (take n xs)
take_hold zero xs h = tt
take_hold (suc n) [] h = tt
take_hold (suc n) (x ∷ xs) h = (h.0, take_hold n xs h.1)

drop_hold : (n : ℕ) (xs : List Part) → PartsHold xs → PartsHold (drop n xs)
drop_hold zero xs h = h
drop_hold (suc n) [] h = tt
drop_hold (suc n) (x ∷ xs) h = drop_hold n xs h.1

pub cut_holds : (at : ℕ) (bs : List ℕ) (xs : List Part) → PartsHold xs → HaplotypesHold (cut_at at bs xs)
unfolding cut_at
cut_holds at [] xs h = (h, tt)
cut_holds at (b ∷ bs) xs h = (take_hold (b - at) xs h, cut_holds b bs (drop (b - at) xs) (drop_hold (b - at) xs h))

-- ---- their bytes
further_cut : (at : ℕ) (bs : List ℕ) (xs : List Part) → further_bytes (cut_at at bs xs) ≡ 5 ∷ haplotypes_bytes (cut_at at bs xs)
unfolding cut_at further_bytes haplotypes_bytes
further_cut at [] xs = refl
further_cut at (b ∷ bs) xs = refl

pub last_bytes : (at : ℕ) (xs : List Part) → haplotypes_bytes (cut_at at [] xs) ≡ parts_bytes xs
unfolding cut_at further_bytes haplotypes_bytes
last_bytes at xs = append-nil (parts_bytes xs)

pub more_bytes : (at b : ℕ) (bs : List ℕ) (xs : List Part)
    → haplotypes_bytes (cut_at at (b ∷ bs) xs) ≡ parts_bytes (take (b - at) xs) ++ (5 ∷ haplotypes_bytes (cut_at b bs (drop (b - at) xs)))
unfolding cut_at haplotypes_bytes
more_bytes at b bs xs = ap (λ (l : List ℕ). parts_bytes (take (b - at) xs) ++ l) (further_cut b bs (drop (b - at) xs))

long_two : (n : ℕ) (xs : List Part) → length (parts_bytes (take n xs)) + length (parts_bytes (drop n xs)) ≡ length (parts_bytes xs)
unfolding parts_bytes
long_two zero xs = omega arith
long_two (suc n) [] = refl
long_two (suc n) (x ∷ xs) =
    let e = long_two n xs in
    let a = length-append (part_bytes x) (parts_bytes (take n xs)) in
    let b = length-append (part_bytes x) (parts_bytes xs) in
    omega (arith, a, b, e)

pub long_haplotypes : (at : ℕ) (bs : List ℕ) (xs : List Part) → length (haplotypes_bytes (cut_at at bs xs)) ≡ length bs + length (parts_bytes xs)
long_haplotypes at [] xs = ap length (last_bytes at xs) ∙ omega arith
long_haplotypes at (b ∷ bs) xs =
    let h : List ℕ = haplotypes_bytes (cut_at b bs (drop (b - at) xs)) in
    let e = ap length (more_bytes at b bs xs) in
    let a = length-append (parts_bytes (take (b - at) xs)) (5 ∷ h) in
    let g = long_haplotypes b bs (drop (b - at) xs) in
    let t = long_two (b - at) xs in
    omega (arith, e, a, g, t)
