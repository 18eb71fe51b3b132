-- Sums of sizes: how large a sum grows, one more row, and the loop that adds up the rows of a list or the whole haplotype. Assumes nothing.
use mathlib.Core.Path.{◌≡◌, refl, sym, ap, ◌∙◌}
use mathlib.Core.List.{List, [], ◌∷◌, ◌++◌}
use Prim.Native.Nat.{ℕ, ◌+◌, ◌*◌, ◌≤◌, ◌<◌}
use native.Mathlib.Omega.{arith}
use native.Mathlib.Numerals.{add-one}
use lib.IntN.{ℤ, pos, nat_abs, ◌+ℤ◌}
use lib.ListN.{length, get_or, drop, drop_of_length-le}
use lib.Seq.{drop-cons}
use mir.Syntax.{w32}
use mir.Val.{to_z, of_z}
use Rattle.metrics.proofs.Ints.{add_le}
use Rattle.params.specs.Checked.{Sized}
use Rattle.kplib.specs.Parts.{whole_of}
use Rattle.kplib.specs.Sums.{size_from, size_of}
use Rattle.kplib.specs.SearchSteps.{Rowed}
use Rattle.kplib.proofs.CodeLaws.{whole_below, whole_length, whole_at}
use Rattle.kplib.proofs.WordLaws.{back}

size_from_le : (sizes : List ℤ) (z : ℤ) (rows : List ℕ) → ((r : ℕ) → nat_abs (get_or sizes r (pos 0)) ≤ 131072) → nat_abs (size_from sizes z rows) ≤ nat_abs z + length rows * 131072
unfolding size_from
size_from_le sizes z [] b = omega arith
size_from_le sizes z (r ∷ rows) b = omega (arith, size_from_le sizes (z +ℤ get_or sizes r (pos 0)) rows b, add_le z (get_or sizes r (pos 0)), b r)

pub size_le : (sizes : List ℤ) (rows : List ℕ) → Sized sizes → length rows ≤ 64 → nat_abs (size_of sizes rows) ≤ 8388608
unfolding size_of
size_le sizes rows s h = omega (arith, size_from_le sizes (pos 0) rows s.sized)

size_from_snoc : (sizes : List ℤ) (z : ℤ) (rows : List ℕ) (r : ℕ) → size_from sizes z (rows ++ (r ∷ [])) ≡ size_from sizes z rows +ℤ get_or sizes r (pos 0)
unfolding size_from
size_from_snoc sizes z [] r = refl
size_from_snoc sizes z (x ∷ rows) r = size_from_snoc sizes (z +ℤ get_or sizes x (pos 0)) rows r

pub size_snoc : (sizes : List ℤ) (rows : List ℕ) (r : ℕ) → size_of sizes (rows ++ (r ∷ [])) ≡ size_of sizes rows +ℤ get_or sizes r (pos 0)
unfolding size_of
size_snoc sizes rows r = size_from_snoc sizes (pos 0) rows r

-- ---- the loop over the rows of a list: the first i sizes are added up, and the rest added to their sum is the whole
pub record Summing (sizes : List ℤ) (rows : List ℕ) (size : ℤ) (i : ℕ) : Type 0 where
  pub small : nat_abs size ≤ i * 131072
  pub rest : size_from sizes size (drop i rows) ≡ size_of sizes rows

pub summing_begin : (sizes : List ℤ) (rows : List ℕ) → Summing sizes rows (pos 0) 0
unfolding size_of
summing_begin sizes rows = record { small = omega arith; rest = refl }

module _ {sizes : List ℤ} {rows : List ℕ} {size : ℤ} {i : ℕ} (h : Rowed sizes rows) (v : Summing sizes rows size i) (l : i < length rows) where
  abbrev next : ℤ
  next = get_or sizes (get_or rows i 0) (pos 0)

  next_back : to_z w32 (of_z w32 next) ≡ next
  next_back = back next (omega (arith, h.sized.sized (get_or rows i 0)))

  next_small : nat_abs (size +ℤ next) ≤ (i + 1) * 131072
  next_small = omega (arith, v.small, add_le size next, h.sized.sized (get_or rows i 0))

  pub summing_on : Summing sizes rows (to_z w32 (of_z w32 (size +ℤ to_z w32 (of_z w32 (get_or sizes (get_or rows i 0) (pos 0)))))) (i + 1)
  unfolding size_from
  summing_on = rw (next_back, back (size +ℤ next) (omega (arith, next_small, h.most)))
      (record { small = next_small; rest = rw (add-one i) (sym (ap (λ (m : List ℕ). size_from sizes size m) (drop-cons rows i 0 l)) ∙ v.rest) })

pub summing_done : {sizes : List ℤ} {rows : List ℕ} {size : ℤ} {i : ℕ} → Summing sizes rows size i → length rows ≤ i → size ≡ size_of sizes rows
unfolding size_from
summing_done {sizes} {rows} {size} v h = sym (ap (λ (m : List ℕ). size_from sizes size m) (drop_of_length-le rows h)) ∙ v.rest

-- ---- and over the whole haplotype, whose p-th position is p
module _ {sizes : List ℤ} {size : ℤ} {p : ℕ} (s : Sized sizes) (v : Summing sizes (whole_of (length sizes)) size p) (l : p < length sizes) where
  rowed : Rowed sizes (whole_of (length sizes))
  rowed = record { sized = s; within = whole_below (length sizes); most = omega (arith, whole_length (length sizes), s.few) }

  position : get_or (whole_of (length sizes)) p 0 ≡ p
  position = whole_at (length sizes) p l

  inside : p < length (whole_of (length sizes))
  inside = omega (arith, whole_length (length sizes))

  pub whole_on : Summing sizes (whole_of (length sizes)) (to_z w32 (of_z w32 (size +ℤ to_z w32 (of_z w32 (get_or sizes p (pos 0)))))) (p + 1)
  whole_on = rw position at (summing_on rowed v inside)

pub whole_done : {sizes : List ℤ} {size : ℤ} {p : ℕ} → Summing sizes (whole_of (length sizes)) size p → length sizes ≤ p → size ≡ size_of sizes (whole_of (length sizes))
whole_done {sizes} v h = summing_done v (omega (arith, whole_length (length sizes)))
