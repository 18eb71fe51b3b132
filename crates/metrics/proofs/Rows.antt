-- Sums over what is left of a row. Assumes nothing.
use Rattle.std.proofs.Common.{◌≡◌, ℕ, suc, ◌+◌, ◌*◌, ◌<◌, ◌≤◌, Bool, true, false, cond, leb, List, [], ◌∷◌, length, get_or, drop, ℤ, pos, ◌-ℤ◌, nat_abs, refl, zero-le, le_refl}
use Rattle.std.proofs.Common.{add-mul, add-one, arith, drop_of_length-le, drop-cons, leb-false}
use Rattle.metrics.specs.Similarity.{magnitude_sum, both, part_d, part_n, sum_by, sum_d, sum_n}
use Rattle.metrics.proofs.Ints.{apart_le}

pub row_step : (a : List ℤ) (i : ℕ) → i < length a → magnitude_sum (drop i a) ≡ nat_abs (get_or a i (pos 0)) + magnitude_sum (drop (i + 1) a)
unfolding magnitude_sum
row_step a i h = rw (add-one, drop-cons a i (pos 0) h)

pub row_none : (a : List ℤ) (i : ℕ) → length a ≤ i → magnitude_sum (drop i a) ≡ 0
unfolding magnitude_sum
row_none a i h = rw (drop_of_length-le a h)

pub sum_step : (f : ℤ → ℤ → ℕ) (a b : List ℤ) (i : ℕ) → i < length a → i < length b
    → sum_by f (drop i a) (drop i b) ≡ f (get_or a i (pos 0)) (get_or b i (pos 0)) + sum_by f (drop (i + 1) a) (drop (i + 1) b)
unfolding sum_by
sum_step f a b i h k = rw (add-one, drop-cons a i (pos 0) h, drop-cons b i (pos 0) k)

pub sum_none : (f : ℤ → ℤ → ℕ) (a b : List ℤ) (i : ℕ) → length a ≤ i → sum_by f (drop i a) (drop i b) ≡ 0
unfolding sum_by
sum_none f a b i h = rw (drop_of_length-le a h)

-- a sum of parts that are each at most |x| + |y| is at most the sum of both rows' magnitudes
pub sum_le : (f : ℤ → ℤ → ℕ) → ((x y : ℤ) → f x y ≤ nat_abs x + nat_abs y) → (a b : List ℤ) → sum_by f a b ≤ magnitude_sum a + magnitude_sum b
unfolding sum_by magnitude_sum
sum_le f h [] b = zero-le
sum_le f h (x ∷ a) [] = zero-le
sum_le f h (x ∷ a) (y ∷ b) = omega (arith, h x y, sum_le f h a b)

cond_le : (t : Bool) (p q : ℕ) → p ≤ q → cond t p 0 ≤ q
cond_le true p q h = h
cond_le false p q h = zero-le

pub d_le : (m : ℕ) (x y : ℤ) → part_d m x y ≤ nat_abs x + nat_abs y
d_le m x y = cond_le (leb m (both x y)) (both x y) (both x y) (le_refl (both x y))

pub n_le : (m : ℕ) (x y : ℤ) → part_n m x y ≤ nat_abs x + nat_abs y
n_le m x y = cond_le (leb m (both x y)) (nat_abs (x -ℤ y)) (both x y) (apart_le x y)

-- what d leaves out of both rows' magnitudes is at most minkfreq in each entry
some_left : (t : Bool) (m b : ℕ) → leb m b ≡ t → b ≤ cond t b 0 + m
some_left true m b e = omega arith
some_left false m b e = omega (arith, leb-false m b e)

pub left_out : (m : ℕ) (a b : List ℤ) → length a ≡ length b → magnitude_sum a + magnitude_sum b ≤ sum_by (part_d m) a b + length a * m
unfolding sum_by magnitude_sum
left_out m [] [] e = omega arith
left_out m [] (y ∷ b) e = absurd (uneven (length b) e)
  where
    uneven : (n : ℕ) → 0 ≡ suc n → ⊥
    uneven n e = omega arith
left_out m (x ∷ a) [] e = absurd (uneven (length a) e)
  where
    uneven : (n : ℕ) → suc n ≡ 0 → ⊥
    uneven n e = omega arith
left_out m (x ∷ a) (y ∷ b) e =
    let rest : length a ≡ length b = omega arith in
    omega (arith, some_left (leb m (both x y)) m (both x y) refl, left_out m a b rest, add-mul 1 (length a) m)

-- n is at most d, entry by entry
part_le : (t : Bool) (p q : ℕ) → p ≤ q → cond t p 0 ≤ cond t q 0
part_le true p q h = h
part_le false p q h = zero-le

pub n_le_d : (m : ℕ) (a b : List ℤ) → sum_n m a b ≤ sum_d m a b
unfolding sum_by
n_le_d m [] b = zero-le
n_le_d m (x ∷ a) [] = zero-le
n_le_d m (x ∷ a) (y ∷ b) = omega (arith, part_le (leb m (both x y)) (nat_abs (x -ℤ y)) (both x y) (apart_le x y), n_le_d m a b)
