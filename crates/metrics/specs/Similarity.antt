-- Document 01, "From letters to similarity": seqsim, sizesim and overlaps.
use Rattle.std.specs.Prelude.{ℕ, ◌+◌, min, max, Bool, cond, not, ◌&&◌, ◌||◌, List, [], ◌∷◌, length, ℤ, pos, ◌-ℤ◌, ◌==◌, nat_le, nat_lt, unsigned_abs, Float, Result, Ok, Err}
use Rattle.std.specs.Float.{binary32}
use Rattle.std.specs.Float.Ieee.{of_int, div, sub}
use Rattle.metrics.specs.declared.refusals.Refusal.{Refusal}
use Rattle.metrics.specs.declared.refusals.Refusal.TheVariants.{BadNumber, BadLengths, BadSize, BadRow}

-- a whole number cast to f32
abbrev pub whole : ℕ → Float
whole n = of_int binary32 (pos n)

-- a smaller call: its value, and zero where it refuses
abbrev pub value : Result Float Refusal → Float
value (Ok x) = x
value (Err refusal) = whole 0

-- a row's magnitudes, summed
unfoldable pub magnitude_sum : List ℤ → ℕ
magnitude_sum [] = 0
magnitude_sum (x ∷ xs) = unsigned_abs x + magnitude_sum xs

-- over entries with |x| + |y| at least minkfreq, d is the sum of |x| + |y| and n the sum of |x - y|
abbrev pub both : ℤ → ℤ → ℕ
both x y = unsigned_abs x + unsigned_abs y

abbrev pub part_d : ℕ → ℤ → ℤ → ℕ
part_d m x y = cond (nat_le m (both x y)) (both x y) 0

abbrev pub part_n : ℕ → ℤ → ℤ → ℕ
part_n m x y = cond (nat_le m (both x y)) (unsigned_abs (x -ℤ y)) 0

unfoldable pub sum_by : (ℤ → ℤ → ℕ) → List ℤ → List ℤ → ℕ
sum_by f [] ys = 0
sum_by f (x ∷ xs) [] = 0
sum_by f (x ∷ xs) (y ∷ ys) = f x y + sum_by f xs ys

abbrev pub sum_d : ℕ → List ℤ → List ℤ → ℕ
sum_d m = sum_by (part_d m)

abbrev pub sum_n : ℕ → List ℤ → List ℤ → ℕ
sum_n m = sum_by (part_n m)

-- zero d gives 0.0; else zero n gives 1.0; else 1.0 - (n / d), rounded after the division and after the subtraction
abbrev pub seqsim_value : ℕ → ℕ → Float
seqsim_value d n =
    cond (d == 0) (whole 0) (cond (n == 0) (whole 1) (sub binary32 (whole 1) (div binary32 (whole n) (whole d))))

-- called alone it refuses by 3, 6 (unequal lengths) and 10 (either row's magnitudes sum to over 8,388,608)
unfoldable pub seqsim_of : List ℤ → List ℤ → ℕ → Result Float Refusal
seqsim_of a b m =
    cond (nat_lt 16777216 m) (Err BadNumber)
    (cond (not (length a == length b)) (Err BadLengths)
    (cond (nat_lt 8388608 (magnitude_sum a)) (Err BadRow)
    (cond (nat_lt 8388608 (magnitude_sum b)) (Err BadRow)
    (Ok (seqsim_value (sum_d m a b) (sum_n m a b))))))

-- equal magnitudes give 1.0; else smaller over larger, each first raised to at least 1, one division
abbrev pub ratio_of : ℕ → ℕ → Float
ratio_of lo hi = div binary32 (whole (max lo 1)) (whole (max hi 1))

abbrev pub sizesim_value : ℕ → ℕ → Float
sizesim_value a b = cond (a == b) (whole 1) (ratio_of (min a b) (max a b))

-- alone it refuses by 9 above 8,388,608
unfoldable pub sizesim_of : ℕ → ℕ → Result Float Refusal
sizesim_of a b = cond (nat_lt 8388608 (max a b)) (Err BadSize) (Ok (sizesim_value a b))

-- the first interval is zero-length, and the other's start is less than it and the other's end is greater (document 02, P5)
abbrev pub lies_inside : ℕ → ℕ → ℕ → ℕ → Bool
lies_inside s e start end = s == e && (nat_lt start s && nat_lt s end)

-- the larger start is less than the smaller end; or one interval is zero-length and lies inside the other
unfoldable pub overlaps_of : ℕ → ℕ → ℕ → ℕ → Bool
overlaps_of s1 e1 s2 e2 = nat_lt (max s1 s2) (min e1 e2) || (lies_inside s1 e1 s2 e2 || lies_inside s2 e2 s1 e1)
