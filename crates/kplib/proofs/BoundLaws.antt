-- seqsim falls as n grows and as d falls, through both roundings: a part of n, and a number that d does not pass, bound it from above. Since |y| is at most
-- |x| + |x - y|, twice the first row's magnitudes and n are such a number, and the second row's are not needed. Assumes nothing.
use mathlib.Core.Path.{◌≡◌, refl, subst}
use mathlib.Core.Bool.{Bool, true, false, cond}
use mathlib.Core.List.{List, [], ◌∷◌}
use Prim.Native.Nat.{ℕ, zero, suc, ◌+◌, ◌-◌, ◌*◌, ◌≤◌, ◌<◌, min, zero-le}
use native.Mathlib.Nat.{mul_comm, mul-add, mul-le-mul, le_refl}
use native.Mathlib.Omega.{arith}
use lib.Dec.{T, leb, ltb, eqb}
use lib.IntN.{ℤ, pos, negsuc, nat_abs, ◌-ℤ◌}
use borrow.Author.Tests.{ltb-true, ltb-false, leb-true, leb-false, eqb-true, eqb-false}
use lib.Ieee.{Float, binary32, round, sub, div, of_int, le}
use lib.Ieee.Order.{round_mono}
use lib.Ieee.Positive.{positive, between, sub_anti}
use Rattle.metrics.specs.Similarity.{whole, magnitude_sum, both, sum_by, sum_d, sum_n, seqsim_value}
use Rattle.metrics.proofs.ErrorLaws.{div_whole}
use Rattle.metrics.proofs.FloatOrder.{le_trans}

-- ---- quotients from 1 / 2 ^ 24 to 1
least_positive : T (positive (round binary32 false 1 16777216))
unfolding round
least_positive = tt

one_is_one : round binary32 false 1 1 ≡ whole 1
unfolding of_int
one_is_one = refl

one_positive : T (positive (whole 1))
unfolding of_int round
one_positive = tt

module _ (n d : ℕ) (N : 0 < n) (h : n ≤ d) (l : d ≤ 16777216) where
  above_least : T (le (round binary32 false 1 16777216) (round binary32 false n d))
  above_least = round_mono binary32 1 16777216 n d (omega arith) (omega arith) (omega arith)

  below_one : T (le (round binary32 false n d) (whole 1))
  below_one = subst (λ (z : Float). T (le (round binary32 false n d) z)) one_is_one (round_mono binary32 n d 1 1 (omega arith) (omega arith) (omega arith))

  quotient_positive : T (positive (round binary32 false n d))
  quotient_positive = between (round binary32 false 1 16777216) (round binary32 false n d) (whole 1) least_positive one_positive above_least below_one

-- 1 - 1 / 2 ^ 24 is below 1, so what takes more from 1 is too
under_one : T (le (sub binary32 (whole 1) (round binary32 false 1 16777216)) (whole 1))
unfolding sub of_int round le
under_one = tt

less_than_one : (n d : ℕ) → 0 < n → n ≤ d → d ≤ 16777216 → T (le (sub binary32 (whole 1) (round binary32 false n d)) (whole 1))
less_than_one n d N h l =
    let lo = round binary32 false 1 16777216 in
    let y = round binary32 false n d in
    le_trans (sub binary32 (whole 1) y) (sub binary32 (whole 1) lo) (whole 1)
    (sub_anti binary32 (whole 1) lo y one_positive least_positive (quotient_positive n d N h l) (above_least n d N h l) (below_one n d N h l)) under_one

falls_between : (n m d e : ℕ) → 0 < m → 0 < n → n ≤ d → m ≤ e → d ≤ 16777216 → e ≤ 16777216 → m * d ≤ n * e
    → T (le (sub binary32 (whole 1) (round binary32 false n d)) (sub binary32 (whole 1) (round binary32 false m e)))
falls_between n m d e M N nd me ld le' h =
    sub_anti binary32 (whole 1) (round binary32 false m e) (round binary32 false n d) one_positive (quotient_positive m e M me le') (quotient_positive n d N nd ld)
    (round_mono binary32 m e n d (omega arith) (omega arith) h) (below_one n d N nd ld)

zero_one : T (le (whole 0) (whole 1))
unfolding of_int round le
zero_one = tt

one_one : T (le (whole 1) (whole 1))
unfolding of_int round le
one_one = tt

-- n / d is at least m / e
record Over (d n e m : ℕ) : Type 0 where
  part : m ≤ n
  whole_d : n ≤ d
  whole_e : m ≤ e
  low_d : d ≤ 16777216
  low_e : e ≤ 16777216
  some : 0 < e
  crossed : m * d ≤ n * e

falls : (d n e m : ℕ) → Over d n e m → T (le (seqsim_value d n) (seqsim_value e m))
falls d n e m v = go (eqb d 0) (eqb n 0) (eqb e 0) (eqb m 0) refl refl refl refl
  where
    go : (td tn te tm : Bool) → eqb d 0 ≡ td → eqb n 0 ≡ tn → eqb e 0 ≡ te → eqb m 0 ≡ tm
        → T (le (cond td (whole 0) (cond tn (whole 1) (sub binary32 (whole 1) (div binary32 (whole n) (whole d)))))
        (cond te (whole 0) (cond tm (whole 1) (sub binary32 (whole 1) (div binary32 (whole m) (whole e))))))
    go td tn true tm zd zn ze zm = absurd (omega (arith, eqb-true e 0 ze, v.some))
    go true tn false true zd zn ze zm = zero_one
    go true tn false false zd zn ze zm = absurd (omega (arith, eqb-true d 0 zd, eqb-false m 0 zm, v.part, v.whole_d))
    go false true false true zd zn ze zm = one_one
    go false true false false zd zn ze zm = absurd (omega (arith, eqb-true n 0 zn, eqb-false m 0 zm, v.part))
    go false false false true zd zn ze zm =
        let N : 0 < n = omega (arith, eqb-false n 0 zn) in
        let D : 0 < d = omega (arith, eqb-false d 0 zd) in
        rw (div_whole n d N D (omega (arith, v.whole_d, v.low_d)) v.low_d) (less_than_one n d N v.whole_d v.low_d)
    go false false false false zd zn ze zm =
        let N : 0 < n = omega (arith, eqb-false n 0 zn) in
        let M : 0 < m = omega (arith, eqb-false m 0 zm) in
        let D : 0 < d = omega (arith, eqb-false d 0 zd) in
        rw (div_whole n d N D (omega (arith, v.whole_d, v.low_d)) v.low_d, div_whole m e M v.some (omega (arith, v.whole_e, v.low_e)) v.low_e)
        (falls_between n m d e M N v.whole_d v.whole_e v.low_d v.low_e v.crossed)

-- ---- |y| is at most |x| + |x - y|, so d is at most twice the first row's magnitudes and n
reach_by : (t : Bool) (a b : ℕ) → ltb a b ≡ t → b ≤ a + nat_abs (cond t (negsuc (b - suc a)) (pos (a - b)))
reach_by true a b e = omega (arith, ltb-true a b e)
reach_by false a b e = omega (arith, ltb-false a b e)

reach_back : (t : Bool) (a b : ℕ) → ltb b a ≡ t → b ≤ a + nat_abs (cond t (negsuc (a - suc b)) (pos (b - a)))
reach_back true a b e = omega (arith, ltb-true b a e)
reach_back false a b e = omega (arith, ltb-false b a e)

reach : (x y : ℤ) → nat_abs y ≤ nat_abs x + nat_abs (x -ℤ y)
reach (pos a) (pos zero) = zero-le
reach (pos a) (pos (suc b)) = reach_by (ltb a (suc b)) a (suc b) refl
reach (pos a) (negsuc b) = omega arith
reach (negsuc a) (pos zero) = zero-le
reach (negsuc a) (pos (suc b)) = omega arith
reach (negsuc a) (negsuc b) = reach_back (ltb (suc b) (suc a)) (suc a) (suc b) refl

twice_le : (t : Bool) (p q z : ℕ) → q ≤ p + z → cond t (p + q) 0 ≤ 2 * p + cond t z 0
twice_le true p q z h = omega arith
twice_le false p q z h = zero-le

pub d_le_twice : (m : ℕ) (a b : List ℤ) → sum_d m a b ≤ 2 * magnitude_sum a + sum_n m a b
unfolding sum_by magnitude_sum
d_le_twice m [] b = zero-le
d_le_twice m (x ∷ a) [] = zero-le
d_le_twice m (x ∷ a) (y ∷ b) = omega (arith, twice_le (leb m (both x y)) (nat_abs x) (nat_abs y) (nat_abs (x -ℤ y)) (reach x y), d_le_twice m a b)

-- ---- n of a part of the rows, and the bound that it gives; the 1 keeps the divisor above 0
over_bound : (d n size m : ℕ) → m ≤ n → n ≤ d → d ≤ 2 * size + n → d ≤ 16777216 → Over d n (min (2 * size + 1 + m) 16777216) m
over_bound d n size m mn nd far l = record {
  part = mn;
  whole_d = nd;
  whole_e = omega arith;
  low_d = l;
  low_e = omega arith;
  some = omega arith;
  crossed = go (leb (2 * size + 1 + m) 16777216) refl;
}
  where
    wide : m * d ≤ n * (2 * size + 1 + m)
    wide =
        omega (arith, mul-le-mul (le_refl m) far, mul-add m (2 * size) n, mul-le-mul mn (le_refl (2 * size)), mul-add n (2 * size + 1) m, mul-add n (2 * size) 1, mul_comm m n)

    go : (t : Bool) → leb (2 * size + 1 + m) 16777216 ≡ t → m * d ≤ n * min (2 * size + 1 + m) 16777216
    go true e = let f : min (2 * size + 1 + m) 16777216 ≡ 2 * size + 1 + m = omega (arith, leb-true (2 * size + 1 + m) 16777216 e) in rw f wide
    go false e = let f : min (2 * size + 1 + m) 16777216 ≡ 16777216 = omega (arith, leb-false (2 * size + 1 + m) 16777216 e) in rw f (mul-le-mul mn l)

pub bounded : (d n size m : ℕ) → m ≤ n → n ≤ d → d ≤ 2 * size + n → d ≤ 16777216 → T (le (seqsim_value d n) (seqsim_value (min (2 * size + 1 + m) 16777216) m))
bounded d n size m mn nd far l = falls d n (min (2 * size + 1 + m) 16777216) m (over_bound d n size m mn nd far l)
