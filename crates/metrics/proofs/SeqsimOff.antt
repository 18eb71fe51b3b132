-- How far seqsim is off: |S × d − (d − n) × 2 ^ 24| is at most d, S being seqsim times 2 ^ 24. Let q = n / d, between 0 and 1.
-- From 1/2 on, q rounds to a multiple R / 2 ^ 24 and is off by at most half of 1 / 2 ^ 24; 1 − R / 2 ^ 24 is exact (`sub_exact`), so S = 2 ^ 24 − R.
-- Below 1/2, q is off by at most a quarter of 1 / 2 ^ 24. The difference from 1 lies between 1/2 and 1, rounds to a multiple S / 2 ^ 24, and is off by another
-- half: three quarters together. Zero n is 1.0, exact. The laws of the two roundings are those of ErrorLaws. Assumes nothing.
use Rattle.std.proofs.Common.{◌≡◌, ℕ, zero, suc, ◌+◌, ◌-◌, ◌*◌, ◌^◌, ◌<◌, ◌≤◌, Bool, true, false, cond, not, eqb, ltb, leb, [], ◌∷◌, length, ℤ, pos, negsuc, ◌-ℤ◌, ◌*ℤ◌, nat_abs}
use Rattle.std.proofs.Common.{sym, refl, ap, ◌∙◌, subst, ⊎_elim, le_trans, le_of_eq, le_refl, lt_of_lt_of_le, lt_of_le_of_lt, mul-le-mul_right, mul_assoc, mul_comm, add-mul}
use Rattle.std.proofs.Common.{eq-or-lt_of_le, mul-lt-mul_of_pos_right, one-mul, mul_right_comm, le_of_mul-le-mul_right, mul_left_comm, arith, lit<, lit≤, pow_pos, ltb-false}
use Rattle.std.proofs.Common.{ltb-true, eqb-true, leb-false, leb-true}
use lib.Ieee.{Float, fin, binary32, round, sub, div, of_int}
use lib.Ieee.Exact.{HasValue}
use lib.Ieee.Scale.{round_same, grid}
use borrow.Author.Tests.{eqb-false}
use Rattle.std.specs.Prelude.{Ok, Err}
use Rattle.metrics.specs.declared.refusals.Refusal.TheVariants.{BadNumber, BadLengths, BadRow}
use Rattle.metrics.specs.Refusals.{told}
use Rattle.metrics.specs.Similarity.{whole, value, magnitude_sum, sum_by, part_d, sum_d, sum_n, seqsim_value, seqsim_of}
use Rattle.metrics.specs.SeqsimError.{Times, off, SeqsimError}
use Rattle.metrics.proofs.Rows.{sum_le, d_le, n_le_d}
use Rattle.metrics.proofs.ErrorLaws.{Near, near_times, near_cancel, round_near, round_most, round_value, round_multiple, rescaled, whole_value, div_whole, sub_at, sub_exact}

-- ---- arithmetic over plain numbers; u is the unit that 2 ^ 149 is a multiple of
less_units : (u n d : ℕ) → 0 < u → n < d → n * u < u * d
less_units u n d U h = lt_of_lt_of_le (mul-lt-mul_of_pos_right h U) (le_of_eq (mul_comm d u))

half_units : (u n d : ℕ) → d ≤ n * 2 → u * d ≤ n * (u * 2)
half_units u n d h = le_trans (le_of_eq (mul_comm u d)) (le_trans (mul-le-mul_right u h) (le_of_eq (mul_right_comm n 2 u ∙ mul_assoc n u 2)))

less_half : (u n d : ℕ) → 0 < u → n * 2 < d → n * (u * 2) < u * d
less_half u n d U h = lt_of_lt_of_le (lt_of_le_of_lt (le_of_eq (sym (mul_assoc n u 2) ∙ mul_right_comm n u 2)) (mul-lt-mul_of_pos_right h U)) (le_of_eq (mul_comm d u))

back : (p r : ℕ) → r ≤ p → p - r + r ≡ p
back p r h = omega arith

-- s × d is within three quarters of d of (d − n) × 2 ^ 24; four times both, and n on the other side
abbrev pub Close : ℕ → ℕ → ℕ → Type 0
Close s d n = Near (3 * d) (4 * (s * d) + 67108864 * n) (67108864 * d)

-- from 1/2 on: r / 2 ^ 24 is the rounded quotient, and the difference is exact
exact_close : (r d n : ℕ) → r ≤ 16777216 → Near d (r * d * 2) (n * 16777216 * 2) → Close (16777216 - r) d n
exact_close r d n l h =
    let e : (16777216 - r) * d + r * d ≡ 16777216 * d = sym (add-mul (16777216 - r) r d) ∙ ap (λ (x : ℕ). x * d) (back 16777216 r l) in
    (omega (arith, h.0, h.1, e), omega (arith, h.0, h.1, e))

-- below 1/2: w / (2 ^ 25 × u) is the rounded quotient, s / 2 ^ 24 the rounded difference
rounded_close : (u w s d n : ℕ) → 0 < u → w ≤ 33554432 * u → Near (d * u) (w * d * 2) (n * (33554432 * u) * 2)
    → Near (2 * u) (s * (2 * u) * 2) ((33554432 * u - w) * 2) → Close s d n
rounded_close u w s d n U l h k =
    let e : s * (2 * u) ≡ 2 * (s * u) = mul_left_comm s 2 u in
    let k' : Near (2 * u) (4 * (s * u) + 2 * w) (67108864 * u) = (omega (arith, k.0), omega (arith, k.1)) in
    let m = near_times d (2 * u) (4 * (s * u) + 2 * w) (67108864 * u) k' in
    let t1 : (4 * (s * u) + 2 * w) * d ≡ 4 * (s * d * u) + 2 * (w * d) = add-mul (4 * (s * u)) (2 * w) d ∙ simp (mul_assoc, mul_comm, mul_left_comm) in
    let t2 : 67108864 * u * d ≡ 67108864 * (d * u) = simp (mul_assoc, mul_comm) in
    let t3 : 2 * u * d ≡ 2 * (d * u) = simp (mul_assoc, mul_comm) in
    let t4 : n * (33554432 * u) * 2 ≡ 67108864 * (n * u) = ap (λ (x : ℕ). x * 2) (mul_left_comm n 33554432 u) ∙ times_two (n * u) in
    let v1 : (4 * (s * d) + 67108864 * n) * u ≡ 4 * (s * d * u) + 67108864 * (n * u) = add-mul (4 * (s * d)) (67108864 * n) u ∙ simp (mul_assoc) in
    let v2 : 67108864 * d * u ≡ 67108864 * (d * u) = mul_assoc 67108864 d u in
    let v3 : 3 * d * u ≡ 3 * (d * u) = mul_assoc 3 d u in
    near_cancel u (3 * d) (4 * (s * d) + 67108864 * n) (67108864 * d) U (omega (arith, h.0, h.1, m.0, m.1), omega (arith, h.0, h.1, m.0, m.1))
  where
    times_two : (x : ℕ) → 33554432 * x * 2 ≡ 67108864 * x
    times_two x = omega arith

-- ---- the two operations. 2 ^ 149 smallest values are 1, so 2 ^ 125 of them are 1 / 2 ^ 24
in_units : (x : Float) (s : ℕ) → HasValue x false (s * 2 ^ 125) (2 ^ 149) → Times x s
in_units x s v = rescaled x false (s * 2 ^ 125) (2 ^ 149) s 16777216 (pow_pos 149) (mul_assoc s (2 ^ 125) 16777216) v

one_value : HasValue (whole 1) false (2 ^ 149) (2 ^ 149)
one_value = rescaled (whole 1) false 1 1 (2 ^ 149) (2 ^ 149) (pow_pos 0) (mul_comm 1 (2 ^ 149)) (whole_value 1 (lit≤ tt))

-- n / d rounds to r / 2 ^ 24
record Quotient (n d : ℕ) : Type 0 where
  r : ℕ
  some : 0 < r
  most : r ≤ 16777216
  is : HasValue (round binary32 false n d) false (r * 2 ^ 125) (2 ^ 149)
  close : Near d (r * d * 2) (n * 16777216 * 2)

cancelled : (u r d n : ℕ) → 0 < u → Near (d * u) (r * u * d * 2) (n * (16777216 * u) * 2) → Near d (r * d * 2) (n * 16777216 * 2)
cancelled u r d n U h =
    let e : r * u * d * 2 ≡ r * d * 2 * u = simp (mul_assoc, mul_comm, mul_left_comm) in
    let g : n * (16777216 * u) * 2 ≡ n * 16777216 * 2 * u = simp (mul_assoc, mul_comm, mul_left_comm) in
    near_cancel u d (r * d * 2) (n * 16777216 * 2) U (omega (arith, h.0), omega (arith, h.1))

not_none : (r d n : ℕ) → 0 < n → d ≤ n * 2 → n * 16777216 * 2 ≤ r * d * 2 + d → 0 < r
not_none zero d n N l h = absurd (omega arith)
not_none (suc r) d n N l h = omega arith

one_is : round binary32 false 1 1 ≡ whole 1
unfolding of_int
one_is = refl

equal_parts : (n d : ℕ) → 0 < d → n ≡ d → Quotient n d
equal_parts n d D e =
    let same : round binary32 false n d ≡ whole 1 = round_same binary32 false n d 1 1 D (pow_pos 0) (omega arith) ∙ one_is in
    record {
      r = 16777216;
      some = lit< tt;
      most = le_refl 16777216;
      is = subst (λ (z : Float). HasValue z false (2 ^ 149) (2 ^ 149)) (sym same) one_value;
      close = (omega arith, omega arith);
    }

module _ (n d : ℕ) (N : 0 < n) (h : n < d) (l : d ≤ n * 2) where
  some_d : 0 < d
  some_d = omega arith

  below_one : n * 2 ^ 149 < 2 ^ 149 * d
  below_one = less_units (2 ^ 149) n d (pow_pos 149) h

  upper_by : (r : ℕ) → grid binary32 n d ≡ r * 2 ^ 125 → Quotient n d
  upper_by r e =
      let near =
      cancelled (2 ^ 125) r d n (pow_pos 125) (subst (λ (g : ℕ). Near (d * 2 ^ 125) (g * d * 2) (n * 2 ^ 149 * 2)) e (round_near binary32 n d 125 some_d below_one)) in
      record {
        r = r;
        some = not_none r d n N l near.1;
        most = le_of_mul-le-mul_right (subst (λ (g : ℕ). g ≤ 2 ^ 149) e (round_most binary32 n d 125 some_d below_one)) (pow_pos 125);
        is = subst (λ (g : ℕ). HasValue (round binary32 false n d) false g (2 ^ 149)) e (round_value binary32 n d 125 some_d below_one (lit< tt));
        close = near;
      }

  upper_part : Quotient n d
  upper_part = let m = round_multiple binary32 n d 125 some_d (half_units (2 ^ 148) n d l) in upper_by m.0 m.1

-- 1 − n / d, rounded after the division and after the subtraction
abbrev complement : ℕ → ℕ → Float
complement n d = sub binary32 (whole 1) (round binary32 false n d)

-- what is shown of the float x: more than the statement asks
pub record Shown (x : Float) (d n : ℕ) : Type 0 where
  pub s : ℕ
  pub times : Times x s
  pub close : Close s d n

-- from 1/2 on the difference is exact
from_half : (n d : ℕ) → Quotient n d → Shown (complement n d) d n
from_half n d q = record {
  s = 16777216 - q.r;
  times =
      in_units (complement n d) (16777216 - q.r)
      (sub_exact binary32 (whole 1) (round binary32 false n d) 16777216 q.r 125 q.most (omega (arith, q.some)) (lit< tt) one_value q.is);
  close = exact_close q.r d n q.most q.close;
}

-- ---- below 1/2 both operations round
something : (u w d n : ℕ) → 0 < u → 0 < n → d ≤ 16777216 → n * (33554432 * u) * 2 ≤ w * d * 2 + d * u → 0 < w
something u zero d n U N l h =
    let a = mul-le-mul_right (33554432 * u) N in
    let b = mul-le-mul_right u l in
    absurd (omega (arith, one-mul (33554432 * u)))
something u (suc w) d n U N l h = omega arith

unscaled : (p e a b : ℕ) → 0 < p → Near (p * e) (a * p * 2) (b * p * 2) → Near e (a * 2) (b * 2)
unscaled p e a b P h =
    let x = mul_right_comm a p 2 in
    let y = mul_right_comm b p 2 in
    let z = mul_comm p e in
    near_cancel p e (a * 2) (b * 2) P (omega (arith, h.0), omega (arith, h.1))

module _ (n d : ℕ) (N : 0 < n) (h : n * 2 < d) (l : d ≤ 16777216) where
  positive_d : 0 < d
  positive_d = omega arith

  below_half : n * 2 ^ 149 < 2 ^ 148 * d
  below_half = less_half (2 ^ 148) n d (pow_pos 148) h

  module _ (w : ℕ) (e : grid binary32 n d ≡ w) where
    near_w : Near (d * 2 ^ 124) (w * d * 2) (n * 2 ^ 149 * 2)
    near_w = subst (λ (g : ℕ). Near (d * 2 ^ 124) (g * d * 2) (n * 2 ^ 149 * 2)) e (round_near binary32 n d 124 positive_d below_half)

    most_w : w ≤ 2 ^ 148
    most_w = subst (λ (g : ℕ). g ≤ 2 ^ 148) e (round_most binary32 n d 124 positive_d below_half)

    some_w : 0 < w
    some_w = something (2 ^ 124) w d n (pow_pos 124) N l near_w.1

    value_w : HasValue (round binary32 false n d) false w (2 ^ 149)
    value_w = subst (λ (g : ℕ). HasValue (round binary32 false n d) false g (2 ^ 149)) e (round_value binary32 n d 124 positive_d below_half (lit< tt))

    within_one : w ≤ 2 ^ 149
    within_one = le_trans most_w (lit≤ tt)

    difference : complement n d ≡ round binary32 false (2 ^ 149 - w) (2 ^ 149)
    difference = sub_at binary32 (2 ^ 149) w (2 ^ 149) (pow_pos 149) within_one (whole 1) (round binary32 false n d) one_value value_w

    below_unit : (2 ^ 149 - w) * 2 ^ 149 < 2 ^ 149 * 2 ^ 149
    below_unit = mul-lt-mul_of_pos_right (less (2 ^ 149) w some_w within_one) (pow_pos 149)
      where
        less : (p w : ℕ) → 0 < w → w ≤ p → p - w < p
        less p w a b = omega arith

    above_half : 2 ^ 148 * 2 ^ 149 ≤ (2 ^ 149 - w) * 2 ^ 149
    above_half = mul-le-mul_right (2 ^ 149) (rest (2 ^ 148) w most_w)
      where
        rest : (p w : ℕ) → w ≤ p → p ≤ p * 2 - w
        rest p w a = omega arith

    lower_by : (s : ℕ) → grid binary32 (2 ^ 149 - w) (2 ^ 149) ≡ s * 2 ^ 125 → Shown (complement n d) d n
    lower_by s g = record {
      s = s;
      times =
          in_units (complement n d) s
          (subst (λ (z : Float). HasValue z false (s * 2 ^ 125) (2 ^ 149)) (sym difference)
          (subst (λ (z : ℕ). HasValue (round binary32 false (2 ^ 149 - w) (2 ^ 149)) false z (2 ^ 149)) g
          (round_value binary32 (2 ^ 149 - w) (2 ^ 149) 125 (pow_pos 149) below_unit (lit< tt))));
      close =
          rounded_close (2 ^ 124) w s d n (pow_pos 124) within_one near_w
          (unscaled (2 ^ 149) (2 ^ 125) (s * 2 ^ 125) (2 ^ 149 - w) (pow_pos 149)
          (subst (λ (z : ℕ). Near (2 ^ 149 * 2 ^ 125) (z * 2 ^ 149 * 2) ((2 ^ 149 - w) * 2 ^ 149 * 2)) g
          (round_near binary32 (2 ^ 149 - w) (2 ^ 149) 125 (pow_pos 149) below_unit)));
    }

    lower_w : Shown (complement n d) d n
    lower_w = let m = round_multiple binary32 (2 ^ 149 - w) (2 ^ 149) 125 (pow_pos 149) above_half in lower_by m.0 m.1

  below_half_shown : Shown (complement n d) d n
  below_half_shown = lower_w (grid binary32 n d) refl

-- ---- every n and d
both_rounded : (n d : ℕ) → 0 < n → n ≤ d → d ≤ 16777216 → Shown (complement n d) d n
both_rounded n d N h l =
    ⊎_elim (λ e. from_half n d (equal_parts n d (omega arith) e)) (λ less. go less (leb d (n * 2)) refl) (eq-or-lt_of_le h)
  where
    go : n < d → (t : Bool) → leb d (n * 2) ≡ t → Shown (complement n d) d n
    go less true e = from_half n d (upper_part n d N less (leb-true d (n * 2) e))
    go less false e = below_half_shown n d N (leb-false d (n * 2) e) l

pub value_shown : (d n : ℕ) → 0 < d → n ≤ d → d ≤ 16777216 → Shown (seqsim_value d n) d n
value_shown d n D h l = go (eqb d 0) (eqb n 0) refl refl
  where
    go : (td tn : Bool) → eqb d 0 ≡ td → eqb n 0 ≡ tn
        → Shown (cond td (whole 0) (cond tn (whole 1) (sub binary32 (whole 1) (div binary32 (whole n) (whole d))))) d n
    go true tn zd zn = absurd (omega (arith, eqb-true d 0 zd))
    go false true zd zn =
        let z = eqb-true n 0 zn in
        record { s = 16777216; times = in_units (whole 1) 16777216 one_value; close = (omega arith, omega arith) }
    go false false zd zn =
        let N : 0 < n = omega (arith, eqb-false n 0 zn) in
        subst (λ (y : Float). Shown (sub binary32 (whole 1) y) d n) (sym (div_whole n d N D (omega arith) l)) (both_rounded n d N h l)

-- ---- the rows that are accepted
accepted : (wide uneven first second : Bool) (y x : Float)
    → cond wide (Err BadNumber) (cond uneven (Err BadLengths) (cond first (Err BadRow) (cond second (Err BadRow) (Ok y)))) ≡ Ok x
    → (first ≡ false) × (second ≡ false) × (y ≡ x)
accepted true u a b y x e = let z = ap told e in absurd (omega arith)
accepted false true a b y x e = let z = ap told e in absurd (omega arith)
accepted false false true b y x e = let z = ap told e in absurd (omega arith)
accepted false false false true y x e = let z = ap told e in absurd (omega arith)
accepted false false false false y x e = (refl, refl, ap value e)

-- ---- |a − b| of two whole numbers
apart_by : (t : Bool) (a b e : ℕ) → ltb a b ≡ t → Near e a b → nat_abs (cond t (negsuc (b - suc a)) (pos (a - b))) ≤ e
apart_by true a b e h k = omega (arith, ltb-true a b h, k.0, k.1)
apart_by false a b e h k = omega (arith, k.0, k.1)

near_apart : (a b e : ℕ) → Near e a b → nat_abs (pos a -ℤ pos b) ≤ e
near_apart a zero e h = omega (arith, h.0)
near_apart a (suc b) e h = apart_by (ltb a (suc b)) a (suc b) e refl h

taken_by : (t : Bool) (d n : ℕ) → ltb d n ≡ t → n ≤ d → cond t (negsuc (n - suc d)) (pos (d - n)) ≡ pos (d - n)
taken_by true d n h k = absurd (omega (arith, ltb-true d n h))
taken_by false d n h k = refl

whole_minus : (d n : ℕ) → n ≤ d → pos d -ℤ pos n ≡ pos (d - n)
whole_minus d zero h = let e : d + 0 ≡ d - 0 = omega arith in ap pos e
whole_minus d (suc n) h = taken_by (ltb d (suc n)) d (suc n) refl h

close_off : (s d n : ℕ) → n ≤ d → Close s d n → off s d n ≤ d
close_off s d n h k =
    let e : (d - n) * 16777216 + n * 16777216 ≡ d * 16777216 = sym (add-mul (d - n) n 16777216) ∙ ap (λ (x : ℕ). x * 16777216) (back d n h) in
    subst (λ (z : ℤ). nat_abs (pos s *ℤ pos d -ℤ z *ℤ pos 16777216) ≤ d) (sym (whole_minus d n h))
    (near_apart (s * d) ((d - n) * 16777216) d (omega (arith, k.0, k.1, e), omega (arith, k.0, k.1, e)))

pub seqsim_error : SeqsimError
unfolding SeqsimError seqsim_of
seqsim_error a b m x e some =
    let d = sum_d m a b in
    let n = sum_n m a b in
    let w =
    accepted (ltb 16777216 m) (not (eqb (length a) (length b))) (ltb 8388608 (magnitude_sum a)) (ltb 8388608 (magnitude_sum b)) (seqsim_value d n) x e in
    let l : d ≤ 16777216 =
    omega (arith, sum_le (part_d m) (d_le m) a b, ltb-false 8388608 (magnitude_sum a) w.0, ltb-false 8388608 (magnitude_sum b) w.1) in
    let v = value_shown d n some (n_le_d m a b) l in
    (v.s, subst (λ (y : Float). Times y v.s) w.2 v.times, close_off v.s d n (n_le_d m a b) v.close)

-- ---- two pairs of rows that come near three quarters of d (docs/PROOFS.md), computed: S is 8 × 1,143,901, and 4 × 2,306,867
near_by_few : seqsim_of (pos 8 ∷ []) (pos 3 ∷ []) 1 ≡ Ok (fin false 1143901 (negsuc 20))
unfolding seqsim_of sum_by magnitude_sum sub div of_int round
near_by_few = refl

nearest_of_all : seqsim_of (pos 4613733 ∷ pos 3774873 ∷ pos 0 ∷ []) (pos 4613733 ∷ pos 0 ∷ pos 3774872 ∷ []) 1 ≡ Ok (fin false 2306867 (negsuc 21))
unfolding seqsim_of sum_by magnitude_sum sub div of_int round
nearest_of_all = refl
