-- Source and sink have zero features: against a zero row n is d, a number over itself rounds to 1, and 1 - 1 is 0. So no seqsim with them is above 0. Assumes nothing.
use mathlib.Core.Path.{◌≡◌, refl}
use mathlib.Core.Bool.{Bool, true, false, cond}
use mathlib.Core.List.{List, [], ◌∷◌}
use Prim.Native.Nat.{ℕ, zero, suc, ◌+◌, ◌*◌, ◌≤◌, ◌<◌}
use native.Mathlib.Nat.{mul-pos, mul_comm}
use native.Mathlib.Omega.{arith}
use borrow.Author.Tests.{ne_eqb}
use lib.Dec.{leb}
use lib.IntN.{ℤ, pos, nat_abs}
use lib.ListN.{replicate}
use lib.Ieee.{Float, nan, inf, fin, binary32, up, down, round, of_int, sub, div, lt}
use lib.Ieee.Fits.{down_pos, up_pos}
use lib.Ieee.Exact.{HasValue}
use lib.Ieee.Back.{round_whole}
use lib.Ieee.Scale.{round_same}
use Rattle.metrics.specs.Similarity.{whole, part_d, part_n, sum_by, sum_d, sum_n, seqsim_value}
use Rattle.metrics.proofs.Ints.{abs_minus}
use Rattle.kplib.specs.Sums.{zeros}
use Rattle.kplib.specs.Score.{seqsim_of_rows}

-- at an entry 0 the two parts agree
part_same : (m : ℕ) (y : ℤ) → part_n m (pos 0) y ≡ part_d m (pos 0) y
part_same m y = rw (abs_minus y) (same (leb m (0 + nat_abs y)) (nat_abs y))
  where
    same : (t : Bool) (n : ℕ) → cond t n 0 ≡ cond t (0 + n) 0
    same true n = omega arith
    same false n = refl

sums_same : (m e : ℕ) (b : List ℤ) → sum_n m (replicate e (pos 0)) b ≡ sum_d m (replicate e (pos 0)) b
unfolding sum_by
sums_same m zero b = refl
sums_same m (suc e) [] = refl
sums_same m (suc e) (y ∷ b) = omega (arith, part_same m y, sums_same m e b)

-- a number over itself is 1
over_itself : (x : Float) (n : ℕ) → 0 < n → HasValue x false n 1 → div binary32 x x ≡ round binary32 false 1 1
unfolding div
over_itself nan n h v = absurd v
over_itself (inf s) n h v = absurd v
over_itself (fin true m e) n h v = let z : ◌≡◌ {A = ℕ} 0 1 = cc v.0 in absurd (omega arith)
over_itself (fin false zero e) n h v = absurd (clash n (down e) h (down_pos e) v.1)
  where
    clash : (n d : ℕ) → 0 < n → 0 < d → 0 * up e * 1 ≡ n * d → ⊥
    clash n d h k g = omega (arith, mul-pos h k)
over_itself (fin false (suc m) e) n h v =
    let a = suc m * up e * down e in
    let A : 0 < a = mul-pos (mul-pos (some m) (up_pos e)) (down_pos e) in
    rw (ne_eqb (suc m) 0 (λ k. nz m k)) (round_same binary32 false a a 1 1 A (omega arith) (mul_comm a 1))
  where
    some : (m : ℕ) → 0 < suc m
    some m = omega arith

    nz : (m : ℕ) → suc m ≡ 0 → ⊥
    nz m k = omega arith

whole_over : (n : ℕ) → 0 < n → n ≤ 16777216 → div binary32 (whole n) (whole n) ≡ round binary32 false 1 1
unfolding of_int
whole_over n h k = over_itself (round binary32 false n 1) n h (round_whole binary32 false n k)

one_less_one : sub binary32 (whole 1) (round binary32 false 1 1) ≡ whole 0
unfolding of_int sub round
one_less_one = refl

seq_itself : (n : ℕ) → n ≤ 16777216 → seqsim_value n n ≡ whole 0
seq_itself zero k = refl
seq_itself (suc n) k = rw (ne_eqb (suc n) 0 (λ z. nz n z), whole_over (suc n) (omega arith) k) one_less_one
  where
    nz : (m : ℕ) → suc m ≡ 0 → ⊥
    nz m k = omega arith

pub anchor_seqsim : (m e : ℕ) (b : List ℤ) → sum_d m (zeros e) b ≤ 16777216 → lt (whole 0) (seqsim_of_rows m (zeros e) b) ≡ false
unfolding zeros
anchor_seqsim m e b h = rw (sums_same m e b, seq_itself (sum_d m (replicate e (pos 0)) b) h) zero_not
  where
    zero_not : lt (whole 0) (whole 0) ≡ false
    zero_not = unfold lt of_int in refl
