-- Within the limits neither similarity of the lower crate refuses, so its answer is the value; and the small parts of a score. Assumes nothing.
use mathlib.Core.Path.{◌≡◌, refl, ◌∙◌}
use mathlib.Core.List.{List}
use Prim.Native.Nat.{ℕ, ◌≤◌, max}
use native.Mathlib.Omega.{arith}
use borrow.Author.Tests.{le-ltb, eq-eqb}
use lib.IntN.{ℤ, nat_abs}
use lib.ListN.{length}
use lib.Ieee.{Float, binary32, of_bits, of_int}
use mir.Syntax.{w32}
use mir.Val.{to_z, of_z}
use Rattle.metrics.specs.Similarity.{whole, sizesim_of, sizesim_value, seqsim_of, magnitude_sum}
use Rattle.std.specs.Prelude.{Result, Ok}
use Rattle.metrics.specs.declared.refusals.Refusal.{Refusal}
use Rattle.kplib.specs.Score.{seqsim_of_rows}
use Rattle.kplib.proofs.WordLaws.{back}

size_given : (a b : ℕ) → a ≤ 8388608 → b ≤ 8388608 → sizesim_of a b ≡ Ok (sizesim_value a b)
unfolding sizesim_of
size_given a b h k = rw (le-ltb 8388608 (max a b) (omega arith))

pub size_value : (r : Result Float Refusal) (p q : ℕ) (a b : ℤ) → p ≡ nat_abs (to_z w32 (of_z w32 a)) → q ≡ nat_abs (to_z w32 (of_z w32 b)) → nat_abs a ≤ 8388608 → nat_abs b ≤ 8388608
    → r ≡ sizesim_of p q → r ≡ Ok (sizesim_value (nat_abs a) (nat_abs b))
size_value r p q a b e f h k g = g ∙ rw (e, f, back a (omega arith), back b (omega arith)) (size_given (nat_abs a) (nat_abs b) h k)

pub seq_given : (m : ℕ) (a b : List ℤ) → length a ≡ length b → magnitude_sum a ≤ 8388608 → magnitude_sum b ≤ 8388608 → m ≤ 16777216 → seqsim_of a b m ≡ Ok (seqsim_of_rows m a b)
unfolding seqsim_of
seq_given m a b e h k l = rw (le-ltb 16777216 m l, eq-eqb (length a) (length b) e, le-ltb 8388608 (magnitude_sum a) h, le-ltb 8388608 (magnitude_sum b) k)

pub two_is : of_bits binary32 1073741824 ≡ whole 2
unfolding of_bits of_int
two_is = refl
