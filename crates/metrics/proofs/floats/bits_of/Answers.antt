-- A NaN, and nothing else, differs from itself; its one pattern is what the definition gives.
use Rattle.std.proofs.Common.{◌≡◌, ℕ, false, not, T, sym, ap, subst, arith}
use lib.Ieee.Compare.{differs_from_itself}
use lib.Ieee.{Float, nan, inf, fin, binary32, to_bits, is_nan, ne, eq}
use Rattle.metrics.proofs.floats.bits_of.Goals as goal

equal_no_nan : (x : Float) → ne x x ≡ false → T (not (is_nan x))
unfolding is_nan ne eq
equal_no_nan nan e = let z : ◌≡◌ {A = ℕ} 0 1 = cc in omega arith
equal_no_nan (inf s) e = tt
equal_no_nan (fin s m n) e = tt

pub float_to_bits-result : goal.float_to_bits-result
float_to_bits-result c = equal_no_nan c.args.x c.if-x.false

pub returns-then-x : goal.returns-then-x
unfolding to_bits
returns-then-x c = ap (to_bits binary32) (sym (differs_from_itself c.args.x (subst T (sym c.if-x.true) tt)))
