-- `fields::float_of`: a pattern above an infinity's, its sign dropped, is a NaN's.
use mathlib.Core.Path.{◌≡◌, refl, sym, subst, ◌∙◌}
use mathlib.Core.Bool.{Bool, true, not}
use lib.Dec.{T}
use lib.Ieee.{Float, nan, inf, fin, binary32, of_bits, is_nan}
use lib.Ieee.Bits.{nan_bits_is, nan_bits_above}
use borrow.Author.Tests.{lt-ltb, le-ltb}
use Rattle.fields.proofs.float_of.Goals as goal

-- the one value that is a NaN
the_nan : (x : Float) → is_nan x ≡ true → nan ≡ x
unfolding is_nan
the_nan nan e = refl
the_nan (inf s) e = cc
the_nan (fin s m n) e = cc

pub float_from_bits-result : goal.float_from_bits-result
float_from_bits-result c = subst (λ (b : Bool). T (not b)) (sym (nan_bits_above binary32 c.args.n ∙ le-ltb _ _ c.if-n-gt2139095040.false)) tt

-- the pattern that the library's NaN has
nan_pattern : of_bits binary32 2143289344 ≡ nan
unfolding of_bits
nan_pattern = refl

pub returns-then-n-gt2139095040 : goal.returns-then-n-gt2139095040
returns-then-n-gt2139095040 c = nan_pattern ∙ the_nan _ (sym (nan_bits_is binary32 c.args.n) ∙ nan_bits_above binary32 c.args.n ∙ lt-ltb _ _ c.if-n-gt2139095040.true)
