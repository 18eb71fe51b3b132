-- What is found up to row r is whether one of these numbers is that of variant s. Assumes nothing.
use mathlib.Core.Path.{◌≡◌, refl}
use mathlib.Core.Bool.{Bool, false, ◌||◌}
use native.Mathlib.Omega.{arith}
use native.Mathlib.Numerals.{add-one}
use Prim.Native.Nat.{ℕ, ◌+◌, ◌<◌}
use lib.Seq.{get_or-take, length-take-le}
use Rattle.params.specs.Numbers.{any_below}
use Rattle.dive.proofs.numbers.repeats.Goals as goal

none_yet : (test : ℕ → Bool) → false ≡ any_below 0 test
unfolding any_below
none_yet test = refl

one_more : (test : ℕ → Bool) (r : ℕ) (found : Bool) → found ≡ any_below r test → (found || test r) ≡ any_below (r + 1) test
unfolding any_below
one_more test r found e = rw (add-one r, e)

pub loop-number-init : goal.loop-number-init
loop-number-init c = none_yet _

pub loop-number-preserved : goal.loop-number-preserved
loop-number-preserved c =
    let w = length-take-le c.args.s c.args.numbers.now (omega arith) in
    let l : c.loop-number.number-index < c.args.s = omega arith in
    rw (get_or-take c.args.s c.args.numbers.now c.loop-number.number-index 0 l) (one_more _ _ _ c.loop-number.invariant)
