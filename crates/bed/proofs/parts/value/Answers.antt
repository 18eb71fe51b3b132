-- The value so far and the digits from here have the value of the whole, where that fits.
use Rattle.bed.proofs.PartLaws.{value_start, value_on, value_end}
use Rattle.bed.proofs.parts.value.Goals as goal

pub loop-x-init : goal.loop-x-init
loop-x-init c = value_start c.args.digits.now

pub loop-x-preserved : goal.loop-x-preserved
loop-x-preserved c =
    value_on c.args.digits.now c.loop-x.x-index c.loop-x.v _ c.loop-x-test.true c.loop-x.invariant c.grow-v.ensures

pub returns : goal.returns
returns c =
    value_end c.args.digits.now c.loop-x.x-index c.loop-x.v c.loop-x-test.false c.loop-x.invariant
