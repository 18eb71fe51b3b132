-- The value so far and the digits from here have the value of the whole, where that fits.
use lib.ListN.{drop}
use Rattle.bed.specs.Reading.{value_from, value_of}
use Rattle.bed.specs.Steps.{Reads64}
use Rattle.bed.proofs.parts.value.Given as goal

abbrev pub invariant-loop-x : goal.invariant-loop-x
invariant-loop-x l = Reads64 (value_of l.digits) (value_from l.v (drop l.x-index l.digits))
