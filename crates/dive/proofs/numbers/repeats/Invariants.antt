-- What is found up to row r is whether one of these numbers is that of variant s. Assumes nothing.
use mathlib.Core.Path.{◌≡◌}
use lib.Dec.{eqb}
use lib.ListN.{get_or}
use Rattle.params.specs.Numbers.{any_below}
use Rattle.dive.proofs.numbers.repeats.Given as goal

abbrev pub invariant-loop-number : goal.invariant-loop-number
invariant-loop-number l = l.found ≡ any_below l.number-index (λ i. eqb (get_or l.numbers i 0) (get_or l.numbers l.s 0))
