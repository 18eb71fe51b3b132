-- Up to row r no start is greater than its end. Assumes nothing.
use mathlib.Core.Path.{◌≡◌}
use mathlib.Core.Bool.{false}
use lib.Dec.{ltb}
use lib.ListN.{get_or}
use Rattle.params.specs.Numbers.{any_below}
use Rattle.params.proofs.checks.start_after_end.Given as goal

abbrev pub invariant-loop-r : goal.invariant-loop-r
invariant-loop-r l = any_below l.r (λ i. ltb (get_or l.ends i 0) (get_or l.starts i 0)) ≡ false
