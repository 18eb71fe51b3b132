-- The test passes no row up to row r. Assumes nothing.
use Rattle.std.proofs.Common.{◌≡◌, Bool, false, List, ℤ}
use Rattle.params.specs.Numbers.{any_below, row_at}
use Rattle.params.specs.CheckSteps.{Tests}
use Rattle.params.proofs.checks.any_row.Given as goal

abbrev pub invariant-loop-r : goal.invariant-loop-r
invariant-loop-r g l = (passes : List ℤ → Bool) → Tests g.F.Fn l.test passes → any_below l.r (λ i. passes (row_at l.e l.features i)) ≡ false
