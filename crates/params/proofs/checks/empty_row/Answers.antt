-- The function that is passed on is the test of a row. Assumes nothing.
use Rattle.std.proofs.Common.{rules, tests}
use Rattle.params.specs.Numbers.{empty_row, all_zero}
use Rattle.params.proofs.checks.empty_row.Goals as goal

pub returns : goal.returns
unfolding empty_row
returns c = c.any_row.ensures all_zero (λ row r k. search (rules, tests))
