-- The closure is the test of a row. Assumes nothing.
use Rattle.std.proofs.Common.{rules, tests}
use lib.Dec.{ltb}
use Rattle.metrics.specs.Similarity.{magnitude_sum}
use Rattle.params.specs.Numbers.{bad_row}
use Rattle.params.proofs.checks.bad_row.Goals as goal

pub returns : goal.returns
unfolding bad_row
returns c = c.any_row.ensures (λ row. ltb 131072 (magnitude_sum row)) (λ row r k. search (rules, tests))
