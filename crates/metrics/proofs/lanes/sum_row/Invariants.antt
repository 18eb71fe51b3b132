-- What is added up and what is left are the whole: `RowPassed` of LaneLaws, one entry more a turn.
use Rattle.metrics.proofs.LaneLaws.{RowPassed}
use Rattle.metrics.proofs.lanes.sum_row.Given as goal

abbrev pub invariant-loop-x : goal.invariant-loop-x
invariant-loop-x l = RowPassed l.a l.x-index l.sum l.most
