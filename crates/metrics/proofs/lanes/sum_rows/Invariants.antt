-- What is added up and what is left are the whole: `Passed` of LaneLaws, one pair more a turn.
use Rattle.metrics.proofs.LaneLaws.{Passed}
use Rattle.metrics.proofs.lanes.sum_rows.Given as goal

abbrev pub invariant-loop-i : goal.invariant-loop-i
invariant-loop-i l = Passed l.minkfreq l.a l.b l.i l.s
