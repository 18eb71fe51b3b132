-- Row by row: those passed stand in their places. Assumes nothing.
use Rattle.kplib.proofs.CappedLaws.{Rows}
use Rattle.kplib.proofs.vargraph.first_rows.Given as goal

abbrev pub invariant-loop-r : goal.invariant-loop-r
invariant-loop-r l = Rows l.rows l.r
