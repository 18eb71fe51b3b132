-- The best so far, after the rows that are left, is the answer: source and sink change nothing. Assumes nothing.
use Rattle.kplib.proofs.OneToOneLaws.{Matched}
use Rattle.kplib.proofs.onetoone.match_rows.Given as goal

abbrev pub invariant-loop-r : goal.invariant-loop-r
invariant-loop-r l = Matched l.plan l.table.sizes.now l.table.features.now l.whole_row l.best l.r
