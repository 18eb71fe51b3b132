-- The rows in the table and the rows of the sequences that are left make the rows of all.
use Rattle.desk.proofs.FeatureLaws.{Running}
use Rattle.desk.proofs.features.count_rows.Given as goal

abbrev pub invariant-loop-row : goal.invariant-loop-row
invariant-loop-row l = Running l.reading l.k l.width l.negatives l.counts l.letters l.first l.initial.table l.table l.row l.at l.from
