-- What is left has room for the rest exactly where all of it has for the whole.
use Rattle.bed.proofs.RowLaws.{Room}
use Rattle.bed.proofs.rows.fits.Given as goal

abbrev pub invariant-loop-row : goal.invariant-loop-row
invariant-loop-row l = Room l.name l.starts l.ends l.rows l.room l.left l.row-index
