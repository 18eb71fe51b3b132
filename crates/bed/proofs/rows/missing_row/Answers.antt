-- Some row is not there.
use Rattle.std.proofs.Common.{rules, refl}
use Rattle.std.proofs.lemmas.List.Recursion.{or_is}
use lib.Dec.{leb}
use Rattle.bed.specs.Writing.{missing_row}
use Rattle.bed.proofs.RowLaws.{missing_step}
use Rattle.bed.proofs.rows.missing_row.Goals as goal

pub returns : goal.returns
unfolding missing_row
returns c = or_is (missing_row c.args.v) (leb c.args.v) refl (missing_step c.args.v) c.args.rows.now 0 _ (search rules) (search rules)
