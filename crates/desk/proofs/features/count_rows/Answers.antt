-- The rows in the table and the rows of the sequences that are left make the rows of all.
use Prim.Native.Nat.{◌+◌}
use lib.ListN.{get_or}
use Rattle.desk.specs.Rows.{RowFits}
use Rattle.desk.proofs.FeatureLaws.{rows_start, row_fits, rows_next, rows_done}
use Rattle.desk.proofs.features.count_rows.Goals.{In-loop-row}
use Rattle.desk.proofs.features.count_rows.Goals as goal

-- the row ends within the table
fits : (c : In-loop-row) → let l = c.loop-row in let a = c.args in RowFits a.reading a.k l.at (l.at + get_or a.counts.now l.row 0) l.from (l.from + a.width) a.letters.now l.table
fits c = row_fits _ _ _ _ _ _ _ _ c.requires _ _ _ _ c.loop-row.invariant c.loop-row-test.true

pub loop-row-init : goal.loop-row-init
loop-row-init c = rows_start _ _ _ _ _ _ _ _ c.requires

pub count_row-requires : goal.count_row-requires
count_row-requires c = fits (goal.at.count_row-requires c).In-loop-row

pub loop-row-preserved : goal.loop-row-preserved
loop-row-preserved c =
    rows_next _ _ _ _ _ _ _ _ c.requires _ _ _ _ c.loop-row.invariant c.loop-row-test.true _ c.count_row.ensures

pub returns : goal.returns
returns c = rows_done _ _ _ _ _ _ _ _ c.requires _ _ _ _ c.loop-row.invariant c.loop-row-test.false
