-- After i turns the first i rows are written.
use Rattle.bed.proofs.RowLaws.{rows_begun, rows_on, rows_done}
use Rattle.bed.proofs.rows.put_rows.Goals as goal

pub loop-row-init : goal.loop-row-init
loop-row-init c =
    let a = c.args in rows_begun a.name.now a.starts.now a.ends.now a.text.now a.rows.now

pub loop-row-preserved : goal.loop-row-preserved
loop-row-preserved c =
    let a = c.args in
    let l = c.loop-row in
    rows_on a.name.now a.starts.now a.ends.now l.row-index a.rows.now c.loop-row-test.true l.invariant c.number_at.ensures
    c.number_at-in-loop-row.ensures c.put_line-end.ensures

pub returns : goal.returns
returns c =
    let a = c.args in
    let l = c.loop-row in
    rows_done a.name.now a.starts.now a.ends.now l.row-index a.rows.now c.loop-row-test.false l.invariant
