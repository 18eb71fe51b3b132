-- What is summed, with the parts of the rows that are left, is the whole sum.
use native.Mathlib.Omega.{arith}
use lib.ListN.{length}
use Rattle.kplib.proofs.RowSumLaws.{row_place}
use Rattle.kplib.proofs.PartSumLaws.{part_end, adding_ok, adding_turn, adding_done}
use Rattle.kplib.proofs.sums.add_parts.Goals as goal

pub offset_bounds-table-a : goal.offset_bounds-table-a
offset_bounds-table-a c = omega (arith, c.requires.1, row_place c.requires.0 c.loop-r-test.true)

pub slice_bounds-add_row-end : goal.slice_bounds-add_row-end
slice_bounds-add_row-end c = part_end _ _ _ c.requires.1 (row_place c.requires.0 c.loop-r-test.true).0

pub add_row-requires : goal.add_row-requires
add_row-requires c =
    adding_ok _ _ c.requires.0 c.requires.1 c.args.out.now c.loop-r.out c.loop-r-test.true c.loop-r.invariant

pub loop-r-preserved : goal.loop-r-preserved
loop-r-preserved c =
    adding_turn _ _ c.requires.0 c.requires.1 c.args.out.now c.loop-r.out c.loop-r-test.true c.loop-r.invariant c.add_row.ensures

pub returns : goal.returns
returns c =
    let a = c.args in
    adding_done a.width a.from (length a.out.now) a.table.now a.rows.now a.out.now c.loop-r.out (omega arith) c.loop-r.invariant
