-- What is added up and what is left are the whole: `RowPassed` of LaneLaws, one entry more a turn.
use Rattle.std.proofs.Common.{◌<◌, length, arith, refl}
use Rattle.metrics.proofs.Ints.{read_back}
use Rattle.metrics.proofs.LaneLaws.{row_next, row_ended}
use Rattle.metrics.proofs.lanes.sum_row.Goals as goal

pub loop-x-preserved : goal.loop-x-preserved
loop-x-preserved c =
    let h : c.loop-x.x-index < length c.args.a.now = omega arith in
    row_next _ c.loop-x.x-index _ _ _ _ c.loop-x.invariant h (rw (read_back _ c.magnitude-arg-1.given) at c.magnitude-p.ensures) refl

pub returns : goal.returns
returns c = row_ended _ _ _ _ c.loop-x.invariant (omega arith)
