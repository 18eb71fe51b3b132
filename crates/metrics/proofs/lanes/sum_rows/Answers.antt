-- What is added up and what is left are the whole: `Passed` of LaneLaws, one pair more a turn.
use Rattle.std.proofs.Common.{◌<◌, length, get_or, pos, refl, arith}
use Rattle.metrics.proofs.Ints.{read_back}
use Rattle.metrics.proofs.LaneLaws.{begin, next, ended}
use Rattle.metrics.proofs.lanes.sum_rows.Goals as goal

pub loop-i-init : goal.loop-i-init
loop-i-init c = begin _ _ _ _ refl refl

pub loop-i-preserved : goal.loop-i-preserved
loop-i-preserved c =
    let g = c.args in
    let i = c.loop-i.i in
    let ia : i < length g.a.now = omega arith in
    let ib : i < length g.b.now = omega arith in
    let bx = read_back (get_or g.a.now i (pos 0)) c.magnitude-arg-1.given in
    let by = read_back (get_or g.b.now i (pos 0)) c.y-1.given in
    next g.minkfreq g.a.now g.b.now i _ _ _ c.loop-i.s c.add_pair-s.result c.loop-i.invariant ia ib (rw bx at c.magnitude.ensures)
    (rw by at c.magnitude-in-loop-i.ensures) (rw (bx, by) at c.apart.ensures) c.add_pair-s.ensures

pub returns : goal.returns
returns c = ended _ _ _ _ _ c.loop-i.invariant (omega arith) c.requires.0
