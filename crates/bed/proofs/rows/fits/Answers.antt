-- What is left has room for the rest exactly where all of it has for the whole.
use Rattle.bed.proofs.RowLaws.{room_begun, room_short, room_on, room_end}
use Rattle.bed.proofs.rows.fits.Goals as goal

pub loop-row-init : goal.loop-row-init
loop-row-init c =
    let a = c.args in room_begun a.name.now a.starts.now a.ends.now a.rows.now a.room

pub returns-then-left-n : goal.returns-then-left-n
returns-then-left-n c =
    let a = c.args in
    let l = c.loop-row in
    room_short a.name.now a.starts.now a.ends.now a.rows.now a.room l.left l.row-index l.invariant c.loop-row-test.true
    c.number_at.ensures c.number_at-in-loop-row.ensures c.line_room-n.ensures c.if-left-n.true

pub loop-row-preserved : goal.loop-row-preserved
loop-row-preserved c =
    let a = c.args in
    let l = c.loop-row in
    room_on a.name.now a.starts.now a.ends.now a.rows.now a.room l.left l.row-index l.invariant c.loop-row-test.true
    c.number_at.ensures c.number_at-in-loop-row.ensures c.line_room-n.ensures c.if-left-n.false

pub returns : goal.returns
returns c =
    let a = c.args in
    let l = c.loop-row in
    room_end a.name.now a.starts.now a.ends.now a.rows.now a.room l.left l.row-index l.invariant c.loop-row-test.false
