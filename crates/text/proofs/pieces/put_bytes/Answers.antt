-- After i turns the first i bytes are a piece.
use mathlib.Core.Path.{sym}
use lib.Seq.{take_all}
use Rattle.text.proofs.PieceLaws.{written_none, written_more}
use Rattle.text.proofs.pieces.put_bytes.Goals as goal

pub loop-x-init : goal.loop-x-init
loop-x-init c = written_none _ _

pub loop-x-preserved : goal.loop-x-preserved
loop-x-preserved c =
    written_more c.loop-x.x-index c.args.src.now c.loop-x-test.true c.loop-x.invariant c.put_byte-end.ensures

pub returns : goal.returns
returns c =
    let whole = take_all c.loop-x.x-index c.args.src.now c.loop-x-test.false in
    rw (sym whole) c.loop-x.invariant
