-- A byte is stored where there is room for it; past the end it is not.
use Rattle.text.proofs.PieceLaws.{written_byte, written_past}
use Rattle.text.proofs.pieces.put_byte.Goals as goal

pub returns-then-at-out : goal.returns-then-at-out
returns-then-at-out c = written_byte c.args.out.now c.args.at c.args.x c.if-at-out.true

pub returns : goal.returns
returns c = written_past c.args.out.now c.args.at c.args.x c.if-at-out.false
