-- Each way out prints the text that the definition gives there.
use native.Mathlib.Omega.{arith}
use Rattle.desk.proofs.DeskLaws.{printed_refused, printed_as, printed_placed, desk_long, desk_read}
use Rattle.desk.proofs.answer.Goals as goal

pub returns-then-input-gt32768 : goal.returns-then-input-gt32768
returns-then-input-gt32768 c =
    let i = c.args.input.now in
    printed_placed (printed_as (printed_refused {most = 7488} _ (omega arith) (rw c.into.ensures at c.put_refused.ensures)) (desk_long i c.if-input-gt32768.true)) (omega arith)

pub returns : goal.returns
returns c =
    let i = c.args.input.now in
    printed_placed (printed_as c.answer_read.ensures (desk_read i c.if-input-gt32768.false)) (omega arith)
