-- A refusal is its line; any other answer its eight lines.
use lib.ListN.{take}
use Rattle.text.proofs.PieceLaws.{written_as}
use Rattle.text.proofs.TextLaws.{text_refused, text_accepted}
use Rattle.text.proofs.put_answer.Goals as goal

pub returns-then-a-ne0 : goal.returns-then-a-ne0
returns-then-a-ne0 c =
    let n = c.args.a.rows in
    written_as c.put_refused.ensures (text_refused c.args.a (take n c.args.rows.now) (take n c.args.records.now) c.if-a-ne0.true)

pub returns : goal.returns
returns c =
    let n = c.args.a.rows in
    written_as c.put_eight.ensures (text_accepted c.args.a (take n c.args.rows.now) (take n c.args.records.now) c.if-a-ne0.false)
