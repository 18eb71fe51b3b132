-- The best node's row and score are the answer.
use Rattle.kplib.proofs.FoundLaws.{alone_answers}
use Rattle.kplib.proofs.traverse.answer_alone.Goals as goal

pub returns : goal.returns
returns c = alone_answers _ _ _ c.args.rows.now c.alone.ensures c.place_row-n.ensures c.answer_with.ensures
