-- The best chain's rows and score, the count and whether any is left queued are the answer.
use Rattle.kplib.proofs.FoundLaws.{search_answers}
use Rattle.kplib.proofs.traverse.answer_search.Goals as goal

pub returns : goal.returns
returns c = search_answers c.search-end.ensures c.args.rows.now c.place_chain-n.ensures c.answer_with.ensures
