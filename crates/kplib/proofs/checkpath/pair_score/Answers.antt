-- Both rows and both sizes are summed, then the two are scored.
use mathlib.Core.Path.{◌∙◌}
use Rattle.metrics.proofs.Ints.{read_back}
use Rattle.kplib.proofs.ProposalLaws.{chain_summable, list_summable, comparable, pair_is}
use Rattle.kplib.proofs.checkpath.pair_score.Goals as goal

pub sum_features-requires : goal.sum_features-requires
sum_features-requires c = let h = c.requires in chain_summable h.0 h.1 h.2

pub sum_features-requires-2 : goal.sum_features-requires-2
sum_features-requires-2 c = let h = c.requires in list_summable h.0 h.1 h.2

pub list_score-requires : goal.list_score-requires
list_score-requires c =
    let h = c.requires in
    comparable h.0 h.1 h.2 c.sum_features.ensures c.sum_features-2.ensures
    (read_back _ c.rows_size.type_inv ∙ c.rows_size.ensures) (read_back _ c.rows_size-2.type_inv ∙ c.rows_size-2.ensures)

pub returns : goal.returns
returns c =
    let h = c.requires in
    pair_is h.0 h.1 h.2 c.sum_features.ensures c.sum_features-2.ensures
    (read_back _ c.rows_size.type_inv ∙ c.rows_size.ensures) (read_back _ c.rows_size-2.type_inv ∙ c.rows_size-2.ensures) c.list_score.ensures
