-- The chain read back is summed and scored where it stands, at the end of the 64 rows.
use mathlib.Core.Path.{◌∙◌}
use native.Mathlib.Omega.{arith}
use Rattle.metrics.proofs.Ints.{read_back}
use Rattle.kplib.proofs.WeighLaws.{cut, scorable_as, weighed_as}
use Rattle.kplib.proofs.steps.weigh.Goals as goal

pub score_chain-scored-requires : goal.score_chain-scored-requires
score_chain-scored-requires c =
    let size = c.rows_size-size in
    scorable_as c.requires (cut _ 64 _ (omega arith) c.read_chain-at.ensures) (read_back _ size.type_inv ∙ size.ensures) (omega arith)

pub returns : goal.returns
returns c =
    let size = c.rows_size-size in
    weighed_as c.requires (cut _ 64 _ (omega arith) c.read_chain-at.ensures) (read_back _ size.type_inv ∙ size.ensures) c.score_chain-scored.ensures
