-- A record number is one row.
use mathlib.Core.Path.{sym, ◌∙◌}
use Rattle.editions.proofs.WalkLaws.{row_none, row_some}
use Rattle.editions.proofs.walk.row_behind.Goals as goal

pub returns-then-numbered : goal.returns-then-numbered
returns-then-numbered c = row_some _ _ _ (sym c.numbered.ensures ∙ c.if-numbered.true)

pub returns-else-numbered : goal.returns-else-numbered
returns-else-numbered c = row_none _ _ _ (sym c.numbered.ensures ∙ c.if-numbered.false)
