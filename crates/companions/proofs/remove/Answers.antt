-- Each refusal in its place; then the last row's column is cleared. Assumes nothing.
use mathlib.Core.Path.{sym, ◌∙◌}
use Rattle.companions.proofs.ChangeLaws.{remove_not_its, remove_none, remove_ready, remove_done}
use Rattle.companions.proofs.remove.Goals as goal

pub returns-then-not_its_sheet : goal.returns-then-not_its_sheet
returns-then-not_its_sheet c = remove_not_its _ _ _ _ (sym c.not_its_sheet.ensures ∙ c.if-not_its_sheet.true)

pub returns-then-n-eq0 : goal.returns-then-n-eq0
returns-then-n-eq0 c = remove_none _ _ _ _ (sym c.not_its_sheet.ensures ∙ c.if-not_its_sheet.false) c.if-n-eq0.true

pub clear_last-requires : goal.clear_last-requires
clear_last-requires c =
    remove_ready _ _ _ _ (sym c.not_its_sheet.ensures ∙ c.if-not_its_sheet.false) c.if-n-eq0.false

pub returns : goal.returns
returns c =
    remove_done _ _ _ _ (sym c.not_its_sheet.ensures ∙ c.if-not_its_sheet.false) c.if-n-eq0.false c.clear_last.ensures
