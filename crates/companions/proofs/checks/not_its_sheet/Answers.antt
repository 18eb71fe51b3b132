-- A table that has a fault, or a sheet that is not the one worked out afresh. Assumes nothing.
use mathlib.Core.Path.{sym, ◌∙◌}
use Rattle.metrics.proofs.RefusalLaws.{never_zero}
use Rattle.companions.proofs.TableLaws.{table_within, by_table, by_sheet}
use Rattle.companions.proofs.SheetLaws.{same_pairs}
use Rattle.companions.proofs.checks.not_its_sheet.Goals as goal

pub fresh-requires : goal.fresh-requires
fresh-requires c = table_within _ c.args.starts.now c.args.ends.now (sym c.in-Ok.ensures)

pub returns-in-Ok : goal.returns-in-Ok
returns-in-Ok c = c.ne.ensures ∙ by_sheet _ c.in-Ok.ensures c.fresh.ensures (same_pairs _ _)

pub returns-in-Err : goal.returns-in-Err
returns-in-Err c = by_table _ c.in-Err.ensures (never_zero _)
