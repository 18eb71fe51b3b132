-- Row by row: the sheet is that of the rows passed. Assumes nothing.
use mathlib.Core.Path.{◌≡◌}
use Rattle.companions.specs.Companions.{sheet_of}
use Rattle.companions.proofs.sheet.fresh.Given as goal

abbrev pub invariant-loop-last : goal.invariant-loop-last
invariant-loop-last l = l.sheet ≡ sheet_of l.starts l.ends l.last
