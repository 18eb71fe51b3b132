-- Row by row: the earlier rows passed have their flag with the last one, and the sheet of one row less is that of the others. Assumes nothing.
use Prim.Native.Nat.{◌+◌}
use Rattle.companions.specs.Companions.{companion}
use Rattle.companions.specs.Steps.{Passing}
use Rattle.companions.proofs.sheet.lay_last.Given as goal

abbrev pub invariant-loop-r : goal.invariant-loop-r
invariant-loop-r l = Passing (companion l.starts l.ends l.last) (companion l.starts l.ends (l.last + 1)) l.r l.sheet
