-- Row by row: the earlier rows passed have no flag with the last one. Assumes nothing.
use Prim.Native.Nat.{◌+◌}
use Rattle.companions.specs.Companions.{companion}
use Rattle.companions.specs.Steps.{Passing}
use Rattle.companions.proofs.sheet.clear_last.Given as goal

abbrev pub invariant-loop-r : goal.invariant-loop-r
invariant-loop-r l = Passing (companion l.starts l.ends (l.last + 1)) (companion l.starts l.ends l.last) l.r l.sheet
