-- Row by row: of the rows passed, those at which the flag stands are behind place `to`. Assumes nothing.
use mathlib.Core.Bool.{false}
use Prim.Native.Nat.{◌+◌}
use lib.ListN.{get_or}
use Rattle.kplib.proofs.CappedLaws.{Narrowing}
use Rattle.kplib.proofs.vargraph.narrow.Given as goal

abbrev pub invariant-loop-i : goal.invariant-loop-i
invariant-loop-i l = Narrowing (λ s. get_or l.together (l.flags + s) false) l.from l.to l.initial.rows l.rows l.i l.end
