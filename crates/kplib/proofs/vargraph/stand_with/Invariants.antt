-- Row by row: those passed have both flags. Assumes nothing.
use mathlib.Core.Bool.{false}
use Prim.Native.Nat.{◌+◌}
use lib.ListN.{get_or}
use Rattle.kplib.proofs.TogetherLaws.{BothTo}
use Rattle.kplib.proofs.vargraph.stand_with.Given as goal

abbrev pub invariant-loop-s : goal.invariant-loop-s
invariant-loop-s l = BothTo (λ j. get_or l.together (l.at + j) false) l.initial.may l.may l.s
