-- Row by row: of the rows passed, those at which the flag stands are behind place `to`. Assumes nothing.
use Prim.Native.Nat.{◌<◌}
use native.Mathlib.Omega.{arith}
use lib.ListN.{length}
use Rattle.kplib.proofs.CappedLaws.{narrowing_begin, narrowing_room, narrowing_done, narrowing_skip, narrowing_take}
use Rattle.kplib.proofs.vargraph.narrow.Goals.{At-loop-i, then-together-flags, else-together-flags}
use Rattle.kplib.proofs.vargraph.narrow.Goals as goal

has_room : (l : At-loop-i) → l.loop-i.i < l.args.to → l.loop-i.end < length l.loop-i.rows
has_room l k = narrowing_room l.loop-i.invariant l.requires.1 k

pub loop-i-init : goal.loop-i-init
loop-i-init c = narrowing_begin _ c.requires.1

pub loop-i-preserved : goal.loop-i-preserved
loop-i-preserved c =
    let l = c.loop-i in
    let room = has_room (goal.at.loop-i-preserved c).At-loop-i (omega arith) in
    elim c.if-together-flags.branch [
      | then-together-flags w ↦ rw w.end-is (narrowing_take l.invariant (omega arith) room w.if-together-flags.true)
      | else-together-flags w ↦ rw w.end-is (narrowing_skip l.invariant (omega arith) room w.if-together-flags.false)
    ]

pub returns : goal.returns
returns c = narrowing_done c.loop-i.invariant (omega arith)
