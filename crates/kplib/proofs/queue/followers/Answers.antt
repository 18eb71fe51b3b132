-- From entry to parent: what the rows asked have left, and what the others leave, is what the whole chain leaves. Assumes nothing.
use Prim.Native.Nat.{◌/◌, ◌<◌}
use native.Mathlib.Omega.{arith}
use lib.ListN.{get_or}
use Rattle.kplib.proofs.LinkLaws.{parent_at}
use Rattle.kplib.proofs.ExtensionLaws.{asking_begin, asking_on, asking_done}
use Rattle.kplib.proofs.queue.followers.Goals.{At-loop-i}
use Rattle.kplib.proofs.queue.followers.Goals as goal

parent_less : (l : At-loop-i) → 0 < l.loop-i.i → get_or l.args.links.now l.loop-i.i 0 / 64 < l.loop-i.i
parent_less l p = omega (arith, parent_at l.args.links.now l.loop-i.i, l.requires.links l.loop-i.i p (omega (arith, l.loop-i.invariant.low)))

pub loop-i-init : goal.loop-i-init
loop-i-init c = asking_begin _ _ _ _

pub loop-i-smaller : goal.loop-i-smaller
loop-i-smaller c = parent_less (goal.at.loop-i-smaller c).At-loop-i (omega arith)

pub loop-i-preserved : goal.loop-i-preserved
loop-i-preserved c = asking_on c.loop-i.invariant c.requires.links (omega arith) c.stand_with.ensures

pub returns : goal.returns
returns c = asking_done c.loop-i.invariant (omega arith)
