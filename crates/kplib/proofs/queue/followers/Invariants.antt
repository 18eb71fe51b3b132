-- From entry to parent: what the rows asked have left, and what the others leave, is what the whole chain leaves. Assumes nothing.
use Rattle.kplib.specs.GraphWalk.{flag_of}
use Rattle.kplib.proofs.ExtensionLaws.{Asking}
use Rattle.kplib.proofs.queue.followers.Given as goal

abbrev pub invariant-loop-i : goal.invariant-loop-i
invariant-loop-i l = Asking (flag_of l.together) l.full l.links l.entry l.may l.i

abbrev pub decreases-loop-i : goal.decreases-loop-i
decreases-loop-i l = l.i
