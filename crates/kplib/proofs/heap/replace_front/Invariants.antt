-- The hole begins at the front and goes down past smaller keys.
use mathlib.Core.Path.{◌≡◌}
use Prim.Native.Nat.{◌-◌, ◌<◌}
use lib.ListN.{length, take, set}
use Rattle.paths.proofs.HeapLaws.{Open, FitsAbove}
use Rattle.kplib.proofs.heap.replace_front.Given as goal

abbrev pub invariant-loop-i : goal.invariant-loop-i
invariant-loop-i l =
    (l.i < l.n) × (length l.keys ≡ length l.initial.keys) × Open l.keys l.n l.i l.key (take l.n (set l.initial.keys 0 l.key)) × FitsAbove l.keys l.i l.key

abbrev pub decreases-loop-i : goal.decreases-loop-i
decreases-loop-i l = l.n - l.i
