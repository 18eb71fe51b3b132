-- The hole begins behind the keys and goes up past greater ones.
use mathlib.Core.Path.{◌≡◌}
use Prim.Native.Nat.{◌+◌, ◌≤◌}
use mathlib.Core.List.{[], ◌∷◌, ◌++◌}
use lib.ListN.{length, take}
use Rattle.paths.proofs.HeapLaws.{Open, FitsBelow}
use Rattle.kplib.proofs.heap.put_key.Given as goal

abbrev pub invariant-loop-i : goal.invariant-loop-i
invariant-loop-i l =
    (l.i ≤ l.n) × (length l.keys ≡ length l.initial.keys) × Open l.keys (l.n + 1) l.i l.key (take l.n l.initial.keys ++ (l.key ∷ [])) × FitsBelow l.keys (l.n + 1) l.i l.key

abbrev pub decreases-loop-i : goal.decreases-loop-i
decreases-loop-i l = l.i
