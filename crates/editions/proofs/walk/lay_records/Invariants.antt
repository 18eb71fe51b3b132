-- What is laid and what the rest will lay is the whole.
use Prim.Native.Nat.{◌+◌, ◌-◌, ◌≤◌}
use mathlib.Core.Path.{◌≡◌}
use lib.ListN.{length, drop}
use lib.Seq.{sets}
use Rattle.editions.specs.Moving.{moved_from, moved}
use Rattle.editions.proofs.walk.lay_records.Given as goal

abbrev pub invariant-loop-at : goal.invariant-loop-at
invariant-loop-at l =
    (sets l.out l.end (moved_from l.edition (drop l.at l.s) 0 l.row) ≡ sets l.initial.out 0 (moved l.edition l.s)) ×
    ((l.end + length (moved_from l.edition (drop l.at l.s) 0 l.row) ≡ length (moved l.edition l.s))
    × ((length l.out ≡ length l.initial.out) × (l.row ≤ l.at)))

abbrev pub decreases-loop-at : goal.decreases-loop-at
decreases-loop-at l = length l.s - l.at
