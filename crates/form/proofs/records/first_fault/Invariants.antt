-- Reading the rest from here gives the whole's answer; the counts stay below the position, so none can overflow.
use Prim.Native.Nat.{◌-◌, ◌≤◌}
use mathlib.Core.Path.{◌≡◌}
use lib.ListN.{length, drop}
use Rattle.form.specs.Form.{run, outset}
use Rattle.form.specs.Steps.{Small}
use Rattle.form.proofs.records.first_fault.Given as goal

abbrev pub invariant-loop-at : goal.invariant-loop-at
invariant-loop-at l = (l.at ≤ length l.s) × ((run (drop l.at l.s) 0 l.st ≡ run l.s 0 outset) × Small l.st l.at)

abbrev pub decreases-loop-at : goal.decreases-loop-at
decreases-loop-at l = length l.s - l.at
