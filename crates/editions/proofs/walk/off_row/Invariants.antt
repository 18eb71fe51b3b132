-- The rest from here is off its rows where the whole is.
use Prim.Native.Nat.{◌-◌, ◌≤◌}
use mathlib.Core.Path.{◌≡◌}
use lib.ListN.{length, drop}
use Rattle.form.specs.Job.{gather, number_here}
use Rattle.editions.specs.Moving.{off_row}
use Rattle.editions.proofs.walk.off_row.Given as goal

abbrev pub invariant-loop-at : goal.invariant-loop-at
invariant-loop-at l = (off_row l.row (gather number_here (drop l.at l.s) 0) ≡ off_row 0 (gather number_here l.s 0)) × (l.row ≤ l.at)

abbrev pub decreases-loop-at : goal.decreases-loop-at
decreases-loop-at l = length l.s - l.at
