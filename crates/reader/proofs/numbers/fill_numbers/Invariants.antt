-- What is stored and what the rest will add is the whole; a record adds at most one row, so the rows stay below the position.
use Prim.Native.Nat.{◌≤◌, ◌-◌}
use mathlib.Core.Path.{◌≡◌}
use lib.ListN.{length, drop, set}
use Rattle.form.specs.Job.{number_here, gather}
use Rattle.reader.specs.Steps.{stores}
use Rattle.reader.proofs.numbers.fill_numbers.Given as goal

abbrev pub invariant-loop-at : goal.invariant-loop-at
invariant-loop-at l = (stores set l.numbers l.v (gather number_here (drop l.at l.s) 0) ≡ stores set l.initial.numbers 0 (gather number_here l.s 0)) × (l.v ≤ l.at)

abbrev pub decreases-loop-at : goal.decreases-loop-at
decreases-loop-at l = length l.s - l.at
