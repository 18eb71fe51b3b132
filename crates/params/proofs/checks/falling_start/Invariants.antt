-- Up to row r no start is less than the row before's. Assumes nothing.
use mathlib.Core.Path.{◌≡◌}
use mathlib.Core.Bool.{false}
use Prim.Native.Nat.{◌+◌, ◌-◌}
use lib.Dec.{ltb}
use lib.ListN.{get_or}
use Rattle.params.specs.Numbers.{any_below}
use Rattle.params.proofs.checks.falling_start.Given as goal

abbrev pub invariant-loop-r : goal.invariant-loop-r
invariant-loop-r l = any_below (l.r - 1) (λ i. ltb (get_or l.starts (i + 1) 0) (get_or l.starts i 0)) ≡ false
