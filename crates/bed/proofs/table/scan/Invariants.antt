-- The rules and the rows from here on are those of the whole (TableLaws).
use Prim.Native.Nat.{◌-◌}
use lib.ListN.{length}
use Rattle.bed.proofs.TableLaws.{Going}
use Rattle.bed.proofs.table.scan.Given as goal

abbrev pub invariant-loop-at : goal.invariant-loop-at
invariant-loop-at l = Going l.text l.s l.e l.at l.rows

abbrev pub decreases-loop-at : goal.decreases-loop-at
decreases-loop-at l = length l.text - l.at
