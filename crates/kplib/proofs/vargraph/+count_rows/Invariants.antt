-- The rows left fall.
use Prim.Native.Nat.{◌-◌}
use Rattle.kplib.proofs.vargraph.+count_rows.Given as goal

abbrev pub decreases-count_rows : goal.decreases-count_rows
decreases-count_rows l = l.to - l.from
