-- After i turns the first i entries are added.
use mathlib.Core.Path.{◌≡◌}
use Rattle.kplib.proofs.RowSumLaws.{mixed}
use Rattle.kplib.proofs.sums.add_row.Given as goal

abbrev pub invariant-loop-i : goal.invariant-loop-i
invariant-loop-i l = l.acc ≡ mixed l.i l.initial.acc l.row
