-- What is summed, with the parts of the rows that are left, is the whole sum.
use lib.ListN.{length}
use Rattle.kplib.proofs.PartSumLaws.{Adding}
use Rattle.kplib.proofs.sums.add_parts.Given as goal

abbrev pub invariant-loop-r : goal.invariant-loop-r
invariant-loop-r l = Adding l.width l.from (length l.initial.out) l.table l.rows l.initial.out l.out l.r-index
