-- The sum so far, with the rest of the rows added to it, is the whole sum.
use Rattle.kplib.proofs.SizeSumLaws.{Summing}
use Rattle.kplib.proofs.queue.rows_size.Given as goal

abbrev pub invariant-loop-r : goal.invariant-loop-r
invariant-loop-r l = Summing l.sizes l.rows l.size l.r-index
