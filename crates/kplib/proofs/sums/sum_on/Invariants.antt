-- What is added up and what is left are the whole.
use Rattle.kplib.proofs.BlockLaws.{Passing}
use Rattle.kplib.proofs.sums.sum_on.Given as goal

abbrev pub invariant-loop-i : goal.invariant-loop-i
invariant-loop-i l = Passing l.minkfreq l.a l.b l.initial.s l.i l.s
