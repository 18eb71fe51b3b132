-- The rows so far are a chain; the first that does not extend them decides.
use Rattle.kplib.proofs.RowChainLaws.{Grown}
use Rattle.kplib.proofs.checkpath.is_chain.Given as goal

abbrev pub invariant-loop-i : goal.invariant-loop-i
invariant-loop-i l = Grown l.starts l.ends l.full l.rows l.i l.next
