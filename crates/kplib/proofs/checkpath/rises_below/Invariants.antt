-- What is left of the positions, from the place reached and above the last one, rises below m exactly when all of them do.
use Rattle.kplib.proofs.ProposalLaws.{Rising}
use Rattle.kplib.proofs.checkpath.rises_below.Given as goal

abbrev pub invariant-loop-position : goal.invariant-loop-position
invariant-loop-position l = Rising l.m l.positions l.next l.position-index
