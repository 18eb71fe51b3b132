-- The two cases of the shortest list's length.
use native.Mathlib.Omega.{arith}
use Rattle.kplib.proofs.ProposalLaws.{fewest_all, fewest_left}
use Rattle.kplib.proofs.checkpath.fewest.Goals as goal

pub returns-then-pileupmax-m : goal.returns-then-pileupmax-m
returns-then-pileupmax-m c = fewest_all _ _ _ c.if-pileupmax-m.true

pub returns : goal.returns
returns c = fewest_left _ _ _ c.if-pileupmax-m.false (omega arith)
