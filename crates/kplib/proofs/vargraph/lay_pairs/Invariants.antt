-- Row by row: the flags of the rows passed are laid. Assumes nothing.
use lib.ListN.{length}
use Rattle.kplib.specs.Graph.{edge}
use Rattle.kplib.proofs.TogetherLaws.{LaidBefore}
use Rattle.kplib.proofs.vargraph.lay_pairs.Given as goal

abbrev pub invariant-loop-r : goal.invariant-loop-r
invariant-loop-r l = LaidBefore (edge l.starts l.ends) (length l.starts) l.r l.together
