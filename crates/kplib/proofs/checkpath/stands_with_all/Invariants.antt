-- The rows of the chain from the place reached on decide.
use Rattle.kplib.specs.Graph.{edge}
use Rattle.kplib.proofs.RowChainLaws.{Standing}
use Rattle.kplib.proofs.checkpath.stands_with_all.Given as goal

abbrev pub invariant-loop-row : goal.invariant-loop-row
invariant-loop-row l = Standing (edge l.starts l.ends) l.chain l.s l.row-index
