-- The later rows one by one: those passed have their flag. At the first one that starts at the row's end or behind it, so do all others. Assumes nothing.
use Rattle.kplib.specs.Graph.{edge}
use Rattle.kplib.specs.GraphWalk.{RowLaid}
use Rattle.kplib.proofs.vargraph.lay_row.Given as goal

abbrev pub invariant-loop-s : goal.invariant-loop-s
invariant-loop-s l = RowLaid (edge l.starts l.ends) l.s l.r l.initial.together l.together
