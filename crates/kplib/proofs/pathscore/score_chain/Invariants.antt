-- The best so far, after the lists that are left, stands for the score. Assumes nothing.
use Rattle.kplib.specs.Told.{told_held}
use Rattle.kplib.proofs.ChainScoreLaws.{Tried}
use Rattle.kplib.proofs.pathscore.score_chain.Given as goal

abbrev pub invariant-loop-i : goal.invariant-loop-i
invariant-loop-i l =
    Tried (told_held l.told) l.chain.rows.now l.chain.size l.floor l.best l.scratch l.i
