-- A skipped list and one that is not greater leave the best.
use Rattle.kplib.specs.Score.{greater_of}
use Rattle.kplib.proofs.pathscore.greater_of.Goals as goal

pub returns-in-Some : goal.returns-in-Some
unfolding greater_of
returns-in-Some c = rw (c.in-Some.is, c.if-best-new.true, c.target_of.ensures)

pub returns-in_default : goal.returns-in_default
unfolding greater_of
returns-in_default c = rw (c.in-Some.is, c.if-best-new.false)

pub returns-in_default-2 : goal.returns-in_default-2
unfolding greater_of
returns-in_default-2 c = rw c.in_default.is
