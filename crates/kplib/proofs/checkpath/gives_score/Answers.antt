-- Skipped, not above 0, or compared bit for bit.
use Rattle.metrics.proofs.Casts.{zero_is}
use Rattle.kplib.proofs.checkpath.gives_score.Goals as goal

pub returns-in-Some : goal.returns-in-Some
returns-in-Some c = rw (c.in-Some.is, rw zero_is at c.if-score.true, c.bits_of.ensures, c.bits_of-in-Some.ensures)

pub returns-in_default : goal.returns-in_default
returns-in_default c = rw (c.in-Some.is, rw zero_is at c.if-score.false)
