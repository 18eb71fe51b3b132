-- The code's 0.0 is the definition's.
use Rattle.metrics.proofs.Casts.{zero_is}
use Rattle.kplib.proofs.pathscore.nothing.Goals as goal

pub returns : goal.returns
returns c = rw zero_is
