-- Rows within the limit are never refused, so the answer is the value.
use mathlib.Core.Path.{◌∙◌}
use Rattle.kplib.proofs.SimilarityLaws.{seq_given}
use Rattle.kplib.proofs.pathscore.seq_alike.Goals as goal

pub returns : goal.returns
returns c =
    rw (c.seqsim.ensures ∙ seq_given c.args.minkfreq c.args.a.now c.args.b.now c.requires.0 c.requires.1 c.requires.2 c.requires.3) at c.unwrap_or.ensures
