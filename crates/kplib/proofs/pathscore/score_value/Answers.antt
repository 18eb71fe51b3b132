-- Each operation is the definition's, and both casts are exact.
use Rattle.kplib.proofs.SimilarityLaws.{two_is}
use Rattle.kplib.proofs.pathscore.score_value.Goals as goal

pub returns : goal.returns
returns c = rw two_is
