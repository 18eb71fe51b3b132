-- Sizes within the limit are never refused, so the answer is the value.
use Rattle.kplib.proofs.SimilarityLaws.{size_value}
use Rattle.kplib.proofs.pathscore.size_alike.Goals as goal

pub returns : goal.returns
returns c =
    rw (size_value c.sizesim.result _ _ c.args.a c.args.b c.magnitude.ensures c.magnitude-2.ensures c.requires.0 c.requires.1 c.sizesim.ensures) at c.unwrap_or.ensures
