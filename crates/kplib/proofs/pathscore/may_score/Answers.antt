-- Each return is one case of the definition.
use Rattle.kplib.specs.Scoring.{may_score}
use Rattle.kplib.proofs.pathscore.may_score.Goals as goal

pub returns-then-bound-terms : goal.returns-then-bound-terms
unfolding may_score
returns-then-bound-terms c = rw (← c.score_value-bound.ensures, c.if-bound-terms.true)

pub returns : goal.returns
unfolding may_score
returns c = rw (← c.score_value-bound.ensures, c.if-bound-terms.false)
