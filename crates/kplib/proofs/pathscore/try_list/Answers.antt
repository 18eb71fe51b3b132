-- A list that may not win leaves the best; another is judged. Assumes nothing.
use Rattle.kplib.proofs.AttemptLaws.{attempt_lost, judgeable, attempt_scored}
use Rattle.kplib.proofs.pathscore.try_list.Goals as goal

pub returns-then-not-may_win : goal.returns-then-not-may_win
returns-then-not-may_win c =
    attempt_lost c.requires c.args.floor c.args.best c.may_win.ensures c.if-not-may_win.true c.requires.ready

pub judge-verdict-requires : goal.judge-verdict-requires
judge-verdict-requires c =
    judgeable c.requires c.args.best.scored c.ready-weight.ensures c.positions-d.ensures.1 c.terms_of-terms.ensures

pub returns : goal.returns
returns c =
    attempt_scored c.requires c.args.best.scored c.ready-weight.ensures c.positions-d.ensures.1 c.terms_of-terms.ensures
    c.may_win.ensures c.if-not-may_win.false c.judge-verdict.ensures c.greater_of-scored.ensures
