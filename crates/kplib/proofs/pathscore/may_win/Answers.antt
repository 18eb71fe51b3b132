-- The tests of a list that are made before seqsim's, and what it could score.
use Rattle.kplib.proofs.VerdictLaws.{lost_by_squish, lost_by_sign, lost_by_size, by_bound}
use Rattle.kplib.proofs.pathscore.may_win.Goals as goal

pub returns-then-accepts_none : goal.returns-then-accepts_none
returns-then-accepts_none c =
    lost_by_squish c.args.s c.args.floor c.args.best c.requires c.accepts_none.ensures c.if-accepts_none.true

pub returns-then-signum : goal.returns-then-signum
returns-then-signum c =
    lost_by_sign c.args.s c.args.floor c.args.best c.requires c.accepts_none.ensures c.if-accepts_none.false c.signum.ensures.value c.signum-2.ensures.value c.if-signum.true

pub returns-then-terms-s : goal.returns-then-terms-s
returns-then-terms-s c =
    lost_by_size c.args.s c.args.floor c.args.best c.requires c.accepts_none.ensures c.if-accepts_none.false c.signum.ensures.value c.signum-2.ensures.value c.if-signum.false
    c.terms_of-terms.ensures.0 c.if-terms-s.true

pub returns : goal.returns
returns c =
    by_bound c.args.s c.args.floor c.args.best c.requires c.accepts_none.ensures c.if-accepts_none.false c.signum.ensures.value c.signum-2.ensures.value c.if-signum.false
    c.terms_of-terms.ensures.0 c.if-terms-s.false c.may_score.ensures
