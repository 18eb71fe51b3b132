-- Each test is the definition's, in its order.
use Rattle.kplib.proofs.VerdictLaws.{by_squish, by_sign, by_size, by_seq, by_score}
use Rattle.kplib.proofs.pathscore.list_score.Goals as goal

pub returns-then-accepts_none : goal.returns-then-accepts_none
returns-then-accepts_none c = by_squish c.requires c.accepts_none.ensures c.if-accepts_none.true

pub returns-then-signum : goal.returns-then-signum
returns-then-signum c =
    by_sign c.requires c.accepts_none.ensures c.if-accepts_none.false c.signum.ensures.value c.signum-2.ensures.value c.if-signum.true

pub returns-then-size-s : goal.returns-then-size-s
returns-then-size-s c =
    by_size c.requires c.accepts_none.ensures c.if-accepts_none.false c.signum.ensures.value c.signum-2.ensures.value c.if-signum.false c.size_alike-size.ensures c.if-size-s.true

pub returns-then-seq-s : goal.returns-then-seq-s
returns-then-seq-s c =
    by_seq c.requires c.accepts_none.ensures c.if-accepts_none.false c.signum.ensures.value c.signum-2.ensures.value c.if-signum.false c.size_alike-size.ensures c.if-size-s.false
    c.seq_alike-seq.ensures c.if-seq-s.true

pub returns : goal.returns
returns c =
    by_score c.requires c.accepts_none.ensures c.if-accepts_none.false c.signum.ensures.value c.signum-2.ensures.value c.if-signum.false c.size_alike-size.ensures c.if-size-s.false
    c.seq_alike-seq.ensures c.if-seq-s.false c.gap_of-g.ensures.0 c.score_value.ensures
