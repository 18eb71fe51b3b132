-- The best so far, after the rows that are left, is the answer: source and sink change nothing. Assumes nothing.
use native.Mathlib.Omega.{arith}
use Rattle.kplib.proofs.OneToOneLaws.{none_matched, row_matched, all_matched, row_scored}
use Rattle.kplib.proofs.onetoone.match_rows.Goals as goal

pub loop-r-init : goal.loop-r-init
loop-r-init c = none_matched c.requires c.nothing-none.ensures

pub loop-r-preserved : goal.loop-r-preserved
loop-r-preserved c =
    let turn = row_scored c.requires c.loop-r-test.true c.nothing.ensures c.list_score-verdict.ensures c.greater_of-x.ensures in
    row_matched c.requires c.loop-r-test.true c.loop-r.best turn c.latest_of-best.ensures c.loop-r.invariant

pub returns : goal.returns
returns c = all_matched c.requires (omega arith) c.loop-r.invariant
