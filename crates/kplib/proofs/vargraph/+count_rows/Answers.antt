-- The walk ends because the rows left fall. A row that is taken counts itself, then the chains that go on from it by the rows that it leaves, and each leaves
-- what the next may take of the cap. Assumes nothing.
use Prim.Native.Nat.{◌<◌}
use native.Mathlib.Omega.{arith}
use Rattle.kplib.proofs.CappedLaws.{kept_all, none_left, row_taken, kept_both}
use Rattle.kplib.proofs.StepLaws.{lt_of_ne}
use Rattle.kplib.proofs.vargraph.+count_rows.Goals as goal

pub returns-then-from-to : goal.returns-then-from-to
returns-then-from-to t c = (none_left _ _ _ (omega arith), kept_all c.requires.small)

pub returns : goal.returns
returns t c =
    let some : c.args.from < c.args.to = lt_of_ne c.requires.in_order c.if-from-to.false in
    let k = c.count_rows-left.ensures in
    let l = c.count_rows.ensures in (
      row_taken _ _ some c.narrow-end.ensures k.1 k.0 l.0,
      kept_both c.narrow-end.ensures k.1 l.1,
    )
