-- Row by row: the earlier rows passed have no flag with the last one. Assumes nothing.
use mathlib.Core.Path.{sym}
use native.Mathlib.Omega.{arith}
use Rattle.companions.proofs.SheetLaws.{passing_begin, passing_on, passing_end, other_columns, later_rows, not_there}
use Rattle.companions.proofs.sheet.clear_last.Goals as goal

pub loop-r-init : goal.loop-r-init
loop-r-init c = passing_begin _ _ _ c.requires.1

pub loop-r-preserved : goal.loop-r-preserved
loop-r-preserved c =
    let h = c.requires.0 in
    let flag = sym (not_there _ _ c.args.last c.loop-r.r c.args.last (omega arith)) in
    passing_on _ _ _ h (λ r s n. sym (other_columns _ _ _ r s n)) _ _ _ (omega arith) flag c.loop-r.invariant

pub returns : goal.returns
returns c =
    let l = c.loop-r in
    passing_end _ _ _ _ l.invariant (λ q s h k. sym (later_rows _ _ _ q s (omega arith)))
