-- Row by row: the earlier rows passed have their flag with the last one, and the sheet of one row less is that of the others. Assumes nothing.
use mathlib.Core.Path.{ap, sym, ◌∙◌}
use mathlib.Core.Bool.{not}
use Prim.Native.Nat.{◌+◌}
use native.Mathlib.Omega.{arith}
use Rattle.companions.proofs.SheetLaws.{passing_begin, passing_on, passing_end, other_columns, later_rows, there}
use Rattle.companions.proofs.sheet.lay_last.Goals as goal

pub loop-r-init : goal.loop-r-init
loop-r-init c = passing_begin _ _ _ c.requires.1

pub loop-r-preserved : goal.loop-r-preserved
loop-r-preserved c =
    let h = c.requires.0 in
    let flag = ap not c.overlaps.ensures ∙ sym (there _ _ (c.args.last + 1) c.loop-r.r c.args.last (omega arith) (omega arith)) in
    passing_on _ _ _ h (other_columns _ _ _) _ _ _ (omega arith) flag c.loop-r.invariant

pub returns : goal.returns
returns c =
    let l = c.loop-r in
    passing_end _ _ _ _ l.invariant (λ q s h k. later_rows _ _ _ q s (omega arith))
