-- The rows so far are a chain; the first that does not extend them decides.
use native.Mathlib.Omega.{arith}
use Rattle.kplib.proofs.RowChainLaws.{none_grown, grown_below, grown_on, grown_not}
use Rattle.kplib.proofs.checkpath.is_chain.Goals as goal

pub loop-i-init : goal.loop-i-init
loop-i-init c = none_grown _ _ _ _

pub row_extends-requires : goal.row_extends-requires
row_extends-requires c =
    let g = c.loop-i.invariant in let h = c.requires in
    (h.0, h.1, grown_below _ _ _ _ g, g.after)

pub returns-then-not-row_extends : goal.returns-then-not-row_extends
returns-then-not-row_extends c = grown_not _ _ _ _ c.loop-i.invariant (omega arith) c.row_extends.ensures (c.if-not-row_extends.true)

pub loop-i-preserved : goal.loop-i-preserved
loop-i-preserved c =
    grown_on _ _ _ _ c.loop-i.invariant (omega arith) c.row_extends.ensures (c.if-not-row_extends.false)
