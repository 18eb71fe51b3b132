-- The later rows one by one: those passed have their flag. At the first one that starts at the row's end or behind it, so do all others. Assumes nothing.
use mathlib.Core.Path.{ap, ◌∙◌}
use mathlib.Core.Bool.{not}
use native.Mathlib.Omega.{arith}
use Rattle.kplib.specs.Graph.{edge}
use Rattle.kplib.proofs.TogetherLaws.{row_on, row_rest, behind_all}
use Rattle.kplib.proofs.vargraph.lay_row.Goals as goal

pub returns-then-ends-r : goal.returns-then-ends-r
returns-then-ends-r c =
    let l = c.loop-s in
    let h = c.requires in
    row_rest _ _ _ l.invariant (omega arith) (λ j q m. h.4.are_set _ (omega (arith, h.1)) (omega (arith, h.1, h.2)) ∙ behind_all _ _ h.3 _ _ c.if-ends-r.true j q m)

pub loop-s-preserved : goal.loop-s-preserved
unfolding edge
loop-s-preserved c =
    let l = c.loop-s in
    let h = c.requires in
    row_on _ _ _ _ _ _ l.invariant (omega arith) (omega (arith, l.invariant.long, h.4.long, h.1)) (ap not c.overlaps.ensures)
