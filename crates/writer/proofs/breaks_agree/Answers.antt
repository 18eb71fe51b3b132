-- No break so far falls or is over m, so the rest decides.
use mathlib.Core.Path.{refl, ◌∙◌}
use Rattle.writer.proofs.AgreeLaws.{order_done, order_falls, order_over, order_more}
use Rattle.writer.proofs.breaks_agree.Goals as goal

pub loop-parts_before-init : goal.loop-parts_before-init
loop-parts_before-init c = refl

pub returns-then-b-low : goal.returns-then-b-low
returns-then-b-low c = order_falls _ _ _ c.loop-parts_before.parts_before-index c.loop-parts_before-test.true c.if-b-low.true ∙ c.loop-parts_before.invariant

pub returns-then-m-b : goal.returns-then-m-b
returns-then-m-b c =
    order_over _ _ _ c.loop-parts_before.parts_before-index c.loop-parts_before-test.true c.if-b-low.false c.if-m-b.true ∙ c.loop-parts_before.invariant

pub loop-parts_before-preserved : goal.loop-parts_before-preserved
loop-parts_before-preserved c =
    order_more _ _ _ c.loop-parts_before.parts_before-index c.loop-parts_before-test.true c.if-b-low.false c.if-m-b.false ∙ c.loop-parts_before.invariant

pub returns : goal.returns
returns c = order_done _ _ _ c.loop-parts_before.parts_before-index c.loop-parts_before-test.false ∙ c.loop-parts_before.invariant
