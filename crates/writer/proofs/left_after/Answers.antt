-- What is left against the rest is what there was against the whole.
use native.Mathlib.Omega.{arith}
use mathlib.Core.Path.{◌∙◌}
use Prim.Native.Nat.{◌≤◌}
use Rattle.writer.proofs.WriteLaws.{left_short, left_more, left_done}
use Rattle.writer.proofs.left_after.Goals as goal

pub returns-in_err-left : goal.returns-in_err-left
returns-in_err-left c =
    let a = c.args in
    let short : c.cost.result ≤ c.loop-count.left → ⊥ = c.in_err-left.ensures in
    c.from_residual.ensures
    ∙ left_short a.kind a.counts.now c.loop-count.count-index c.loop-count.left c.loop-count-test.true _ c.cost.ensures.0 (omega arith)
    ∙ c.loop-count.invariant

pub loop-count-preserved : goal.loop-count-preserved
loop-count-preserved c =
    let a = c.args in
    rw c.in_ok-left.ensures.1
    (left_more a.kind a.counts.now c.loop-count.count-index c.loop-count.left c.loop-count-test.true _ c.cost.ensures.0 c.in_ok-left.ensures.0 ∙ c.loop-count.invariant)

pub returns : goal.returns
returns c =
    let a = c.args in
    left_done a.kind a.counts.now c.loop-count.count-index c.loop-count.left c.loop-count-test.false ∙ c.loop-count.invariant
