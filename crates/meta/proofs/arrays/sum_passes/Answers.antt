-- Of the entries passed no sum passes 64 bits. Assumes nothing.
use Rattle.std.proofs.Common.{sym, ◌∙◌, arith}
use Rattle.params.proofs.CheckLaws.{any_none, any_more, any_here, any_end}
use Rattle.meta.specs.Meta.{sum_passes}
use Rattle.meta.proofs.JoinLaws.{absent_sum}
use Rattle.meta.proofs.arrays.sum_passes.Goals as goal

pub loop-i-init : goal.loop-i-init
loop-i-init c = any_none _

pub returns-then-is_none : goal.returns-then-is_none
unfolding sum_passes
returns-then-is_none c = sym (any_here _ _ _ c.loop-i-test.true (absent_sum _ _ _ c.checked_add.ensures c.is_none.ensures ∙ c.if-is_none.true))

pub loop-i-preserved : goal.loop-i-preserved
loop-i-preserved c = any_more _ _ c.loop-i.invariant (absent_sum _ _ _ c.checked_add.ensures c.is_none.ensures ∙ c.if-is_none.false)

pub returns : goal.returns
unfolding sum_passes
returns c = sym (any_end _ _ _ c.loop-i-test.false (omega arith) c.loop-i.invariant)
