-- Up to row r no start is greater than its end. Assumes nothing.
use mathlib.Core.Path.{sym}
use borrow.Author.Tests.{lt-ltb, le-ltb}
use Rattle.params.specs.Numbers.{start_after_end}
use Rattle.params.proofs.CheckLaws.{any_none, any_more, any_here, any_end}
use Rattle.params.proofs.checks.start_after_end.Goals as goal

pub loop-r-init : goal.loop-r-init
loop-r-init c = any_none _

pub returns-then-start-ends : goal.returns-then-start-ends
unfolding start_after_end
returns-then-start-ends c = sym (any_here _ _ _ c.loop-r-test.true (lt-ltb _ _ c.if-start-ends.true))

pub loop-r-preserved : goal.loop-r-preserved
loop-r-preserved c = any_more _ _ c.loop-r.invariant (le-ltb _ _ c.if-start-ends.false)

pub returns : goal.returns
unfolding start_after_end
returns c = sym (any_end _ _ _ c.loop-r-test.false c.loop-r.auto.r-end c.loop-r.invariant)
