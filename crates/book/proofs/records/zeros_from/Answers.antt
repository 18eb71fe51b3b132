-- What is left to look at decides, since all before is zero. Assumes nothing.
use native.Mathlib.Omega.{arith}
use mathlib.Core.Path.{refl, ◌∙◌}
use Rattle.book.proofs.RecordLaws.{zero_broken, zero_more, zero_done}
use Rattle.book.proofs.records.zeros_from.Goals as goal

pub loop-i-init : goal.loop-i-init
loop-i-init c = refl

pub returns-then-book-i-ne0 : goal.returns-then-book-i-ne0
returns-then-book-i-ne0 c = zero_broken _ _ c.loop-i-test.true c.if-book-i-ne0.true ∙ c.loop-i.invariant

pub loop-i-preserved : goal.loop-i-preserved
loop-i-preserved c = zero_more _ _ c.loop-i-test.true (omega arith) ∙ c.loop-i.invariant

pub returns : goal.returns
returns c = zero_done _ _ c.loop-i-test.false ∙ c.loop-i.invariant
