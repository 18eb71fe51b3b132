-- Up to variant s no number stands at an earlier one. Assumes nothing.
use mathlib.Core.Path.{sym, ◌∙◌}
use Rattle.params.proofs.CheckLaws.{any_none, any_more, any_here, any_end}
use Rattle.dive.specs.Numbered.{repeated_number}
use Rattle.dive.proofs.numbers.repeated_number.Goals as goal

pub loop-s-init : goal.loop-s-init
loop-s-init c = any_none _

pub returns-then-repeats : goal.returns-then-repeats
unfolding repeated_number
returns-then-repeats c =
    sym (any_here _ _ _ c.loop-s-test.true (sym c.repeats.ensures ∙ c.if-repeats.true))

pub loop-s-preserved : goal.loop-s-preserved
loop-s-preserved c =
    any_more _ _ c.loop-s.invariant (sym c.repeats.ensures ∙ c.if-repeats.false)

pub returns : goal.returns
unfolding repeated_number
returns c = sym (any_end _ _ _ c.loop-s-test.false c.loop-s.auto.s-end c.loop-s.invariant)
