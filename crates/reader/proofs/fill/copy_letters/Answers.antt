-- What is stored and what the rest will store is the whole.
use native.Mathlib.Omega.{arith}
use mathlib.Core.Path.{refl, sym, ◌∙◌}
use Rattle.reader.proofs.WalkLaws.{copy_start, copy_more, copy_done}
use Rattle.reader.proofs.fill.copy_letters.Goals as goal

pub loop-i-init : goal.loop-i-init
loop-i-init c = let a = c.args in (copy_start a.b.now a.n a.at a.out.now, refl)

pub overflow_add-at : goal.overflow_add-at
overflow_add-at c = omega arith

pub loop-i-preserved : goal.loop-i-preserved
loop-i-preserved c =
    let a = c.args in (
      copy_more a.b.now a.n a.at c.loop-i.out c.loop-i.i _ _ c.loop-i-test.true c.requires.1 c.u8_at.ensures c.put_u8.ensures ∙ c.loop-i.invariant.0,
      c.put_u8.auto.out ∙ c.loop-i.invariant.1,
    )

pub shape_of-out : goal.shape_of-out
shape_of-out c = c.loop-i.invariant.1

pub returns : goal.returns
returns c =
    let a = c.args in
    sym (copy_done a.b.now a.n a.at c.loop-i.out c.loop-i.i c.loop-i-test.false) ∙ c.loop-i.invariant.0
