-- What is stored and what the rest will store is the whole.
use mathlib.Core.Path.{sym, ◌∙◌}
use Rattle.editions.proofs.WalkLaws.{copy_start, copy_more, copy_done, copy_next}
use Rattle.editions.proofs.walk.copy.Goals as goal

pub loop-i-init : goal.loop-i-init
loop-i-init c = let a = c.args in copy_start a.b.now a.n a.at a.out.now

pub loop-i-preserved : goal.loop-i-preserved
loop-i-preserved c =
    let a = c.args in
    copy_more a.b.now a.n a.at c.loop-i.out c.loop-i.i c.loop-i-test.true c.requires.0 ∙ c.loop-i.invariant

pub returns : goal.returns
returns c =
    let a = c.args in record {
      is = sym (copy_done a.b.now a.n a.at c.loop-i.out c.loop-i.i c.loop-i-test.false c.requires.0) ∙ c.loop-i.invariant;
      next = copy_next a.b.now a.n a.at c.requires.0;
    }
