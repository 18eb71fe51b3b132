-- The first i entries are joined by each function that f computes, the others the left's. Assumes nothing.
use Rattle.std.proofs.Common.{arith}
use Rattle.meta.proofs.JoinLaws.{joined_none, joined_more}
use Rattle.meta.proofs.arrays.joined_first.Goals as goal

pub loop-i-init : goal.loop-i-init
loop-i-init g c = λ op computed. joined_none op _ _

pub loop-i-preserved : goal.loop-i-preserved
loop-i-preserved g c = λ op computed. joined_more op _ _ _ _ (omega arith) (omega arith) (c.loop-i.invariant op computed) (computed _ _ c.loop-i-test.true c.f.ensures)
