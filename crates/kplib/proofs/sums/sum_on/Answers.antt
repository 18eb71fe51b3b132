-- What is added up and what is left are the whole.
use native.Mathlib.Omega.{arith}
use Rattle.kplib.proofs.BlockLaws.{passing_ok, passing_turn, passing_done}
use Rattle.kplib.proofs.sums.sum_on.Goals as goal

pub add_pair-s-requires : goal.add_pair-s-requires
add_pair-s-requires c = passing_ok c.requires c.loop-i-test.true c.loop-i.invariant

pub loop-i-preserved : goal.loop-i-preserved
loop-i-preserved c = passing_turn c.requires c.loop-i-test.true c.loop-i.invariant c.add_pair-s.ensures

pub returns : goal.returns
returns c = passing_done (omega arith) c.loop-i.invariant
