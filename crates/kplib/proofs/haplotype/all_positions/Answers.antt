-- The positions written so far, and those that are left, are the whole list.
use native.Mathlib.Omega.{arith}
use Rattle.kplib.proofs.CodeLaws.{all_turn, all_done}
use Rattle.kplib.proofs.haplotype.all_positions.Goals as goal

pub loop-i-preserved : goal.loop-i-preserved
loop-i-preserved c = all_turn c.args.m c.loop-i.i c.loop-i.chosen _ (omega arith) (omega arith) c.loop-i.invariant

pub returns : goal.returns
returns c = all_done c.args.m c.loop-i.i c.loop-i.chosen _ (omega arith) c.loop-i.invariant
