-- The positions chosen so far, and those of the bits that are left, are the whole list.
use native.Mathlib.Omega.{arith}
use Rattle.kplib.proofs.CodeLaws.{place_turn, place_done}
use Rattle.kplib.proofs.haplotype.bit_positions.Goals as goal

pub loop-i-preserved : goal.loop-i-preserved
loop-i-preserved c =
    (omega arith, place_turn c.args.m c.loop-i.d c.loop-i.i c.loop-i.v c.loop-i.chosen _ (omega arith) (omega arith) c.loop-i.invariant.1)

pub returns : goal.returns
returns c =
    (omega arith, place_done c.args.m c.loop-i.d c.loop-i.i c.loop-i.v c.loop-i.chosen _ (omega arith) c.loop-i.invariant.1)
