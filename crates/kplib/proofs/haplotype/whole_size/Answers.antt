-- The sum so far, with the sizes that are left, is the size of the whole.
use native.Mathlib.Omega.{arith}
use lib.ListN.{length}
use Rattle.kplib.specs.Parts.{whole_of}
use Rattle.kplib.proofs.SizeSumLaws.{summing_begin, whole_on, whole_done}
use Rattle.kplib.proofs.haplotype.whole_size.Goals as goal

pub loop-x-init : goal.loop-x-init
loop-x-init c = summing_begin c.args.part_sizes.now (whole_of (length c.args.part_sizes.now))

pub loop-x-preserved : goal.loop-x-preserved
loop-x-preserved c = whole_on c.requires c.loop-x.invariant (omega arith)

pub returns : goal.returns
returns c = whole_done c.loop-x.invariant (omega arith)
