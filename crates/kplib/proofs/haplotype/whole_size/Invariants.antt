-- The sum so far, with the sizes that are left, is the size of the whole.
use lib.ListN.{length}
use Rattle.kplib.specs.Parts.{whole_of}
use Rattle.kplib.proofs.SizeSumLaws.{Summing}
use Rattle.kplib.proofs.haplotype.whole_size.Given as goal

abbrev pub invariant-loop-x : goal.invariant-loop-x
invariant-loop-x l = Summing l.part_sizes (whole_of (length l.part_sizes)) l.size l.x-index
