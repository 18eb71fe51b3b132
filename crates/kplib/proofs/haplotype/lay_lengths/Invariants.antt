-- The lists of the first i lengths are laid.
use Rattle.kplib.proofs.LayLaws.{Laying}
use Rattle.kplib.proofs.haplotype.lay_lengths.Given as goal

abbrev pub invariant-loop-i : goal.invariant-loop-i
invariant-loop-i l =
    Laying l.part_sizes l.i l.at l.codes l.list_sizes
