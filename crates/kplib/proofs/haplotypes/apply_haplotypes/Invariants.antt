-- The table is asked once. Each turn answers one haplotype more in its own stretches, which lie within their slices.
use Rattle.kplib.proofs.HaplotypesLaws.{Turned}
use Rattle.kplib.proofs.haplotypes.apply_haplotypes.Given as goal

abbrev pub invariant-loop-i : goal.invariant-loop-i
invariant-loop-i l =
    Turned l.s l.table l.part_ends l.feature_ends l.parts l.initial.links l.initial.keys l.initial.rows l.initial.reports l.v l.i l.links
    l.keys l.rows l.reports
