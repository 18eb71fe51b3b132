-- Each turn looks at one haplotype's parts.
use Rattle.desk.proofs.StretchLaws.{Looking}
use Rattle.desk.proofs.stretches.over_parts.Given as goal

abbrev pub invariant-loop-i : goal.invariant-loop-i
invariant-loop-i l = Looking l.breaks l.all l.i l.from
