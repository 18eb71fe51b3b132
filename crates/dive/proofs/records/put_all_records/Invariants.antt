-- Each turn lays down the records of one haplotype more in its own stretch.
use Rattle.dive.proofs.RecordStretchLaws.{Recorded}
use Rattle.dive.proofs.records.put_all_records.Given as goal

abbrev pub invariant-loop-i : goal.invariant-loop-i
invariant-loop-i l = Recorded l.v l.n l.numbers l.rows l.reports l.initial.records l.i l.records
