-- Each turn lays down the records of one haplotype more in its own stretch.
use Rattle.dive.proofs.RecordStretchLaws.{none_recorded, one_recorded}
use Rattle.dive.proofs.records.put_all_records.Goals as goal

pub loop-i-init : goal.loop-i-init
loop-i-init c = none_recorded c.requires c.args.numbers.now

pub loop-i-preserved : goal.loop-i-preserved
loop-i-preserved c =
    one_recorded c.requires c.args.numbers.now c.loop-i.invariant c.loop-i-test.true c.put_records.ensures c.put_records.auto.records
