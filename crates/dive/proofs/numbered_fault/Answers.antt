-- The first in the table of what the two checks found.
use Rattle.params.specs.Held.{table_held, parts_held}
use Rattle.params.specs.Numbers.{call_of}
use Rattle.dive.specs.Numbered.{Numbered}
use Rattle.dive.proofs.NumberedLaws.{fault_joined}
use Rattle.dive.proofs.numbered_fault.Goals as goal

pub returns : goal.returns
returns c =
    let a = c.args in
    let whole : Numbered = record {
      call = call_of a.s (table_held a.table.now) (parts_held a.parts.now) a.queue_room a.answer_room;
      numbers = a.numbers.now;
      record_room = a.record_room;
    } in
    fault_joined whole c.number_fault-own.ensures c.call_fault-other.ensures c.first_in_table.ensures
