-- The first in the table of what the shared call and the stretches are refused by.
use Rattle.params.specs.Held.{table_held, parts_held}
use Rattle.params.specs.Several.{Several}
use Rattle.params.proofs.SeveralLaws.{fault_joined}
use Rattle.params.proofs.several.several_fault.Goals.{Start}
use Rattle.params.proofs.several.several_fault.Goals as goal

-- the whole call
abbrev lent : Start → Several
lent c =
    let a = c.args in
    record {
      settings = a.s;
      table = table_held a.table.now;
      parts = parts_held a.parts.now;
      part_ends = a.part_ends.now;
      feature_ends = a.feature_ends.now;
      queue_room = a.queue_room;
      answer_room = a.answer_room;
      report_room = a.report_room;
    }

pub returns : goal.returns
returns c = fault_joined (lent (goal.at.returns c).Start) c.stretch_fault-own.ensures c.shared_fault-shared.ensures c.first_in_table.ensures
