-- A refusal is told by its number, 30 as 26; a job's slices are cut to the rows that were read.
use native.Mathlib.Omega.{arith}
use mathlib.Core.Path.{ap, ◌∙◌}
use Rattle.text.specs.Text.{refused_text}
use Rattle.desk.specs.Memory.{lists_held}
use Rattle.desk.proofs.DeskLaws.{printed_refused, printed_as}
use Rattle.desk.proofs.ReadLaws.{declined_reading, given_reading}
use Rattle.desk.proofs.memory.answer_reading.Goals as goal

pub returns-in-Err : goal.returns-in-Err
returns-in-Err c =
    printed_as (printed_refused _ (omega arith) (rw c.into.ensures at c.put_refused.ensures))
    (ap refused_text c.told_as.ensures ∙ declined_reading _ (lists_held c.args.lists.now) c.in-Err.is)

pub returns-in-Ok : goal.returns-in-Ok
returns-in-Ok c = printed_as c.answer_held.ensures (given_reading _ (lists_held c.args.lists.now) c.in-Ok.is)
