-- The call without parts, in the program's room.
use Rattle.desk.specs.Desk.{whole_fault}
use Rattle.desk.proofs.blocks.whole_fault.Goals as goal

pub returns : goal.returns
unfolding whole_fault
returns c = c.numbered_fault.ensures
