-- Too little room is told as a job too large, any other refusal as itself.
use Rattle.std.proofs.Common.{ap}
use Rattle.metrics.specs.Refusals.{refusal_number}
use Rattle.metrics.specs.declared.refusals.Refusal.TheVariants.{LittleRoom}
use Rattle.metrics.proofs.RefusalLaws.{same_refusal}
use Rattle.desk.proofs.ReadLaws.{told_room, told_other}
use Rattle.desk.proofs.memory.told_as.Goals as goal

pub returns-in-LittleRoom : goal.returns-in-LittleRoom
returns-in-LittleRoom c = told_room _ (ap refusal_number c.in-LittleRoom.is)

pub returns-in_default : goal.returns-in_default
returns-in_default c = told_other _ (λ e. c.in_default.not-LittleRoom (same_refusal _ LittleRoom e))
