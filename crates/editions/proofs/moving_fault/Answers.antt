-- By the job's edition.
use mathlib.Core.Path.{sym, ◌∙◌}
use Rattle.editions.proofs.moving_fault.Goals as goal

pub up_fault-requires : goal.up_fault-requires
up_fault-requires c = (c.requires.0, sym c.edition_of-from.ensures ∙ c.in-One.is, c.requires.1)

pub down_fault-requires : goal.down_fault-requires
down_fault-requires c = (c.requires.0, sym c.edition_of-from.ensures ∙ c.in-Two.is, c.requires.1)
