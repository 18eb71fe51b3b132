-- The edition asked for, the rows, the room.
use Rattle.editions.proofs.FaultLaws.{up_edition, up_rows, up_little, up_none}
use Rattle.editions.proofs.up_fault.Goals as goal

pub returns-then-edition-ne2 : goal.returns-then-edition-ne2
returns-then-edition-ne2 c = up_edition _ _ _ c.requires.0 c.requires.1 c.if-edition-ne2.true

pub returns-then-variants-gt-MOST_ROWS : goal.returns-then-variants-gt-MOST_ROWS
returns-then-variants-gt-MOST_ROWS c = up_rows _ _ _ c.requires.0 c.requires.1 c.if-edition-ne2.false _ c.requires.2 c.if-variants-gt-MOST_ROWS.true

pub returns-then-room-job : goal.returns-then-room-job
returns-then-room-job c = up_little _ _ _ c.requires.0 c.requires.1 c.if-edition-ne2.false _ c.requires.2 c.if-room-job.true

pub returns : goal.returns
returns c = up_none _ _ _ c.requires.0 c.requires.1 c.if-edition-ne2.false _ c.requires.2 c.if-variants-gt-MOST_ROWS.false c.if-room-job.false
