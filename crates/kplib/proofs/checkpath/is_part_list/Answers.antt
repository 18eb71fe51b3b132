-- Too few positions are no part list; else the rule of membership is left to ask.
use lib.ListN.{length}
use borrow.Author.Tests.{lt-leb}
use Rattle.kplib.proofs.ProposalLaws.{too_few, enough}
use Rattle.kplib.proofs.checkpath.is_part_list.Goals as goal

pub returns-then-fewest-positions : goal.returns-then-fewest-positions
returns-then-fewest-positions c = enough _ _ _ _ c.fewest.ensures c.if-fewest-positions.true c.rises_below.ensures

pub returns-else-fewest-positions : goal.returns-else-fewest-positions
returns-else-fewest-positions c = rw (lt-leb c.fewest.result (length c.args.positions.now) c.if-fewest-positions.false) (too_few _ _ _ _ c.fewest.ensures c.if-fewest-positions.false)
