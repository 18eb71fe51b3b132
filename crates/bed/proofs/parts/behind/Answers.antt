-- What stands behind the first b; where there is none, nothing.
use Rattle.bed.proofs.PartLaws.{behind_part, behind_none}
use Rattle.bed.proofs.parts.behind.Goals as goal

pub returns-then-n-s : goal.returns-then-n-s
returns-then-n-s c =
    behind_part c.args.b c.args.s.now _ c.up_to-n.ensures c.if-n-s.true

pub returns : goal.returns
returns c =
    behind_none c.args.b c.args.s.now _ c.up_to-n.ensures c.if-n-s.false
