-- The kind and the fields are stored one behind the other.
use mir.Syntax.{w32}
use mir.ValLaws.{to_z-of_z}
use Rattle.writer.proofs.HeadLaws.{part_stored}
use Rattle.writer.proofs.write_part.Goals as goal

pub returns : goal.returns
returns c =
    part_stored c.args.out.now _ _ _ _ _ _ _ (to_z-of_z w32 _ c.ranges.size) c.put_u8.ensures c.write_body.ensures
