-- Size, flag and count are stored one behind the other.
use mathlib.Core.Path.{◌∙◌, ap}
use mir.Syntax.{w32}
use mir.ValLaws.{to_z-of_z}
use Rattle.fields.specs.Fields.{word_of}
use Rattle.writer.proofs.WriteLaws.{body_stored, flag_byte}
use Rattle.writer.proofs.write_body.Goals as goal

pub returns : goal.returns
returns c =
    body_stored _ _ _ _ _ _ _ _ _ _ (c.u32_of.ensures ∙ ap word_of (to_z-of_z w32 _ c.ranges.size))
    (flag_byte c.args.negative) c.put_u32.ensures c.put_u8.ensures c.put_u32-2.ensures
