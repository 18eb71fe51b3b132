-- Four bytes, one by one. Assumes nothing.
use Rattle.std.proofs.Common.{◌∙◌}
use Rattle.fields.proofs.FieldLaws.{four_read}
use Rattle.fields.proofs.u32_at.Goals as goal

pub returns : goal.returns
returns c = c.from_le_bytes.ensures ∙ four_read _ _ _ c.bytes_at.ensures
