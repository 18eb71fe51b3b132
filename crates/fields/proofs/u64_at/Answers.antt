-- Eight bytes, one by one. Assumes nothing.
use Rattle.std.proofs.Common.{◌∙◌}
use Rattle.fields.proofs.FieldLaws.{eight_read}
use Rattle.fields.proofs.u64_at.Goals as goal

pub returns : goal.returns
returns c = c.from_le_bytes.ensures ∙ eight_read _ _ _ c.bytes_at.ensures
