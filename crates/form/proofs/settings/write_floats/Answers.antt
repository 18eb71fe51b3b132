-- The four patterns are stored one behind the other.
use Rattle.form.proofs.SettingsLaws.{floats_stored}
use Rattle.form.proofs.settings.write_floats.Goals as goal

pub returns : goal.returns
returns c =
    floats_stored _ _ _ _ _ _ _ _ _ _ _ c.bits_of.ensures c.bits_of-2.ensures c.bits_of-3.ensures c.bits_of-4.ensures
    c.put_u32.ensures c.put_u32-2.ensures c.put_u32-3.ensures c.put_u32-4.ensures
