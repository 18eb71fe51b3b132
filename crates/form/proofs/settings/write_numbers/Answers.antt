-- The five numbers are stored one behind the other.
use Rattle.form.proofs.SettingsLaws.{numbers_stored}
use Rattle.form.proofs.settings.write_numbers.Goals as goal

pub returns : goal.returns
returns c =
    numbers_stored _ _ _ _ _ _ _ _ c.put_u32.ensures c.put_u32-2.ensures c.put_u32-3.ensures c.put_u32-4.ensures c.put_u32-5.ensures
