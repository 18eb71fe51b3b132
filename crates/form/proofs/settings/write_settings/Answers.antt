-- Past the end nothing is stored; else four bytes, the numbers and the floats, one behind the other.
use Rattle.fields.proofs.FieldLaws.{sets_past}
use Rattle.form.specs.Settings40.{settings_bytes}
use Rattle.form.proofs.SettingsLaws.{settings_stored, flag_byte}
use Rattle.form.proofs.settings.write_settings.Goals as goal

pub returns-then-out-at : goal.returns-then-out-at
returns-then-out-at c = let a = c.args in sets_past a.out.now a.at (settings_bytes a.s) c.if-out-at.true

pub returns : goal.returns
returns c =
    settings_stored _ _ _ _ _ _ _ _ _ _ _ _ (flag_byte _) (flag_byte _) (flag_byte _) c.put_u8.ensures
    c.put_u8-2.ensures c.put_u8-3.ensures c.put_u8-4.ensures c.write_numbers.ensures c.write_floats.ensures
