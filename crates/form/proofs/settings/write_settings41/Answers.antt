-- Past the end nothing is stored; else the old bytes, and `letters` behind them.
use Rattle.fields.proofs.FieldLaws.{sets_past}
use Rattle.form.specs.Settings41.{settings41_bytes}
use Rattle.form.proofs.SettingsLaws.{letters_stored}
use Rattle.form.proofs.settings.write_settings41.Goals as goal

pub returns-then-out-at : goal.returns-then-out-at
returns-then-out-at c = let a = c.args in sets_past a.out.now a.at (settings41_bytes a.s) c.if-out-at.true

pub returns : goal.returns
returns c =
    letters_stored _ _ _ _ _ c.write_settings.ensures c.put_u8.ensures
