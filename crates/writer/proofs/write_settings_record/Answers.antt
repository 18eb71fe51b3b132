-- The kind and the body are stored one behind the other, of the edition that the arm tells.
use mathlib.Core.Path.{ap, sym, ◌∙◌}
use lib.Seq.{sets}
use Rattle.form.specs.Job.{settings_record}
use Rattle.form.specs.declared.records.Edition.{Edition}
use Rattle.form.specs.declared.records.Edition.TheVariants.{One, Two}
use Rattle.writer.proofs.HeadLaws.{settings_stored}
use Rattle.writer.proofs.write_settings_record.Goals as goal

pub returns-in-One : goal.returns-in-One
returns-in-One c =
    let a = c.args in
    settings_stored One a.out.now _ _ a.s c.put_u8.ensures c.write_settings.ensures
    ∙ ap (λ (e : Edition). sets a.out.now 0 (settings_record e a.s)) (sym c.in-One.is)

pub returns-in-Two : goal.returns-in-Two
returns-in-Two c =
    let a = c.args in
    settings_stored Two a.out.now _ _ a.s c.put_u8-in-Two.ensures c.write_settings41.ensures
    ∙ ap (λ (e : Edition). sets a.out.now 0 (settings_record e a.s)) (sym c.in-Two.is)
