-- Edition 1 stores nothing, and edition 2 the number.
use mathlib.Core.Path.{ap, sym, ◌∙◌}
use lib.Seq.{sets}
use Rattle.form.specs.declared.records.Edition.{Edition}
use Rattle.writer.specs.Steps.{number_tail}
use Rattle.writer.proofs.write_number.Goals as goal

pub returns-in-Two : goal.returns-in-Two
returns-in-Two c =
    let a = c.args in
    c.put_u32.ensures ∙ ap (λ (e : Edition). sets a.out.now a.at (number_tail e a.number)) (sym c.in-Two.is)
