-- Each arm is its edition's own value.
use mathlib.Core.Path.{ap, sym}
use Rattle.form.specs.declared.records.Edition.{Edition}
use Rattle.writer.specs.Writing.{letters_lost}
use Rattle.writer.proofs.letters_lost.Goals as goal

pub returns-in-One : goal.returns-in-One
returns-in-One c = let a = c.args in ap (λ (e : Edition). letters_lost e a.letters) (sym c.in-One.is)

pub returns-in-Two : goal.returns-in-Two
returns-in-Two c = let a = c.args in ap (λ (e : Edition). letters_lost e a.letters) (sym c.in-Two.is)
