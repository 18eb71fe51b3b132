-- The two sums are taken away one after the other, and nothing is left over.
use mathlib.Core.Path.{◌∙◌}
use Rattle.writer.proofs.WriteLaws.{agree_short, agree_rest}
use Rattle.writer.proofs.letters_agree.Goals as goal

pub returns-in-None : goal.returns-in-None
returns-in-None c = agree_short _ _ _ c.in-None.ensures

pub returns-in-Some : goal.returns-in-Some
returns-in-Some c = c.eq.ensures ∙ agree_rest _ _ _ _ c.in-Some.ensures _ c.left_after-in-Some.ensures
