-- What is left to look at decides, since all before is zero. Assumes nothing.
use mathlib.Core.Path.{◌≡◌}
use lib.ListN.{drop}
use Rattle.form.specs.Form.{all_zero}
use Rattle.book.proofs.records.zeros_from.Given as goal

abbrev pub invariant-loop-i : goal.invariant-loop-i
invariant-loop-i l = all_zero (drop l.i l.book) ≡ all_zero (drop l.at l.book)
