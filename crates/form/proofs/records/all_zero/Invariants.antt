-- What is left to look at decides, since all before is zero.
use mathlib.Core.Path.{◌≡◌}
use lib.ListN.{drop, take}
use Rattle.form.specs.Form.{all_zero}
use Rattle.form.proofs.records.all_zero.Given as goal

abbrev pub invariant-loop-i : goal.invariant-loop-i
invariant-loop-i l = all_zero (drop l.i (take l.to l.b)) ≡ all_zero (drop l.from (take l.to l.b))
