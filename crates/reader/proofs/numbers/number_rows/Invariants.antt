-- The first i rows hold their own numbers.
use mathlib.Core.Path.{◌≡◌}
use lib.ListN.{length, set}
use Rattle.form.specs.Job.{row_numbers}
use Rattle.reader.specs.Steps.{stores}
use Rattle.reader.proofs.numbers.number_rows.Given as goal

abbrev pub invariant-loop-i : goal.invariant-loop-i
invariant-loop-i l = (l.numbers ≡ stores set l.initial.numbers 0 (row_numbers l.i)) × (length l.numbers ≡ length l.initial.numbers)
