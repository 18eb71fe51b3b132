-- What is left from the entry at hand on decides the row. Assumes nothing.
use Rattle.std.proofs.Common.{◌≡◌, drop}
use Rattle.params.specs.Numbers.{all_zero}
use Rattle.params.proofs.checks.all_zero.Given as goal

abbrev pub invariant-loop-entry : goal.invariant-loop-entry
invariant-loop-entry l = all_zero (drop l.entry-index l.row) ≡ all_zero l.row
