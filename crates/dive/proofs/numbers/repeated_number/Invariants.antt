-- Up to variant s no number stands at an earlier one. Assumes nothing.
use mathlib.Core.Path.{◌≡◌}
use mathlib.Core.Bool.{false}
use lib.Dec.{eqb}
use lib.ListN.{get_or}
use Rattle.params.specs.Numbers.{any_below}
use Rattle.dive.proofs.numbers.repeated_number.Given as goal

abbrev pub invariant-loop-s : goal.invariant-loop-s
invariant-loop-s l = any_below l.s (λ i. any_below i (λ r. eqb (get_or l.numbers r 0) (get_or l.numbers i 0))) ≡ false
