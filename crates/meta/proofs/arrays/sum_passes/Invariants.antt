-- Of the entries passed no sum passes 64 bits. Assumes nothing.
use Rattle.std.proofs.Common.{◌≡◌, false, ◌+◌, ltb, get_or}
use Rattle.params.specs.Numbers.{any_below}
use Rattle.meta.proofs.arrays.sum_passes.Given as goal

abbrev pub invariant-loop-i : goal.invariant-loop-i
invariant-loop-i l = any_below l.i (λ j. ltb 18446744073709551615 (get_or l.a j 0 + get_or l.b j 0)) ≡ false
