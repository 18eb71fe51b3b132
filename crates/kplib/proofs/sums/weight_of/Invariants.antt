-- What is added up and what is left are the whole.
use mathlib.Core.Path.{◌≡◌}
use Prim.Native.Nat.{◌+◌}
use lib.ListN.{drop}
use Rattle.metrics.specs.Similarity.{magnitude_sum}
use Rattle.kplib.proofs.sums.weight_of.Given as goal

abbrev pub invariant-loop-x : goal.invariant-loop-x
invariant-loop-x l = l.sum + magnitude_sum (drop l.x-index l.row) ≡ magnitude_sum l.row
