-- What is added up and what is left are the whole, so a sum over the limit shows a row over it, and at the end the sum is the row's own.
use Rattle.std.proofs.Common.{◌≡◌, ◌+◌, ◌≤◌, drop}
use Rattle.metrics.specs.Similarity.{magnitude_sum}
use Rattle.metrics.proofs.lanes.count_over.Given as goal

abbrev pub invariant-loop-x : goal.invariant-loop-x
invariant-loop-x l = (l.most ≡ l.limit) × (l.sum ≤ l.limit) × (l.sum + magnitude_sum (drop l.x-index l.a) ≡ magnitude_sum l.a)
