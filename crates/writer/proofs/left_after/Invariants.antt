-- What is left against the rest is what there was against the whole.
use mathlib.Core.Path.{◌≡◌}
use lib.ListN.{drop}
use Rattle.writer.specs.Steps.{left_of, total}
use Rattle.writer.proofs.left_after.Given as goal

abbrev pub invariant-loop-count : goal.invariant-loop-count
invariant-loop-count l = left_of (total l.kind (drop l.count-index l.counts)) l.left ≡ left_of (total l.kind l.counts) l.have
