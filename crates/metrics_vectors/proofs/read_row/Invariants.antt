-- The next number begins within the list.
use Rattle.std.proofs.Common.{◌<◌, length}
use Rattle.metrics_vectors.proofs.read_row.Given as goal

abbrev pub invariant-loop-place : goal.invariant-loop-place
invariant-loop-place l = l.next < length l.list
