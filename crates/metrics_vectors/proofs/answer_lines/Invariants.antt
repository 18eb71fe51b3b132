-- Each line is longer than nothing, and none goes past the list.
use Rattle.std.proofs.Common.{length, ◌-◌, ◌≤◌}
use Rattle.metrics_vectors.proofs.answer_lines.Given as goal

abbrev pub invariant-loop-at : goal.invariant-loop-at
invariant-loop-at g l = l.at ≤ length l.list

abbrev pub decreases-loop-at : goal.decreases-loop-at
decreases-loop-at g l = length l.list - l.at
