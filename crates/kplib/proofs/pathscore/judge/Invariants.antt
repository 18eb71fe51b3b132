-- After each block what is added up and what is left are the whole, so a list is given up only where its own seqsim could not win either.
use mathlib.Core.Path.{◌≡◌}
use Prim.Native.Nat.{◌-◌}
use lib.ListN.{length}
use Rattle.kplib.specs.Sums.{features_of}
use Rattle.kplib.proofs.BlockLaws.{Passed}
use Rattle.kplib.proofs.pathscore.judge.Given as goal

abbrev pub invariant-loop-from : goal.invariant-loop-from
invariant-loop-from l = (l.width ≡ length l.chain_row) × Passed l.s.minkfreq l.chain_row (features_of (length l.chain_row) l.table l.rows) l.from l.sums

abbrev pub decreases-loop-from : goal.decreases-loop-from
decreases-loop-from l = l.width - l.from
