-- Each turn counts one record. Assumes nothing.
use Prim.Native.Nat.{◌+◌, ◌-◌, ◌*◌, ◌<◌}
use lib.ListN.{length}
use Rattle.book.proofs.RecordLaws.{Counted}
use Rattle.book.proofs.records.versions.Given as goal

abbrev pub invariant-loop-n : goal.invariant-loop-n
invariant-loop-n l = Counted l.book l.n × (43 * l.n < length l.book + 43)

abbrev pub decreases-loop-n : goal.decreases-loop-n
decreases-loop-n l = length l.book + 43 - 43 * l.n
