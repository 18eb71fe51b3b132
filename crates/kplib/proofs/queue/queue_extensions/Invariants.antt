-- Row by row, highest first: a row that extends the chain is put behind the entries, its key to the keys, and any other row is passed over.
use Prim.Native.Nat.{◌≤◌}
use lib.ListN.{length}
use Rattle.paths.proofs.QueueLaws.{Queueing}
use Rattle.kplib.specs.SearchSteps.{parents_of, lasts_of, follows_by}
use Rattle.kplib.specs.Search.{distance_to}
use Rattle.kplib.proofs.queue.queue_extensions.Given as goal

abbrev pub invariant-loop-r : goal.invariant-loop-r
invariant-loop-r l =
    (l.first ≤ l.r)
    × Queueing (follows_by l.told.plan l.told.together.now) (length l.told.sizes.now) (distance_to l.told.sizes.now l.told.plan.target) l.used l.queued l.entry
    (parents_of l.initial.links) (lasts_of l.initial.links)
    l.initial.keys (parents_of l.links) (lasts_of l.links) l.keys l.added l.r
