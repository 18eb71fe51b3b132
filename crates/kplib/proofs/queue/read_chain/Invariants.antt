-- From entry to parent: the rows still to come stand before those written.
use mathlib.Core.Path.{◌≡◌}
use lib.ListN.{length}
use Rattle.paths.proofs.TableLaws.{Reading}
use Rattle.kplib.specs.SearchSteps.{parents_of, lasts_of}
use Rattle.kplib.proofs.queue.read_chain.Given as goal

abbrev pub invariant-loop-i : goal.invariant-loop-i
invariant-loop-i l = (length l.chain ≡ length l.initial.chain) × Reading (parents_of l.links) (lasts_of l.links) l.entry l.chain l.at l.i

abbrev pub decreases-loop-i : goal.decreases-loop-i
decreases-loop-i l = l.i
