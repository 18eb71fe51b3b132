-- Each step leads from where the search stands to where it stands then; when it stops, what is done is the whole.
use mathlib.Core.Path.{◌≡◌}
use Prim.Native.Nat.{◌+◌, ◌-◌}
use lib.ListN.{length}
use Rattle.kplib.specs.Told.{told_held}
use Rattle.kplib.specs.SearchSteps.{Going}
use Rattle.kplib.proofs.steps.run.Given as goal

abbrev pub invariant-loop-at : goal.invariant-loop-at
invariant-loop-at l =
    (l.steps ≡ l.told.plan.s.maxpaths + 1) × (length l.links ≡ length l.initial.links) × (length l.keys ≡ length l.initial.keys) × (length l.scratch ≡ length l.initial.scratch)
    × Going (told_held l.told) l.links l.keys l.at

abbrev pub decreases-loop-at : goal.decreases-loop-at
decreases-loop-at l = l.told.plan.s.maxpaths + 1 - l.at.count
