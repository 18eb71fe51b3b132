-- Each step leads from where the search stands to where it stands then; when it stops, what is done is the whole.
use native.Mathlib.Omega.{arith}
use lib.ListN.{length}
use Rattle.kplib.specs.Told.{told_held}
use Rattle.kplib.specs.SearchSteps.{Searchable}
use Rattle.kplib.proofs.StepLaws.{searchable_keep, gone_empty, gone_steps}
use Rattle.kplib.proofs.steps.run.Goals.{At-loop-at}
use Rattle.kplib.proofs.steps.run.Goals as goal

-- what the steps are told is enough at each turn
asked : (c : At-loop-at) → Searchable (told_held c.args.told.now) (length c.loop-at.links) (length c.loop-at.keys) (length c.loop-at.scratch)
asked c = searchable_keep c.requires.0 c.loop-at.invariant.1 c.loop-at.invariant.2 c.loop-at.invariant.3

pub returns-else-at-steps : goal.returns-else-at-steps
returns-else-at-steps c = gone_steps (asked (goal.at.returns-else-at-steps c).At-loop-at) c.loop-at.invariant.4 (omega arith) (omega (arith, c.loop-at.invariant.4.run.below, c.loop-at.invariant.0))

pub returns-after-loop-at : goal.returns-after-loop-at
returns-after-loop-at c = gone_empty (asked (goal.at.returns-after-loop-at c).At-loop-at) c.loop-at.invariant.4 (omega arith)
