-- Up to an end's index none falls, and `before` is the end before it. Assumes nothing.
use mathlib.Core.Path.{◌≡◌}
use mathlib.Core.Bool.{false}
use lib.Dec.{ltb}
use lib.ListN.{get_or}
use Rattle.params.specs.Numbers.{any_below}
use Rattle.params.specs.Several.{begin_of}
use Rattle.params.proofs.several.bad_ends.Given as goal

abbrev pub invariant-loop-end : goal.invariant-loop-end
invariant-loop-end l = (l.before ≡ begin_of l.ends l.end-index) × (any_below l.end-index (λ j. ltb (get_or l.ends j 0) (begin_of l.ends j)) ≡ false)
