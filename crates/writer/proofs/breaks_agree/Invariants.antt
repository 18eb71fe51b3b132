-- No break so far falls or is over m, so the rest decides.
use mathlib.Core.Path.{◌≡◌}
use lib.ListN.{drop}
use Rattle.writer.specs.Writing.{in_order}
use Rattle.writer.proofs.breaks_agree.Given as goal

abbrev pub invariant-loop-parts_before : goal.invariant-loop-parts_before
invariant-loop-parts_before l = in_order l.m l.low (drop l.parts_before-index l.breaks) ≡ in_order l.m 0 l.breaks
