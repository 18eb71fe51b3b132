-- The positions left fall.
use Prim.Native.Nat.{◌-◌}
use lib.ListN.{length}
use Rattle.kplib.proofs.haplotype.+lay_choices.Given as goal

abbrev pub decreases-lay_choices : goal.decreases-lay_choices
decreases-lay_choices l = length l.sizes.now - l.next
