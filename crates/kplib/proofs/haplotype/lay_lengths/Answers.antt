-- The lists of the first i lengths are laid.
use native.Mathlib.Omega.{arith}
use Rattle.kplib.proofs.LayLaws.{laying_starts, choosing, laying_turn, laying_done}
use Rattle.kplib.proofs.haplotype.lay_lengths.Goals as goal

pub loop-i-init : goal.loop-i-init
loop-i-init c = let a = c.args in laying_starts a.part_sizes.now a.codes.now a.list_sizes.now

pub lay_choices-at-requires : goal.lay_choices-at-requires
lay_choices-at-requires c =
    choosing c.requires (omega arith) c.loop-i.codes c.loop-i.list_sizes (omega arith) (omega arith) c.loop-i.invariant

pub loop-i-preserved : goal.loop-i-preserved
loop-i-preserved c =
    laying_turn c.requires (omega arith) c.loop-i.codes c.loop-i.list_sizes (omega arith) (omega arith) c.loop-i.invariant c.lay_choices-at.ensures

pub returns : goal.returns
returns c = laying_done c.requires (omega arith) _ _ c.loop-i.invariant
