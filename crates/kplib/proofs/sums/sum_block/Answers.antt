-- The list's block is summed in front of a local array, then both blocks are passed over.
use mathlib.Core.Path.{◌≡◌, refl}
use lib.IntN.{pos}
use lib.ListN.{replicate}
use Rattle.kplib.specs.Sums.{zeros}
use Rattle.kplib.proofs.BlockLaws.{cleared_ok, part_is, rows_pass, block_is}
use Rattle.kplib.proofs.sums.sum_block.Goals as goal

-- the local array, before it is written to
noughts : replicate 128 (pos 0) ≡ zeros 128
unfolding zeros
noughts = refl

pub add_parts-requires : goal.add_parts-requires
add_parts-requires c = cleared_ok c.requires noughts

pub sum_on-requires : goal.sum_on-requires
sum_on-requires c =
    rows_pass c.requires (part_is c.requires noughts c.add_parts.ensures) _

pub returns : goal.returns
returns c =
    block_is c.requires (part_is c.requires noughts c.add_parts.ensures) _ c.sum_on.ensures
