-- A cleared row, and all of each row added to it.
use native.Mathlib.Omega.{arith}
use lib.ListN.{length}
use Rattle.kplib.specs.Sums.{zeros}
use Rattle.kplib.proofs.RowSumLaws.{cleared_sum}
use Rattle.kplib.proofs.PartSumLaws.{parts_all}
use Rattle.kplib.proofs.sums.sum_features.Goals as goal

pub add_parts-requires : goal.add_parts-requires
unfolding zeros
add_parts-requires c =
    (c.requires, omega (arith, c.clear_row.auto.row), cleared_sum (length c.args.out.now) _ c.clear_row.ensures)

pub returns : goal.returns
unfolding zeros
returns c =
    parts_all c.requires c.clear_row.auto.row c.clear_row.ensures c.add_parts.ensures
