-- The whole haplotype's row is cut to the job's width.
use mathlib.Core.Path.{◌≡◌, sym, ◌∙◌}
use Prim.Native.Nat.{◌≤◌, ◌^◌}
use native.Mathlib.Omega.{arith}
use lib.Seq.{length-take-le}
use Rattle.metrics.proofs.Entries.{power}
use Rattle.kplib.proofs.traverse.alone.Goals.{After-entries-width}
use Rattle.kplib.proofs.traverse.alone.Goals as goal

-- the width of a row, at the places where the row is cut to it
width_is : (c : After-entries-width) → c.entries-width.result ≡ 4 ^ c.args.s.k
width_is c = c.entries-width.ensures ∙ power _ c.requires.1

width_few : (c : After-entries-width) → c.entries-width.result ≤ 4096
width_few c = omega (arith, width_is c, c.requires.2.rows.short)

pub slice_bounds-whole_row-end : goal.slice_bounds-whole_row-end
slice_bounds-whole_row-end c = omega (arith, width_few (goal.at.slice_bounds-whole_row-end c).After-entries-width)

pub slice_bounds-one_to_one-end-2 : goal.slice_bounds-one_to_one-end-2
slice_bounds-one_to_one-end-2 c = sym (length-take-le _ _ (omega (arith, width_few (goal.at.slice_bounds-one_to_one-end-2 c).After-entries-width)))

pub one_to_one-requires : goal.one_to_one-requires
one_to_one-requires c = record {
  tables = c.requires.2;
  room = omega arith;
  whole_row = length-take-le _ _ (omega (arith, width_few (goal.at.one_to_one-requires c).After-entries-width)) ∙ width_is (goal.at.one_to_one-requires c).After-entries-width;
}
