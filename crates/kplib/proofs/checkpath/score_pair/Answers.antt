-- Both rows are cut to the job's width.
use mathlib.Core.Path.{◌≡◌, sym, ◌∙◌}
use Prim.Native.Nat.{◌≤◌, ◌^◌}
use native.Mathlib.Omega.{arith}
use lib.Seq.{length-take-le}
use Rattle.metrics.proofs.Entries.{power}
use Rattle.kplib.proofs.checkpath.score_pair.Goals.{After-entries-width}
use Rattle.kplib.proofs.checkpath.score_pair.Goals as goal

-- the width of a row, at the places where the rows are cut to it
width_is : (c : After-entries-width) → c.entries-width.result ≡ 4 ^ c.args.s.k
width_is c = c.entries-width.ensures ∙ power _ c.requires.k_high

width_few : (c : After-entries-width) → c.entries-width.result ≤ 4096
width_few c = omega (arith, width_is c, c.requires.tables.rows.short)

pub slice_bounds-chain_row-end : goal.slice_bounds-chain_row-end
slice_bounds-chain_row-end c = omega (arith, width_few (goal.at.slice_bounds-chain_row-end c).After-entries-width)

pub slice_bounds-pair_score-end : goal.slice_bounds-pair_score-end
slice_bounds-pair_score-end c = sym (length-take-le _ _ (omega (arith, width_few (goal.at.slice_bounds-pair_score-end c).After-entries-width)))

pub slice_bounds-list_row-end : goal.slice_bounds-list_row-end
slice_bounds-list_row-end c = omega (arith, width_few (goal.at.slice_bounds-list_row-end c).After-entries-width)

pub slice_bounds-pair_score-end-2 : goal.slice_bounds-pair_score-end-2
slice_bounds-pair_score-end-2 c = sym (length-take-le _ _ (omega (arith, width_few (goal.at.slice_bounds-pair_score-end-2 c).After-entries-width)))

pub pair_score-requires : goal.pair_score-requires
pair_score-requires c =
    let w = (goal.at.pair_score-requires c).After-entries-width in
    let l = width_few w in
    (c.requires, length-take-le _ _ (omega (arith, l)) ∙ width_is w, length-take-le _ _ (omega (arith, l)) ∙ width_is w)
