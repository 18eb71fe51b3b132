-- A job past the limits is refused; else each table has room for its rows; the rows counted are those that the text names.
use native.Mathlib.Omega.{arith}
use mathlib.Core.Path.{refl, sym, ◌∙◌}
use Rattle.metrics.proofs.RefusalLaws.{never_zero}
use Prim.Native.Nat.{◌*◌, ◌≤◌}
use lib.ListN.{length}
use lib.Seq.{length-take-le}
use Rattle.desk.specs.Memory.{lists_held}
use Rattle.desk.proofs.DeskLaws.{printed_refused, printed_as}
use Rattle.desk.proofs.MemoryLaws.{power_is, variants_end, parts_end, variants_fit, parts_fit_lem, blocks_fit, within_limits, limit_text, counted_text}
use Rattle.desk.proofs.memory.answer_held.Goals.{After-entries-width}
use Rattle.desk.proofs.memory.answer_held.Goals as goal

small : (c : After-entries-width) → (1 ≤ c.args.s.k) × (c.args.s.k ≤ 4)
small c = within_limits _ _ _ c.in_default.ensures refl

-- the rows end within the tables
variants_room : (c : After-entries-width) → length c.args.lists.now.counts.now * c.entries-width.result ≤ 4096
variants_room c = let k = small c in variants_end _ _ _ (lists_held c.args.lists.now) c.requires k.0 k.1 c.entries-width.ensures

parts_room : (c : After-entries-width) → length c.args.lists.now.part_counts.now * c.entries-width.result ≤ 32768
parts_room c = let k = small c in parts_end _ _ _ (lists_held c.args.lists.now) c.requires k.0 k.1 c.entries-width.ensures

pub returns-in-Err : goal.returns-in-Err
returns-in-Err c =
    printed_as (printed_refused _ (omega arith) (rw c.into.ensures at c.put_refused.ensures))
    (limit_text c.args.s _ (lists_held c.args.lists.now) _ c.over_parts-long.ensures _ c.in-Err.ensures (never_zero _))

pub count_rows-next-requires : goal.count_rows-next-requires
count_rows-next-requires c =
    variants_fit _ _ _ (lists_held c.args.lists.now) c.requires (small (goal.at.count_rows-next-requires c).After-entries-width).0
    (small (goal.at.count_rows-next-requires c).After-entries-width).1 c.entries-width.ensures _ c.variant_table-features.ensures

pub count_rows-requires : goal.count_rows-requires
count_rows-requires c =
    parts_fit_lem _ _ _ (lists_held c.args.lists.now) c.requires (small (goal.at.count_rows-requires c).After-entries-width).0
    (small (goal.at.count_rows-requires c).After-entries-width).1 c.entries-width.ensures _ c.part_table-part_features.ensures _ c.count_rows-next.ensures.next

pub overflow_mul-v : goal.overflow_mul-v
overflow_mul-v c = let h = variants_room (goal.at.overflow_mul-v c).After-entries-width in omega arith

pub overflow_mul-m : goal.overflow_mul-m
overflow_mul-m c = let h = parts_room (goal.at.overflow_mul-m c).After-entries-width in omega arith

pub slice_bounds-features-end : goal.slice_bounds-features-end
slice_bounds-features-end c =
    let h = variants_room (goal.at.slice_bounds-features-end c).After-entries-width in
    let k = c.count_rows-next.ensures.kept in
    let l = c.variant_table-features.ensures in
    omega arith

pub slice_bounds-table-end : goal.slice_bounds-table-end
slice_bounds-table-end c =
    let h = variants_room (goal.at.slice_bounds-table-end c).After-entries-width in
    let k = c.count_rows-next.ensures.kept in
    let l = c.variant_table-features.ensures in
    sym (length-take-le _ _ (omega arith))

pub slice_bounds-part_features-end : goal.slice_bounds-part_features-end
slice_bounds-part_features-end c =
    let h = parts_room (goal.at.slice_bounds-part_features-end c).After-entries-width in
    let k = c.count_rows.ensures.kept in
    let l = c.part_table-part_features.ensures in
    omega arith

pub slice_bounds-parts-end : goal.slice_bounds-parts-end
slice_bounds-parts-end c =
    let h = parts_room (goal.at.slice_bounds-parts-end c).After-entries-width in
    let k = c.count_rows.ensures.kept in
    let l = c.part_table-part_features.ensures in
    sym (length-take-le _ _ (omega arith))

pub put_haplotypes-requires : goal.put_haplotypes-requires
put_haplotypes-requires c =
    blocks_fit _ _ _ (lists_held c.args.lists.now) c.requires (small (goal.at.put_haplotypes-requires c).After-entries-width).0
    (small (goal.at.put_haplotypes-requires c).After-entries-width).1 c.entries-width.ensures _ (c.count_rows.ensures.kept ∙ sym c.part_table-part_features.ensures)

pub returns : goal.returns
returns c =
    let wide_is = power_is _ _ _ (lists_held c.args.lists.now) c.requires (small (goal.at.returns c).After-entries-width).0 (small (goal.at.returns c).After-entries-width).1
    c.entries-width.ensures in
    printed_as c.put_haplotypes.ensures
    (counted_text c.args.s _ (lists_held c.args.lists.now) _ c.over_parts-long.ensures _ c.in_default.ensures c.entries-width.result c.count_rows-next.result
    c.count_rows.result _ _ _ _
    wide_is refl c.count_rows-next.ensures c.count_rows.ensures)
