-- Each turn prints one block behind the others, from its own stretch of the parts.
use native.Mathlib.Omega.{arith}
use Prim.Native.Nat.{◌*◌, ◌≤◌}
use lib.ListN.{length}
use Rattle.params.specs.Held.{table_held, parts_held}
use Rattle.desk.proofs.BlockLaws.{blocks_start, rises, parts_end, rows_rise, rows_end, blocks_next, blocks_done}
use Rattle.desk.proofs.blocks.put_blocks.Goals.{After-stretch_end-to}
use Rattle.desk.proofs.blocks.put_blocks.Goals as goal

pub loop-i-init : goal.loop-i-init
loop-i-init c = blocks_start c.args.s (table_held c.args.table.now) _ (parts_held c.args.parts.now)
    c.args.width c.args.breaks.now _ c.requires

-- the haplotype's stretch lies within the parts, and its rows within theirs
stretched : (c : After-stretch_end-to) → let l = c.loop-i in let to = c.stretch_end-to.result in ((l.from ≤ to) × (to ≤ length c.args.parts.now.sizes.now)) ×
    ((l.from * c.args.width ≤ to * c.args.width) × (to * c.args.width ≤ length c.args.parts.now.features.now))
stretched c =
    let l = c.loop-i in let m : c.loop-i.i ≤ length c.args.breaks.now = omega arith in let is = c.stretch_end-to.ensures in (
      (
        rises _ (table_held c.args.table.now) _ (parts_held c.args.parts.now) _ _ _ c.requires _ _ _ _
            l.invariant m _ is,
        parts_end _ (table_held c.args.table.now) _
            (parts_held c.args.parts.now) _ _ _ c.requires _ _ _ _ l.invariant m _ is,
      ),
      (
        rows_rise _ (table_held c.args.table.now) _ (parts_held c.args.parts.now) _ _ _ c.requires _ _
            _ _ l.invariant m _ is,
        rows_end _ (table_held c.args.table.now) _
            (parts_held c.args.parts.now) _ _ _ c.requires _ _ _ _ l.invariant m _ is,
      ),
    )

pub offset_bounds-parts-from : goal.offset_bounds-parts-from
offset_bounds-parts-from c = let h = stretched (goal.at.offset_bounds-parts-from c).After-stretch_end-to in let f = c.requires.parts in omega arith

pub slice_bounds-own-count : goal.slice_bounds-own-count
slice_bounds-own-count c = let h = stretched (goal.at.slice_bounds-own-count c).After-stretch_end-to in omega arith

pub slice_bounds-own-start : goal.slice_bounds-own-start
slice_bounds-own-start c = let h = stretched (goal.at.slice_bounds-own-start c).After-stretch_end-to in omega arith

pub slice_bounds-own-end : goal.slice_bounds-own-end
slice_bounds-own-end c = let h = stretched (goal.at.slice_bounds-own-end c).After-stretch_end-to in omega arith

pub overflow_mul-own : goal.overflow_mul-own
overflow_mul-own c = let h = stretched (goal.at.overflow_mul-own c).After-stretch_end-to in let f = c.requires.few in omega arith

pub overflow_mul-own-in-loop-i : goal.overflow_mul-own-in-loop-i
overflow_mul-own-in-loop-i c = let h = stretched (goal.at.overflow_mul-own-in-loop-i c).After-stretch_end-to in let f = c.requires.few in omega arith

pub offset_bounds-parts-from-in-loop-i : goal.offset_bounds-parts-from-in-loop-i
offset_bounds-parts-from-in-loop-i c = let h = stretched (goal.at.offset_bounds-parts-from-in-loop-i c).After-stretch_end-to in let f = c.requires.few in omega arith

pub slice_bounds-own-count-in-loop-i : goal.slice_bounds-own-count-in-loop-i
slice_bounds-own-count-in-loop-i c = let h = stretched (goal.at.slice_bounds-own-count-in-loop-i c).After-stretch_end-to in omega arith

pub slice_bounds-own-start-in-loop-i : goal.slice_bounds-own-start-in-loop-i
slice_bounds-own-start-in-loop-i c = let h = stretched (goal.at.slice_bounds-own-start-in-loop-i c).After-stretch_end-to in omega arith

pub slice_bounds-own-end-in-loop-i : goal.slice_bounds-own-end-in-loop-i
slice_bounds-own-end-in-loop-i c = let h = stretched (goal.at.slice_bounds-own-end-in-loop-i c).After-stretch_end-to in omega arith

pub loop-i-preserved : goal.loop-i-preserved
loop-i-preserved c =
    let m : c.loop-i.i ≤ length c.args.breaks.now = omega arith in
    blocks_next _ (table_held c.args.table.now) _ (parts_held c.args.parts.now) _ _ _ c.requires _ _
    _ _ c.loop-i.invariant m _ c.stretch_end-to.ensures _ _ c.put_block-end.ensures

pub returns-2 : goal.returns-2
returns-2 c =
    let m : c.loop-i.i ≤ length c.args.breaks.now = omega arith in
    let last = blocks_next _ (table_held c.args.table.now) _ (parts_held c.args.parts.now) _ _ _ c.requires _ _
    _ _ c.loop-i.invariant m _ c.stretch_end-to.ensures _ _ c.put_block-end.ensures in
    blocks_done _ (table_held c.args.table.now) _ (parts_held c.args.parts.now) _ _ _
    c.requires _ _ _ _ last (omega arith)
