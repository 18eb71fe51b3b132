-- The rest from here is off its rows where the whole is.
use Prim.Native.Nat.{◌+◌, zero-le}
use native.Mathlib.Omega.{arith}
use mathlib.Core.Path.{◌≡◌, refl, sym, ◌∙◌}
use Rattle.form.specs.Form.{body_len}
use Rattle.form.proofs.FormLaws.{record_next}
use Rattle.editions.proofs.WalkLaws.{off_done, off_found, off_more}
use Rattle.editions.proofs.walk.off_row.Goals.{After-number_off}
use Rattle.editions.proofs.walk.off_row.Goals as goal

-- the next record stands behind this one
on : (n : After-number_off) → n.record_at-here.result.next ≡ n.loop-at.at + 1 + body_len n.record_at-here.result.kind
on n = record_next n.args.s.now _ n.loop-at-test.true _ n.record_at-here.ensures

pub loop-at-init : goal.loop-at-init
loop-at-init c = (refl, zero-le)

pub overflow_add-b : goal.overflow_add-b
overflow_add-b c = omega arith

pub slice_bounds-b-count : goal.slice_bounds-b-count
slice_bounds-b-count c = omega arith

pub slice_bounds-b-start : goal.slice_bounds-b-start
slice_bounds-b-start c = omega arith

pub slice_bounds-b-end : goal.slice_bounds-b-end
slice_bounds-b-end c = omega arith

pub returns-then-number_off : goal.returns-then-number_off
returns-then-number_off c =
    off_found c.args.s.now c.loop-at.at c.loop-at.row c.loop-at-test.true _ c.record_at-here.ensures (sym c.number_off.ensures ∙ c.if-number_off.true) ∙ c.loop-at.invariant.0

pub row_behind-row-requires : goal.row_behind-row-requires
row_behind-row-requires c = omega arith

pub loop-at-smaller : goal.loop-at-smaller
loop-at-smaller c = omega (arith, c.loop-at-test.true, on (goal.at.loop-at-smaller c).After-number_off)

pub loop-at-preserved : goal.loop-at-preserved
loop-at-preserved c = (
  off_more c.args.s.now c.loop-at.at c.loop-at.row c.loop-at-test.true _ c.record_at-here.ensures _ (sym c.number_off.ensures ∙ c.if-number_off.false) c.row_behind-row.ensures.0
      ∙ c.loop-at.invariant.0,
  omega (arith, c.row_behind-row.ensures.1, c.loop-at.invariant.1, on (goal.at.loop-at-preserved c).After-number_off),
)

pub returns : goal.returns
returns c = off_done c.args.s.now c.loop-at.at c.loop-at.row c.loop-at-test.false ∙ c.loop-at.invariant.0
