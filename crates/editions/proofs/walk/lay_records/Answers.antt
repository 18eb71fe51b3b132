-- What is laid and what the rest will lay is the whole.
use Prim.Native.Nat.{◌+◌, zero-le}
use native.Mathlib.Omega.{arith}
use mathlib.Core.Path.{◌≡◌, refl, ◌∙◌}
use Rattle.form.specs.Form.{body_len}
use Rattle.form.proofs.FormLaws.{record_next}
use Rattle.editions.proofs.WalkLaws.{lay_fits, lay_more, lay_done}
use Rattle.editions.proofs.walk.lay_records.Goals.{After-lay_record-arg-1}
use Rattle.editions.proofs.walk.lay_records.Goals as goal

-- the next record stands behind this one
on : (c : After-lay_record-arg-1) → c.record_at-here.result.next ≡ c.loop-at.at + 1 + body_len c.record_at-here.result.kind
on c = record_next c.args.s.now _ c.loop-at-test.true _ c.record_at-here.ensures

pub loop-at-init : goal.loop-at-init
loop-at-init c = (refl, (omega arith, (refl, zero-le)))

pub overflow_add-b : goal.overflow_add-b
overflow_add-b c = omega arith

pub slice_bounds-b-count : goal.slice_bounds-b-count
slice_bounds-b-count c = omega arith

pub slice_bounds-b-start : goal.slice_bounds-b-start
slice_bounds-b-start c = omega arith

pub slice_bounds-b-end : goal.slice_bounds-b-end
slice_bounds-b-end c = omega arith

pub bounds-s-at : goal.bounds-s-at
bounds-s-at c = omega arith

pub lay_record-end-requires : goal.lay_record-end-requires
lay_record-end-requires c =
    let f = lay_fits c.args.edition c.args.s.now c.loop-at.at c.loop-at.row c.loop-at-test.true _ c.record_at-here.ensures c.loop-at.end _ c.loop-at.invariant.1.0 in
    omega (arith, f, c.requires, c.loop-at.invariant.1.1.0)

pub row_after-row-requires : goal.row_after-row-requires
row_after-row-requires c =
    omega (arith, c.loop-at.invariant.1.1.1, c.loop-at-test.true, c.well_formed.0)

pub loop-at-smaller : goal.loop-at-smaller
loop-at-smaller c = omega (arith, c.loop-at-test.true, on (goal.at.loop-at-smaller c).After-lay_record-arg-1)

pub loop-at-preserved : goal.loop-at-preserved
loop-at-preserved c =
    let m = lay_more c.args.edition c.args.s.now c.loop-at.at c.loop-at.row c.loop-at-test.true _ c.record_at-here.ensures c.loop-at.out _ c.loop-at.end _ _
    c.lay_record-end.ensures c.row_after-row.ensures.0 in (
      m.0 ∙ c.loop-at.invariant.0,
      (
        m.1 ∙ c.loop-at.invariant.1.0,
        (c.lay_record-end.auto.out ∙ c.loop-at.invariant.1.1.0, omega (arith, c.row_after-row.ensures.1, c.loop-at.invariant.1.1.1, on (goal.at.loop-at-preserved c).After-lay_record-arg-1)),
      ),
    )

pub shape_of-out : goal.shape_of-out
shape_of-out c = c.loop-at.invariant.1.1.0

pub returns : goal.returns
returns c =
    lay_done c.args.edition c.args.s.now c.loop-at.out c.args.out.now c.loop-at.at c.loop-at.end c.loop-at.row c.loop-at-test.false c.loop-at.invariant.0 c.loop-at.invariant.1.0
