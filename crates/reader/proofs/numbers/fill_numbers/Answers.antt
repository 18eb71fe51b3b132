-- What is stored and what the rest will add is the whole; a record adds at most one row, so the rows stay below the position.
use native.Mathlib.Omega.{arith}
use Prim.Native.Nat.{ℕ, ◌+◌, zero-le}
use mathlib.Core.Path.{◌≡◌, refl, sym, ◌∙◌}
use mathlib.Core.List.{List}
use lib.ListN.{length, set, length-set}
use Rattle.form.specs.Form.{body_len}
use Rattle.form.specs.Job.{number_here, gather}
use Rattle.form.proofs.FormLaws.{record_next}
use Rattle.reader.specs.Steps.{stores}
use Rattle.reader.proofs.FillLaws.{put_more, put_done, stays}
use Rattle.reader.proofs.numbers.fill_numbers.Goals.{After-fill_number-v, After-loop-at}
use Rattle.reader.proofs.numbers.fill_numbers.Goals as goal

pub loop-at-init : goal.loop-at-init
loop-at-init c = (refl, zero-le)

pub overflow_add-b : goal.overflow_add-b
overflow_add-b c = omega arith

pub slice_bounds-b-count : goal.slice_bounds-b-count
slice_bounds-b-count c = omega arith

pub slice_bounds-b-start : goal.slice_bounds-b-start
slice_bounds-b-start c = omega arith

pub slice_bounds-b-end : goal.slice_bounds-b-end
slice_bounds-b-end c = omega arith

pub fill_number-v-requires : goal.fill_number-v-requires
fill_number-v-requires c = omega arith

-- the next record stands behind this one
on : (c : After-fill_number-v) → c.record_at-here.result.next ≡ c.loop-at.at + 1 + body_len c.record_at-here.result.kind
on c = record_next c.args.s.now _ c.loop-at-test.true _ c.record_at-here.ensures

pub loop-at-smaller : goal.loop-at-smaller
loop-at-smaller c = omega (arith, c.loop-at-test.true, on (goal.at.loop-at-smaller c).After-fill_number-v)

pub loop-at-preserved : goal.loop-at-preserved
loop-at-preserved c =
    let s = c.args.s.now in let is = c.record_at-here.ensures in (
      put_more set number_here s c.loop-at.at c.loop-at-test.true _ is c.loop-at.numbers _ _ _ c.fill_number-v.ensures.is c.fill_number-v.ensures.next ∙ c.loop-at.invariant.0,
      omega (arith, c.fill_number-v.ensures.one, c.loop-at.invariant.1, on (goal.at.loop-at-preserved c).After-fill_number-v),
    )

-- what the slice holds once the walk is over
done : (c : After-loop-at) → c.loop-at.numbers ≡ stores set c.args.numbers.now 0 (gather number_here c.args.s.now 0)
done c = sym (put_done set number_here _ c.loop-at.at c.loop-at.numbers c.loop-at.v c.loop-at-test.false) ∙ c.loop-at.invariant.0

pub shape_of-numbers : goal.shape_of-numbers
shape_of-numbers c = stays set (λ (t : List ℕ). length t) (λ (t : List ℕ) (v x : ℕ). length-set t v x) _ _ _ (done (goal.at.shape_of-numbers c).After-loop-at)

pub returns : goal.returns
returns c = done (goal.at.returns c).After-loop-at
