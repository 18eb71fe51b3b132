-- Reading the rest from here gives the whole's answer; the counts stay below the position, so none can overflow.
use Prim.Native.Nat.{◌+◌, ◌≤◌, zero-le}
use native.Mathlib.Omega.{arith}
use mathlib.Core.Path.{◌≡◌, refl, sym, ◌∙◌}
use lib.ListN.{length}
use Rattle.std.specs.Prelude.{Err}
use Rattle.form.specs.Form.{body_len, is_end, run, outset}
use Rattle.std.proofs.Common.{rules, true, false}
use Rattle.form.proofs.FormLaws.{record_next, room, fault_long, run_end, run_refused, run_done, run_more}
use Rattle.form.proofs.records.first_fault.Goals.{After-after_record-st}
use Rattle.form.proofs.records.first_fault.Goals as goal

-- the record's body is there
whole : (c : After-after_record-st) → ((c.record_at-here.result)).next ≤ length c.args.s.now
whole c =
    room c.args.s.now _ c.loop-at.st c.loop-at-test.true _ c.record_at-here.ensures c.in_ok-fault_of.ensures

-- the next record stands behind this one
on : (c : After-after_record-st) → ((c.record_at-here.result)).next ≡ c.loop-at.at + 1 + body_len ((c.record_at-here.result)).kind
on c = record_next c.args.s.now _ c.loop-at-test.true _ c.record_at-here.ensures

pub loop-at-init : goal.loop-at-init
loop-at-init c = (zero-le, (refl, (zero-le, (zero-le, (zero-le, zero-le)))))

pub overflow_add-b : goal.overflow_add-b
overflow_add-b c = omega arith

pub slice_bounds-b-count : goal.slice_bounds-b-count
slice_bounds-b-count c = omega arith

pub returns-in_err-fault_of : goal.returns-in_err-fault_of
returns-in_err-fault_of c =
    let h : Err c.in_err-fault_of.field-0.0 ≡ run c.args.s.now 0 outset =
    run_refused _ _ c.loop-at.st c.loop-at-test.true _ c.record_at-here.ensures _ c.in_err-fault_of.ensures ∙ c.loop-at.invariant.1.0 in
    search (rules, h)

pub returns-then-matches : goal.returns-then-matches
returns-then-matches c =
    let ends : is_end ((c.record_at-here.result)).kind ≡ true = search rules in
    run_done _ _ c.loop-at.st c.loop-at-test.true _ c.record_at-here.ensures c.in_ok-fault_of.ensures ends ∙ c.loop-at.invariant.1.0

pub after_record-st-requires : goal.after_record-st-requires
after_record-st-requires c = (fault_long _ _ _ (sym c.in_ok-fault_of.ensures), omega arith)

pub loop-at-smaller : goal.loop-at-smaller
loop-at-smaller c = omega (arith, whole (goal.at.loop-at-smaller c).After-after_record-st, on (goal.at.loop-at-smaller c).After-after_record-st)

pub loop-at-preserved : goal.loop-at-preserved
loop-at-preserved c =
    let ends : is_end ((c.record_at-here.result)).kind ≡ false = search rules in
    let grown = c.after_record-st.ensures in (
      whole (goal.at.loop-at-preserved c).After-after_record-st,
      (
        run_more _ _ c.loop-at.st c.loop-at-test.true _ c.record_at-here.ensures c.in_ok-fault_of.ensures ends _ grown.is
            ∙ c.loop-at.invariant.1.0,
        omega (arith, grown.variants_grow, grown.parts_grow, grown.breaks_grow, grown.letters_grow, on (goal.at.loop-at-preserved c).After-after_record-st, c.loop-at.invariant.1.1),
      ),
    )

pub returns : goal.returns
returns c = run_end _ _ _ c.loop-at-test.false ∙ c.loop-at.invariant.1.0
