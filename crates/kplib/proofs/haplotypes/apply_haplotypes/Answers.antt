-- The table is asked once. Each turn answers one haplotype more in its own stretches, which lie within their slices.
use Rattle.std.proofs.Common.{◌≡◌, refl, sym, rules, arith}
use Rattle.metrics.specs.Refusals.{refusal_number}
use Rattle.metrics.proofs.RefusalLaws.{never_zero}
use Rattle.params.specs.Several.{several_fault}
use Rattle.kplib.specs.Promises.{several_lent}
use Rattle.kplib.proofs.HaplotypesLaws.{none_yet, none_answered, few_haplotypes, few_rows, parts_lie, features_lie}
use Rattle.kplib.proofs.HaplotypesLaws.{rows_room, reports_room, still_accepted, next, all_done}
use Rattle.kplib.proofs.haplotypes.apply_haplotypes.Goals as goal

pub returns-in_err-several_fault : goal.returns-in_err-several_fault
returns-in_err-several_fault c =
    let a = c.args in
    let whole = several_lent a.s a.table.now a.part_ends.now a.feature_ends.now a.parts.now a.links.now a.keys.now a.rows.now a.reports.now in
    let f : refusal_number c.in_err-several_fault.field-0.0 ≡ several_fault whole = rw c.queue_room-room.ensures at c.in_err-several_fault.ensures in
    let h = none_answered a.s a.table.now _ _ a.parts.now _ _ _ _ _ f (never_zero _) in
    (search (rules, f), (h.0, (h.1, (λ _. refl, λ _. refl))))

pub loop-i-init : goal.loop-i-init
loop-i-init c = none_yet _ _ _ _ _ _ _ _ _ (rw c.queue_room-room.ensures at c.in_ok-several_fault.ensures) refl

pub stretch_of-requires : goal.stretch_of-requires
stretch_of-requires c = parts_lie c.loop-i.invariant c.loop-i-test.true

pub stretch_of-requires-in-loop-i : goal.stretch_of-requires-in-loop-i
stretch_of-requires-in-loop-i c = features_lie c.loop-i.invariant c.loop-i-test.true

pub overflow_mul-at : goal.overflow_mul-at
overflow_mul-at c = omega (arith, few_rows c.loop-i.invariant c.loop-i-test.true)

pub overflow_add-at : goal.overflow_add-at
overflow_add-at c = omega (arith, few_rows c.loop-i.invariant c.loop-i-test.true)

pub offset_bounds-rows-at : goal.offset_bounds-rows-at
offset_bounds-rows-at c = omega (arith, few_rows c.loop-i.invariant c.loop-i-test.true)

pub slice_bounds-answer_haplotype-end : goal.slice_bounds-answer_haplotype-end
slice_bounds-answer_haplotype-end c = omega (arith, rows_room c.loop-i.invariant c.loop-i-test.true)

pub answer_haplotype-answer-requires : goal.answer_haplotype-answer-requires
answer_haplotype-answer-requires c = still_accepted c.loop-i.invariant c.loop-i-test.true

pub offset_bounds-reports-word : goal.offset_bounds-reports-word
offset_bounds-reports-word c = omega (arith, few_haplotypes c.loop-i.invariant)

pub slice_bounds-put_words-end : goal.slice_bounds-put_words-end
slice_bounds-put_words-end c = omega (arith, reports_room c.loop-i.invariant c.loop-i-test.true)

pub loop-i-preserved : goal.loop-i-preserved
loop-i-preserved c =
    next c.loop-i.invariant c.loop-i-test.true (record { sizes = c.stretch_of.result; features = c.stretch_of-in-loop-i.result })
    c.stretch_of.ensures c.stretch_of-in-loop-i.ensures c.answer_haplotype-answer.ensures
    c.answer_haplotype-answer.auto.links c.answer_haplotype-answer.auto.keys c.answer_haplotype-answer.auto.rows
    c.put_words.ensures

pub returns : goal.returns
returns c = let h = all_done c.loop-i.invariant (omega arith) in (sym c.loop-i.invariant.accepted, h)
