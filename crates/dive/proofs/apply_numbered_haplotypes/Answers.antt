-- Numbers that are refused are answered at once, with what the call's own checks say before it; else the call without numbers is answered, and the records are
-- laid down by what stands in its rows and reports.
use Rattle.std.proofs.Common.{◌≡◌, rules, refl, sym, ◌∙◌}
use Rattle.metrics.specs.Refusals.{refusal_number}
use Rattle.metrics.proofs.RefusalLaws.{never_zero}
use Rattle.dive.specs.NumberedSeveral.{NumberedSeveral, numbered_several_fault}
use Rattle.dive.specs.Promises.{numbered_several_lent}
use Rattle.dive.proofs.SeveralNumberLaws.{several_good, joined_fault}
use Rattle.dive.proofs.SeveralAnswerLaws.{none_left, none_searched, same_fault, rows_left, reports_left, searches_left, stretched, records_left}
use Rattle.dive.proofs.apply_numbered_haplotypes.Goals.{Start}
use Rattle.dive.proofs.apply_numbered_haplotypes.Goals as goal

-- the whole call
abbrev whole : Start → NumberedSeveral
whole c =
    let a = c.args in
    numbered_several_lent a.s a.table.now a.numbers.now a.part_ends.now a.feature_ends.now a.parts.now a.links.now a.keys.now a.rows.now a.records.now a.reports.now

pub returns-in-Err : goal.returns-in-Err
returns-in-Err c =
    let n = whole (goal.at.returns-in-Err c).Start in
    let a = c.args in
    let other = rw c.queue_room-room.ensures at c.several_fault-other.ensures in
    let f = joined_fault n c.in-Err.ensures (never_zero _) other c.first_in_table.ensures in
    let h = none_left n f.0 f.1 a.rows.now a.records.now a.reports.now in
    (f.0, (h.0, (h.1.0, (h.1.1, (λ _. refl, λ _. refl)))))

pub returns-in_err-apply_haplotypes : goal.returns-in_err-apply_haplotypes
returns-in_err-apply_haplotypes c =
    let n = whole (goal.at.returns-in_err-apply_haplotypes c).Start in
    let a = c.args in
    let p = c.in_err-apply_haplotypes.ensures in
    let refused = never_zero c.in_err-apply_haplotypes.field-0.0 in
    let left = none_searched n.several p.0 refused p.1.0 p.1.1.0 p.1.1.1.0 p.1.1.1.1 in
    let fault : refusal_number c.in_err-apply_haplotypes.field-0.0 ≡ numbered_several_fault n = p.0 ∙ sym (several_good n (sym c.in_default.ensures)) in
    let h = none_left n fault refused a.rows.now a.records.now a.reports.now in
    search (rules, fault, left, h)

pub put_all_records-requires : goal.put_all_records-requires
put_all_records-requires c =
    let p = c.in_ok-apply_haplotypes.ensures in
    stretched (whole (goal.at.put_all_records-requires c).Start) (sym c.in_default.ensures) (sym p.0) c.args.rows.now c.args.reports.now refl refl p.1.0 p.1.1.0 c.args.records.now refl

pub returns : goal.returns
returns c =
    let n = whole (goal.at.returns c).Start in
    let p = c.in_ok-apply_haplotypes.ensures in
    let g = sym c.in_default.ensures in
    let e = sym p.0 in
    let rows = c.args.rows.now in
    let reports = c.args.reports.now in
    let searched = searches_left n g e in (
      sym e ∙ same_fault n g e,
      (
        rows_left n g e rows p.1.0,
        (
          records_left n g e rows reports refl refl p.1.0 p.1.1.0 c.args.records.now c.put_all_records.ensures,
          (reports_left n g e reports p.1.1.0, (λ z. p.1.1.1.0 (searched ∙ z), λ z. p.1.1.1.1 (searched ∙ z))),
        ),
      ),
    )
