-- Numbers that are refused are answered at once, with what the call's own checks say before it; else the search's answer stands, and the first of its
-- rows' buffer are the rows whose records are written.
use Rattle.std.proofs.Common.{refl, sym, ◌∙◌}
use Rattle.metrics.proofs.RefusalLaws.{never_zero}
use Rattle.dive.specs.Numbered.{Numbered}
use Rattle.dive.specs.Promises.{numbered_lent}
use Rattle.dive.proofs.NumberedLaws.{fault_joined, refused_numbered, as_searched, rows_fit, accepted_numbered}
use Rattle.dive.proofs.apply_numbered.Goals.{Start}
use Rattle.dive.proofs.apply_numbered.Goals as goal

-- the whole call
abbrev whole : Start → Numbered
whole c = let a = c.args in numbered_lent a.s a.table.now a.numbers.now a.parts.now a.links.now a.keys.now a.rows.now a.records.now

pub returns-in-Err : goal.returns-in-Err
returns-in-Err c =
    let n = whole (goal.at.returns-in-Err c).Start in
    let other = rw c.queue_room-room.ensures at c.call_fault-other.ensures in
    let fault = fault_joined n c.in-Err.ensures other (c.told.ensures ∙ c.first_in_table.ensures) in
    let h = refused_numbered n c.args.rows.now c.args.records.now c.in-Err.ensures (never_zero _) fault c.refused.ensures in
    (h.0, (h.1.0, (h.1.1, (λ _. refl, λ _. refl))))

pub put_records-requires : goal.put_records-requires
put_records-requires c =
    rows_fit (whole (goal.at.put_records-requires c).Start) (sym c.in_default.ensures) c.args.rows.now c.apply_haplotype-answer.ensures.0 c.apply_haplotype-answer.ensures.1.0

pub returns : goal.returns
returns c =
    let n = whole (goal.at.returns c).Start in
    let good = sym c.in_default.ensures in
    let e = c.apply_haplotype-answer.ensures in
    let h = accepted_numbered n good c.args.rows.now e.0 e.1.0 c.args.records.now c.put_records.ensures in
    let searched = as_searched n good in
    (h.0, (h.1.0, (h.1.1, (λ z. e.1.1.0 (searched ∙ z), λ z. e.1.1.1 (searched ∙ z)))))
