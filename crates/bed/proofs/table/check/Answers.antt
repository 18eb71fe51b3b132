-- The lines' own fault, or that of the numbers.
use Rattle.std.proofs.Common.{◌≡◌, rules, sym}
use Rattle.metrics.specs.Refusals.{refusal_number}
use Rattle.bed.specs.Steps.{text_fault}
use Rattle.bed.proofs.TableLaws.{lines_fault, no_rows, of_numbers}
use Rattle.bed.proofs.table.check.Goals as goal

pub returns-in_err-rows : goal.returns-in_err-rows
returns-in_err-rows c =
    let h : refusal_number c.in_err-rows.field-0.0 ≡ text_fault c.args.text.now = lines_fault _ _ c.in_err-rows.ensures in
    search (rules, h)

pub returns-then-rows-eq0 : goal.returns-then-rows-eq0
returns-then-rows-eq0 c =
    let rows = c.in_ok-rows.ensures in
    (no_rows rows c.if-rows-eq0.true, rw (sym c.if-rows-eq0.true) rows)

pub returns-in_err-bounds_fault : goal.returns-in_err-bounds_fault
returns-in_err-bounds_fault c =
    let h : refusal_number c.in_err-bounds_fault.field-0.0 ≡ text_fault c.args.text.now = of_numbers c.in_ok-rows.ensures c.in_err-bounds_fault.ensures in
    search (rules, h)

pub returns : goal.returns
returns c = (sym (of_numbers c.in_ok-rows.ensures c.in_ok-bounds_fault.ensures), c.in_ok-rows.ensures)
