-- A fault, or too little room, changes nothing; else as many numbers as the first pass counted variants stand at the front.
use mathlib.Core.Path.{◌≡◌, sym, ap, ◌∙◌}
use lib.ListN.{set}
use Rattle.form.specs.declared.records.Edition.{Edition}
use Rattle.std.proofs.Common.{rules}
use Rattle.std.specs.Prelude.{Ok, Err}
use Rattle.form.specs.Form.{run, outset}
use Rattle.form.specs.Job.{numbers_by}
use Rattle.form.proofs.CountLaws.{scan_is}
use Rattle.reader.specs.Steps.{stores}
use Rattle.reader.proofs.NumberingLaws.{numbers_refused, count_variants, crowded_slice, crowded_bits, read_numbers}
use Rattle.reader.proofs.numbers.read_numbers.Goals.{In_ok-counts}
use Rattle.reader.proofs.numbers.read_numbers.Goals as goal

good : (c : In_ok-counts) → run c.args.bytes.now 0 outset ≡ Ok c.in_ok-counts.counts
good c = scan_is _ ∙ sym c.in_ok-counts.ensures

pub returns-then-numbers-counts : goal.returns-then-numbers-counts
returns-then-numbers-counts c = crowded_slice _ _ (good (goal.at.returns-then-numbers-counts c).In_ok-counts) c.if-numbers-counts.true

pub returns-then-counts-gt-MOST_NUMBERS : goal.returns-then-counts-gt-MOST_NUMBERS
returns-then-counts-gt-MOST_NUMBERS c = crowded_bits _ _ (good (goal.at.returns-then-counts-gt-MOST_NUMBERS c).In_ok-counts) c.if-numbers-counts.false c.if-counts-gt-MOST_NUMBERS.true

pub number-requires : goal.number-requires
number-requires c = (count_variants _ (good (goal.at.number-requires c).In_ok-counts), c.if-counts-gt-MOST_NUMBERS.false)

pub returns-in_err-counts : goal.returns-in_err-counts
returns-in_err-counts c =
    let is : c.from_residual.result ≡ Err c.in_err-counts.field-0.0 = search rules in
    let h = numbers_refused c.args.bytes.now c.args.numbers.now (scan_is _ ∙ sym c.in_err-counts.ensures) in
    (is ∙ h.0, h.1)

pub returns : goal.returns
returns c =
    let a = c.args in
    read_numbers a.bytes.now a.numbers.now (good (goal.at.returns c).In_ok-counts) c.if-numbers-counts.false c.if-counts-gt-MOST_NUMBERS.false
    (c.number.ensures ∙ ap (λ (d : Edition). stores set a.numbers.now 0 (numbers_by d a.bytes.now)) c.edition_of.ensures)
