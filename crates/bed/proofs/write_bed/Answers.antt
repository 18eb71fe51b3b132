-- Each refusal in its place, and then the rows.
use Rattle.std.proofs.Common.{ℕ, List, rules, sym, ap, ◌∙◌, length}
use borrow.Author.Tests.{ltb-false}
use Rattle.metrics.specs.Placed.{placed}
use Rattle.bed.specs.Writing.{rows_text, write_fault}
use Rattle.bed.proofs.StoredLaws.{stored_length, stored_placed}
use Rattle.bed.proofs.RowLaws.{not_true, not_false, unequal, bad_name, nothing, missing, short, written, refused_written, accepted_written}
use Rattle.bed.proofs.write_bed.Goals.{Start}
use Rattle.bed.proofs.write_bed.Goals as goal

abbrev all : Start → List ℕ
all c = let a = c.args in rows_text a.name.now a.starts.now a.ends.now a.rows.now

abbrev fault : Start → ℕ
fault c = let a = c.args in write_fault a.name.now a.starts.now a.ends.now a.rows.now (length a.text.now)

pub returns-then-ends-starts : goal.returns-then-ends-starts
returns-then-ends-starts c =
    let at = goal.at.returns-then-ends-starts c in
    refused_written (fault at.Start) (all at.Start) c.args.text.now (unequal _ _ _ _ _ c.if-ends-starts.true)

pub returns-then-is_empty : goal.returns-then-is_empty
returns-then-is_empty c =
    let at = goal.at.returns-then-is_empty c in
    let a = c.args in
    let none = nothing a.name.now a.starts.now a.ends.now a.rows.now (length a.text.now) c.if-ends-starts.false (search rules) in
    accepted_written (fault at.Start) (all at.Start) a.text.now none.0 (ap length none.1) (ap (placed a.text.now) none.1)

pub returns-then-not-good_name : goal.returns-then-not-good_name
returns-then-not-good_name c =
    let at = goal.at.returns-then-not-good_name c in
    refused_written (fault at.Start) (all at.Start) c.args.text.now
    (bad_name _ _ _ _ _ c.if-ends-starts.false (search rules) (sym c.good_name.ensures ∙ c.if-not-good_name.true))

pub returns-then-missing_row : goal.returns-then-missing_row
returns-then-missing_row c =
    let at = goal.at.returns-then-missing_row c in
    let named = sym c.good_name.ensures ∙ c.if-not-good_name.false in
    refused_written (fault at.Start) (all at.Start) c.args.text.now
    (missing _ _ _ _ _ c.if-ends-starts.false named (sym c.missing_row.ensures ∙ c.if-missing_row.true))

pub returns-then-not-fits : goal.returns-then-not-fits
returns-then-not-fits c =
    let at = goal.at.returns-then-not-fits c in
    let named = sym c.good_name.ensures ∙ c.if-not-good_name.false in
    let there = sym c.missing_row.ensures ∙ c.if-missing_row.false in
    refused_written (fault at.Start) (all at.Start) c.args.text.now
    (short _ _ _ _ _ c.if-ends-starts.false named there (not_false (sym c.fits.ensures ∙ c.if-not-fits.true)))

pub returns : goal.returns
returns c =
    let at = goal.at.returns c in
    let text = c.args.text.now in
    let named = sym c.good_name.ensures ∙ c.if-not-good_name.false in
    let there = sym c.missing_row.ensures ∙ c.if-missing_row.false in
    let little = not_true (sym c.fits.ensures ∙ c.if-not-fits.false) in
    let room = ltb-false (length text) (length (all at.Start)) little in
    let put = c.put_rows.ensures in
    accepted_written (fault at.Start) (all at.Start) text (written _ _ _ _ _ c.if-ends-starts.false named there little)
    (stored_length text (all at.Start) put room) (stored_placed text (all at.Start) put room)
