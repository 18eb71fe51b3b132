-- A fault, or too little room, changes nothing; else one walk lays the job at the fronts.
use native.Mathlib.Omega.{arith}
use mathlib.Core.Path.{◌≡◌, sym, ◌∙◌}
use mathlib.Core.Bool.{true}
use Prim.Native.Nat.{◌≤◌}
use lib.ListN.{length}
use Rattle.std.proofs.Common.{rules}
use Rattle.std.specs.Prelude.{Ok, Err}
use Rattle.form.specs.Form.{run, outset}
use Rattle.form.specs.Lent.{lent}
use Rattle.form.proofs.CountLaws.{scan_is}
use Rattle.reader.proofs.ReadLaws.{rows_room, parts_room, read_refused, settings_there, crowded_rows, crowded_parts, crowded_breaks, crowded_letters, read_job_lem}
use Rattle.reader.proofs.read_job.Goals.{Else-letters-counts, Else-not-parts_fit, Else-not-rows_fit, In_ok-counts}
use Rattle.reader.proofs.read_job.Goals as goal

good : (c : In_ok-counts) → run c.args.bytes.now 0 outset ≡ Ok c.in_ok-counts.counts
good c = scan_is _ ∙ sym c.in_ok-counts.ensures

-- what is lent has room for the rows, then for the parts
rows_room_lem : (c : Else-not-rows_fit) → rows_room c.in_ok-counts.counts (lent c.args.starts.now c.args.ends.now c.args.sizes.now c.args.negatives.now c.args.letter_counts.now
    c.args.part_sizes.now c.args.part_negatives.now c.args.part_letter_counts.now c.args.breaks.now c.args.letters.now) ≡ true
rows_room_lem c = sym c.rows_fit.ensures ∙ c.if-not-rows_fit.false

parts_room_lem : (c : Else-not-parts_fit) → parts_room c.in_ok-counts.counts (lent c.args.starts.now c.args.ends.now c.args.sizes.now c.args.negatives.now c.args.letter_counts.now
    c.args.part_sizes.now c.args.part_negatives.now c.args.part_letter_counts.now c.args.breaks.now c.args.letters.now) ≡ true
parts_room_lem c = sym c.parts_fit.ensures ∙ c.if-not-parts_fit.false

settings : (c : Else-letters-counts) → 41 ≤ length c.args.bytes.now
settings c =
    settings_there _ (scan_is _ ∙ sym c.in_ok-counts.ensures)

pub returns-then-not-rows_fit : goal.returns-then-not-rows_fit
returns-then-not-rows_fit c = crowded_rows _ (good (goal.at.returns-then-not-rows_fit c).In_ok-counts) _ (sym c.rows_fit.ensures ∙ c.if-not-rows_fit.true)

pub returns-then-not-parts_fit : goal.returns-then-not-parts_fit
returns-then-not-parts_fit c =
    let at = goal.at.returns-then-not-parts_fit c in
    crowded_parts _ (good at.In_ok-counts) _ (rows_room_lem at.Else-not-rows_fit) (sym c.parts_fit.ensures ∙ c.if-not-parts_fit.true)

pub returns-then-breaks-counts : goal.returns-then-breaks-counts
returns-then-breaks-counts c =
    let at = goal.at.returns-then-breaks-counts c in
    crowded_breaks _ (good at.In_ok-counts) _ (rows_room_lem at.Else-not-rows_fit) (parts_room_lem at.Else-not-parts_fit) c.if-breaks-counts.true

pub returns-then-letters-counts : goal.returns-then-letters-counts
returns-then-letters-counts c =
    let at = goal.at.returns-then-letters-counts c in
    crowded_letters _ (good at.In_ok-counts) _ (rows_room_lem at.Else-not-rows_fit) (parts_room_lem at.Else-not-parts_fit) c.if-breaks-counts.false c.if-letters-counts.true

pub slice_bounds-settings_by-count : goal.slice_bounds-settings_by-count
slice_bounds-settings_by-count c = let h = settings (goal.at.slice_bounds-settings_by-count c).Else-letters-counts in omega arith

pub slice_bounds-settings_by-start : goal.slice_bounds-settings_by-start
slice_bounds-settings_by-start c = let h = settings (goal.at.slice_bounds-settings_by-start c).Else-letters-counts in omega arith

pub returns-in_err-counts : goal.returns-in_err-counts
returns-in_err-counts c =
    let is : c.from_residual.result ≡ Err c.in_err-counts.field-0.0 = search rules in
    let h = read_refused c.args.bytes.now _ (scan_is _ ∙ sym c.in_err-counts.ensures) in
    (is ∙ h.0, h.1)

pub returns : goal.returns
returns c =
    let at = goal.at.returns c in
    read_job_lem _ (good at.In_ok-counts) _ (rows_room_lem at.Else-not-rows_fit) (parts_room_lem at.Else-not-parts_fit) c.if-breaks-counts.false c.if-letters-counts.false _
    c.fill.ensures.variants c.fill.ensures.parts c.fill.ensures.begins c.fill.ensures.sequence _ _ c.edition_of.ensures c.settings_by-settings.ensures
