-- The form's fault, then the first of the rules; else the records are laid in the other edition. Nothing is changed on a refusal.
use mathlib.Core.Path.{◌≡◌, ap, ◌∙◌}
use Rattle.std.proofs.Common.{rules}
use Rattle.std.specs.Prelude.{Err}
use Rattle.editions.specs.Moving.{other_edition}
use Rattle.editions.proofs.FaultLaws.{form_refused, Accepted, accepted, move_refused, room_there, move_done}
use Rattle.editions.proofs.move_job.Goals.{In_ok-counts}
use Rattle.editions.proofs.move_job.Goals as goal

-- the form is good
good : (c : In_ok-counts) → Accepted c.args.job.now c.in_ok-counts.counts
good c = accepted _ _ c.in_ok-counts.ensures

pub returns-in_err-counts : goal.returns-in_err-counts
returns-in_err-counts c =
    let is : c.from_residual.result ≡ Err c.in_err-counts.field-0.0 = search rules in
    let h = form_refused c.args.job.now c.args.edition _ _ c.args.out.now c.in_err-counts.ensures in
    (is ∙ h.0, rw is h.1)

pub moving_fault-requires : goal.moving_fault-requires
moving_fault-requires c = let g = good (goal.at.moving_fault-requires c).In_ok-counts in (g.held, g.variants)

pub returns-in_err-moving_fault : goal.returns-in_err-moving_fault
returns-in_err-moving_fault c =
    let is : c.from_residual-in_err-moving_fault.result ≡ Err c.in_err-moving_fault.field-0.0 = search rules in
    let h = move_refused _ (good (goal.at.returns-in_err-moving_fault c).In_ok-counts).held c.args.edition c.args.out.now _ c.in_err-moving_fault.ensures in
    (is ∙ h.0, rw is h.1)

pub lay_records-requires : goal.lay_records-requires
lay_records-requires c =
    room_there _ (good (goal.at.lay_records-requires c).In_ok-counts).held _ c.args.out.now c.in_ok-moving_fault.ensures _
    (c.other_edition.ensures ∙ ap other_edition c.edition_of.ensures)

pub returns : goal.returns
returns c =
    move_done _ (good (goal.at.returns c).In_ok-counts).held _ _ c.in_ok-moving_fault.ensures _ _ _
    (c.other_edition.ensures ∙ ap other_edition c.edition_of.ensures) c.lay_records.ensures
