-- Each refusal in its place. Assumes nothing.
use Rattle.std.proofs.Common.{◌≡◌, sym, ◌∙◌, false, rules}
use Rattle.metrics.specs.Refusals.{refusal_number}
use Rattle.metrics.proofs.RefusalLaws.{never_zero}
use Rattle.book.specs.Book.{broken}
use Rattle.book.specs.Changes.{save_fault}
use Rattle.book.proofs.FaultLaws.{save_broken, save_settings, save_room}
use Rattle.book.proofs.save_fault.Goals.{Else-broken}
use Rattle.book.proofs.save_fault.Goals as goal

sound : (c : Else-broken) → broken c.args.book.now ≡ false
sound c = sym c.broken.ensures ∙ c.if-broken.false

pub returns-then-broken : goal.returns-then-broken
returns-then-broken c = save_broken _ _ (sym c.broken.ensures ∙ c.if-broken.true)

pub returns-in_err-settings41_fault : goal.returns-in_err-settings41_fault
returns-in_err-settings41_fault c =
    let own = sound (goal.at.returns-in_err-settings41_fault c).Else-broken in
    let h : refusal_number c.in_err-settings41_fault.field-0.0 ≡ save_fault c.args.book.now c.args.settings.now =
    save_settings _ _ own _ c.in_err-settings41_fault.ensures (never_zero _) in
    search (rules, h)

pub returns : goal.returns
returns c = save_room _ _ (sound (goal.at.returns c).Else-broken) c.in_ok-settings41_fault.ensures _ c.room_fault.ensures
