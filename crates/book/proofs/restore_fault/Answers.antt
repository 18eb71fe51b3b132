-- Each refusal in its place. Assumes nothing.
use Rattle.std.proofs.Common.{◌≡◌, rules}
use Rattle.metrics.specs.Refusals.{refusal_number}
use Rattle.metrics.proofs.RefusalLaws.{never_zero}
use Rattle.book.specs.Changes.{restore_fault}
use Rattle.book.proofs.FaultLaws.{restore_first, restore_room}
use Rattle.book.proofs.restore_fault.Goals as goal

pub returns-in_err-read_fault : goal.returns-in_err-read_fault
returns-in_err-read_fault c =
    let h : refusal_number c.in_err-read_fault.field-0.0 ≡ restore_fault c.args.book.now c.args.version = restore_first _ _ _ c.in_err-read_fault.ensures (never_zero _) in
    search (rules, h)

pub returns : goal.returns
returns c = restore_room _ _ c.in_ok-read_fault.ensures _ c.room_fault.ensures
