-- Nothing is changed on a refusal; an accepted record is laid behind the last. Assumes nothing.
use Rattle.std.proofs.Common.{◌≡◌, rules, arith}
use Rattle.std.specs.Prelude.{Err}
use Rattle.book.specs.Changes.{saved_of, after_save}
use Rattle.book.proofs.FaultLaws.{Ready, line_room_lem, save_refused, save_ready, save_done}
use Rattle.book.proofs.save.Goals.{After-versions-n}
use Rattle.book.proofs.save.Goals as goal

room : (c : After-versions-n) → Ready c.args.book.now
room c = save_ready _ _ c.in_ok-save_fault.ensures

pub returns-in_err-save_fault : goal.returns-in_err-save_fault
returns-in_err-save_fault c =
    let a = c.args in
    let h : (Err c.in_err-save_fault.field-0.0 ≡ saved_of a.book.now a.settings.now) × (a.book.now ≡ after_save a.book.now a.settings.now) =
    save_refused _ _ _ c.in_err-save_fault.ensures in
    search (rules, h)

pub record_of-record-requires : goal.record_of-record-requires
record_of-record-requires c =
    let few = (room (goal.at.record_of-record-requires c).After-versions-n).few in let is = c.versions-n.ensures.0 in
    (omega arith, search rules)

pub lay-requires : goal.lay-requires
lay-requires c =
    line_room_lem _ _ _ _ _ (search rules) c.versions-n.ensures.0 c.record_of-record.ensures (room (goal.at.lay-requires c).After-versions-n)

pub overflow_cast-result : goal.overflow_cast-result
overflow_cast-result c =
    let few = (room (goal.at.overflow_cast-result c).After-versions-n).few in let is = c.versions-n.ensures.0 in
    omega arith

pub returns : goal.returns
returns c = save_done _ _ c.in_ok-save_fault.ensures (search rules) _ c.versions-n.ensures.0 _ c.record_of-record.ensures _ c.lay.ensures
