-- Nothing is changed on a refusal; the record of the old settings is laid behind the last. Assumes nothing.
use Rattle.std.proofs.Common.{◌≡◌, rules, arith}
use Rattle.std.specs.Prelude.{Err}
use Rattle.book.specs.Changes.{restored_of, after_restore}
use Rattle.book.proofs.FaultLaws.{Found, Ready, slice_long, line_room_lem, restore_refused, restore_found, restore_ready, restore_done}
use Rattle.book.proofs.restore.Goals.{After-versions-n}
use Rattle.book.proofs.restore.Goals as goal

there : (c : After-versions-n) → let a = c.args in Found a.book.now a.version
there c = restore_found _ _ c.in_ok-restore_fault.ensures

room : (c : After-versions-n) → Ready c.args.book.now
room c = restore_ready _ _ c.in_ok-restore_fault.ensures

pub returns-in_err-restore_fault : goal.returns-in_err-restore_fault
returns-in_err-restore_fault c =
    let a = c.args in
    let h : (Err c.in_err-restore_fault.field-0.0 ≡ restored_of a.book.now a.version) × (a.book.now ≡ after_restore a.book.now a.version) =
    restore_refused _ _ _ c.in_err-restore_fault.ensures in
    search (rules, h)

pub overflow_sub-from : goal.overflow_sub-from
overflow_sub-from c = (there (goal.at.overflow_sub-from c).After-versions-n).low

pub slice_bounds-record_of-end : goal.slice_bounds-record_of-end
slice_bounds-record_of-end c = let w = (there (goal.at.slice_bounds-record_of-end c).After-versions-n).whole in omega arith

pub record_of-record-requires : goal.record_of-record-requires
record_of-record-requires c =
    let few = (room (goal.at.record_of-record-requires c).After-versions-n).few in let is = c.versions-n.ensures.0 in
    (omega arith, slice_long _ _ (there (goal.at.record_of-record-requires c).After-versions-n).whole)

pub lay-requires : goal.lay-requires
lay-requires c =
    line_room_lem _ _ _ _ _ (slice_long _ _ (there (goal.at.lay-requires c).After-versions-n).whole) c.versions-n.ensures.0 c.record_of-record.ensures (room (goal.at.lay-requires c).After-versions-n)

pub overflow_cast-result : goal.overflow_cast-result
overflow_cast-result c =
    let few = (room (goal.at.overflow_cast-result c).After-versions-n).few in let is = c.versions-n.ensures.0 in
    omega arith

pub returns : goal.returns
returns c =
    restore_done _ _ c.in_ok-restore_fault.ensures _ c.versions-n.ensures.0 _ c.record_of-record.ensures _ c.lay.ensures
