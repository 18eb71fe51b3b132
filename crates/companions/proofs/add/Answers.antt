-- Nothing is changed on a refusal; an accepted row is laid behind the last, and then its column. Assumes nothing.
use Rattle.std.proofs.Common.{◌≡◌, rules, arith}
use Rattle.companions.specs.Companions.{Companions, lent_of}
use Rattle.companions.specs.Changes.{add_fault, added_to, changed_unless}
use Rattle.metrics.proofs.RefusalLaws.{never_zero}
use Rattle.companions.proofs.ChangeLaws.{kept_refused, add_room, add_ready, add_done}
use Rattle.companions.proofs.add.Goals.{In_err-add_fault}
use Rattle.companions.proofs.add.Goals as goal

abbrev lent : In_err-add_fault → Companions
lent c = let a = c.args in lent_of a.starts.now a.ends.now a.sheet.now a.rows.now

pub returns-in_err-add_fault : goal.returns-in_err-add_fault
returns-in_err-add_fault c =
    let e = c.in_err-add_fault.ensures in
    let old = lent (goal.at.returns-in_err-add_fault c).In_err-add_fault in
    let kept : old ≡ changed_unless (add_fault old c.args.start c.args.end) (added_to old c.args.start c.args.end) old = kept_refused _ _ _ e (never_zero _) in
    search (rules, e, kept)

pub bounds-starts-last : goal.bounds-starts-last
bounds-starts-last c = add_room _ _ _ _ _ _ c.in_ok-add_fault.ensures

pub bounds-ends-last : goal.bounds-ends-last
bounds-ends-last c = add_room _ _ _ _ _ _ c.in_ok-add_fault.ensures

pub lay_last-requires : goal.lay_last-requires
lay_last-requires c =
    let e = c.in_ok-add_fault.ensures in
    (add_room _ _ _ _ _ _ e, add_ready _ _ _ _ _ _ e _ _)

pub overflow_add-rows : goal.overflow_add-rows
overflow_add-rows c = let few = add_room _ _ _ _ _ _ c.in_ok-add_fault.ensures in omega arith

pub returns : goal.returns
returns c = add_done _ _ _ _ _ _ c.in_ok-add_fault.ensures c.lay_last.ensures
