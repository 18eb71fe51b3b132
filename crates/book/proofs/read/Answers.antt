-- Nothing is changed on a refusal; the settings of the version are copied over those lent. Assumes nothing.
use Rattle.std.proofs.Common.{◌≡◌, rules, arith}
use Rattle.metrics.proofs.RefusalLaws.{never_zero}
use Rattle.book.specs.Changes.{read_fault, changed_unless}
use Rattle.book.specs.Book.{settings_at}
use Rattle.book.proofs.FaultLaws.{kept_refused, found, read_done}
use Rattle.book.proofs.read.Goals as goal

pub returns-in_err-read_fault : goal.returns-in_err-read_fault
returns-in_err-read_fault c =
    let a = c.args in
    let e = c.in_err-read_fault.ensures in
    let kept : a.settings.now ≡ changed_unless (read_fault a.book.now a.version) (settings_at a.book.now a.version) a.settings.now = kept_refused _ _ _ _ e (never_zero _) in
    search (rules, e, kept)

pub overflow_sub-from : goal.overflow_sub-from
overflow_sub-from c = (found _ _ c.in_ok-read_fault.ensures).low

pub slice_bounds-copy_from_slice-end-2 : goal.slice_bounds-copy_from_slice-end-2
slice_bounds-copy_from_slice-end-2 c = let w = (found _ _ c.in_ok-read_fault.ensures).whole in omega arith

pub returns : goal.returns
returns c = read_done _ _ _ c.in_ok-read_fault.ensures _ c.copy_from_slice.ensures.after
