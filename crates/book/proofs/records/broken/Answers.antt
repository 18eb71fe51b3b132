-- Record by record, then what is behind the last. Assumes nothing.
use native.Mathlib.Omega.{arith}
use mathlib.Core.Path.{sym, ap, ◌∙◌}
use mathlib.Core.Bool.{not}
use Rattle.params.proofs.CheckLaws.{any_none, any_more}
use Rattle.book.proofs.RecordLaws.{bad_found, by_rest}
use Rattle.book.proofs.records.broken.Goals as goal

pub loop-i-init : goal.loop-i-init
loop-i-init c = any_none _

pub overflow_mul-i : goal.overflow_mul-i
overflow_mul-i c = let v = c.versions-n.ensures.1 in omega arith

pub good_record-requires : goal.good_record-requires
good_record-requires c = let v = c.versions-n.ensures.1 in omega arith

pub returns-then-not-good_record : goal.returns-then-not-good_record
returns-then-not-good_record c =
    bad_found _ _ c.versions-n.ensures.0 _ c.loop-i-test.true (sym c.good_record.ensures ∙ c.if-not-good_record.true)

pub loop-i-preserved : goal.loop-i-preserved
loop-i-preserved c =
    any_more _ _ c.loop-i.invariant (ap not (sym c.good_record.ensures ∙ c.if-not-good_record.false))

pub overflow_mul-n : goal.overflow_mul-n
overflow_mul-n c = let v = c.versions-n.ensures.1 in omega arith

pub returns : goal.returns
returns c =
    ap not c.zeros_from.ensures
    ∙ by_rest _ _ c.versions-n.ensures.0 _ c.loop-i-test.false (omega arith) c.loop-i.invariant
