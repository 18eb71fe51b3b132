-- Test by test; the settings decide the rest. Assumes nothing.
use Prim.Native.Nat.{◌+◌}
use native.Mathlib.Omega.{arith}
use mathlib.Core.Path.{ap, ◌∙◌}
use mathlib.Core.List.{List}
use Prim.Native.Nat.{ℕ}
use lib.Dec.{eqb}
use Rattle.form.specs.Settings41.{settings41_fault}
use Rattle.book.proofs.FaultLaws.{slice_settings}
use Rattle.book.proofs.RecordLaws.{other_kind, cut_short, other_version, by_settings, told_none}
use Rattle.book.proofs.records.good_record.Goals as goal

pub returns-then-book-at-ne-KIND : goal.returns-then-book-at-ne-KIND
returns-then-book-at-ne-KIND c = other_kind _ _ _ c.if-book-at-ne-KIND.true

pub returns-then-book-at-lt-RECORD : goal.returns-then-book-at-lt-RECORD
returns-then-book-at-lt-RECORD c = cut_short _ _ _ c.if-book-at-ne-KIND.false c.if-book-at-lt-RECORD.true c.requires

pub overflow_cast-book : goal.overflow_cast-book
overflow_cast-book c = omega (arith, c.shared_slice_known-3-1.given (c.args.at + 1))

pub returns-then-book-at : goal.returns-then-book-at
returns-then-book-at c = other_version _ _ _ c.if-book-at-ne-KIND.false c.if-book-at-lt-RECORD.false c.if-book-at.true

pub returns : goal.returns
returns c =
    let a = c.args in
    c.is_ok.ensures.value ∙ told_none _ ∙ ap (λ (f : ℕ). eqb f 0) c.settings41_fault.ensures
    ∙ ap (λ (s : List ℕ). eqb (settings41_fault s) 0) (slice_settings a.book.now a.at)
    ∙ by_settings _ _ _ c.if-book-at-ne-KIND.false c.if-book-at-lt-RECORD.false c.if-book-at.false
