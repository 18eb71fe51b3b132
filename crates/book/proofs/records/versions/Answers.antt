-- Each turn counts one record. Assumes nothing.
use native.Mathlib.Omega.{arith}
use Rattle.book.proofs.RecordLaws.{count_start, count_stop, count_end, count_on}
use Rattle.book.proofs.records.versions.Goals as goal

pub loop-n-init : goal.loop-n-init
loop-n-init c = (count_start _, omega arith)

pub overflow_mul-n : goal.overflow_mul-n
overflow_mul-n c = omega arith

pub overflow_mul-n-in-loop-n : goal.overflow_mul-n-in-loop-n
overflow_mul-n-in-loop-n c = omega arith

pub bounds-book-n : goal.bounds-book-n
bounds-book-n c = omega arith

pub returns-then-book-n-eq0 : goal.returns-then-book-n-eq0
returns-then-book-n-eq0 c = (count_stop _ _ c.if-book-n-eq0.true c.loop-n.invariant.0, c.loop-n.invariant.1)

pub overflow_add-n : goal.overflow_add-n
overflow_add-n c = omega arith

pub loop-n-smaller : goal.loop-n-smaller
loop-n-smaller c = omega arith

pub loop-n-preserved : goal.loop-n-preserved
loop-n-preserved c =
    (count_on _ _ c.loop-n-test.true c.if-book-n-eq0.false c.loop-n.invariant.0, omega arith)

pub returns : goal.returns
returns c = (count_end _ _ c.loop-n-test.false c.loop-n.invariant.0, c.loop-n.invariant.1)
