-- Record by record, then what is behind the last. Assumes nothing.
use mathlib.Core.Path.{◌≡◌}
use mathlib.Core.Bool.{false}
use Rattle.params.specs.Numbers.{any_below}
use Rattle.book.specs.Book.{bad_version}
use Rattle.book.proofs.records.broken.Given as goal

abbrev pub invariant-loop-i : goal.invariant-loop-i
invariant-loop-i l = any_below l.i (bad_version l.book) ≡ false
