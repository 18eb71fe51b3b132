-- The records written so far, and then the buffer's own.
use mathlib.Core.Path.{◌≡◌}
use mathlib.Core.List.{◌++◌}
use lib.ListN.{take, drop}
use Rattle.dive.specs.Numbered.{records_at}
use Rattle.dive.proofs.records.put_records.Given as goal

abbrev pub invariant-loop-i : goal.invariant-loop-i
invariant-loop-i l = l.records ≡ take l.i (records_at l.numbers (take l.n l.rows)) ++ drop l.i l.initial.records
