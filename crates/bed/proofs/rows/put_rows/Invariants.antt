-- After i turns the first i rows are written.
use lib.ListN.{take}
use Rattle.text.specs.Written.{Written}
use Rattle.bed.specs.Writing.{rows_text}
use Rattle.bed.proofs.rows.put_rows.Given as goal

abbrev pub invariant-loop-row : goal.invariant-loop-row
invariant-loop-row l = Written l.initial.text 0 (rows_text l.name l.starts l.ends (take l.row-index l.rows)) l.text l.end
