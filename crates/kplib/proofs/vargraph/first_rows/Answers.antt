-- Row by row: those passed stand in their places. Assumes nothing.
use native.Mathlib.Omega.{arith}
use Rattle.kplib.proofs.CappedLaws.{rows_begin, rows_done}
use Rattle.kplib.proofs.vargraph.first_rows.Goals as goal

pub loop-r-init : goal.loop-r-init
loop-r-init c = rows_begin

pub returns : goal.returns
returns c = rows_done c.loop-r.invariant (omega arith) (omega arith)
