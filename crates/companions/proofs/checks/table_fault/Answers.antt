-- With one to 64 rows and as many ends, only the bounds are left of what a chain count is asked.
use native.Mathlib.Omega.{arith}
use mathlib.Core.Path.{sym}
use lib.Seq.{length-take-le}
use Rattle.companions.proofs.TableLaws.{table_long, table_empty, table_some}
use Rattle.companions.proofs.checks.table_fault.Goals as goal

pub returns-then-n-gt64 : goal.returns-then-n-gt64
returns-then-n-gt64 c = table_long _ _ _ c.if-n-gt64.true

pub returns-then-n-eq0 : goal.returns-then-n-eq0
returns-then-n-eq0 c = table_empty _ _ _ c.if-n-eq0.true

pub slice_bounds-count_fault-end : goal.slice_bounds-count_fault-end
slice_bounds-count_fault-end c =
    let h = c.requires in
    sym (length-take-le c.args.n c.args.starts.now (omega arith))

pub slice_bounds-count_fault-end-2 : goal.slice_bounds-count_fault-end-2
slice_bounds-count_fault-end-2 c =
    let h = c.requires in
    sym (length-take-le c.args.n c.args.ends.now (omega arith))

pub returns : goal.returns
returns c =
    table_some c.args.n c.args.starts.now c.args.ends.now (omega arith) (omega arith) c.requires.0 c.requires.1 c.count_fault.ensures
