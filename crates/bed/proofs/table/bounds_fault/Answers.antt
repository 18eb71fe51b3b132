-- With one to 64 rows and as many ends, only the bounds are left of what a chain count is asked.
use mathlib.Core.Path.{sym, ◌∙◌}
use lib.ListN.{take}
use lib.Seq.{length-take-le}
use Rattle.params.proofs.BoundLaws.{count_bounds}
use native.Mathlib.Omega.{arith}
use Rattle.bed.proofs.table.bounds_fault.Goals as goal

pub returns : goal.returns
returns c =
    let a = c.args in
    let p = c.requires in
    let s = length-take-le a.n a.s.now (omega arith) in
    let e = length-take-le a.n a.e.now (omega arith) in
    c.count_fault.ensures ∙ count_bounds (take a.n a.s.now) (take a.n a.e.now) (omega arith) (omega arith) (e ∙ sym s)
