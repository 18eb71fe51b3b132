-- Row r begins at most at 4,096 r.
use Prim.Native.Nat.{◌+◌, ◌≤◌}
use native.Mathlib.Omega.{arith}
use Rattle.metrics.proofs.Entries.{never_more}
use Rattle.params.proofs.CheckLaws.{few_in_all}
use Rattle.search_vectors.proofs.list.read_rows.Goals as goal

pub overflow_mul-row : goal.overflow_mul-row
overflow_mul-row g c =
    let width : c.entries-width.result ≤ 4096 = rw c.entries-width.ensures (never_more _) in
    omega (arith, few_in_all c.loop-row.row c.entries-width.result 66 4096 (omega arith) width)

pub overflow_mul-row-in-loop-row : goal.overflow_mul-row-in-loop-row
overflow_mul-row-in-loop-row g c =
    let width : c.entries-width.result ≤ 4096 = rw c.entries-width.ensures (never_more _) in
    omega (arith, few_in_all (c.loop-row.row + 1) c.entries-width.result 66 4096 (omega arith) width)
