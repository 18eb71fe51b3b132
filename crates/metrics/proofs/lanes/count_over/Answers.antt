-- What is added up and what is left are the whole, so a sum over the limit shows a row over it, and at the end the sum is the row's own.
use Rattle.std.proofs.Common.{◌≡◌, ◌+◌, ◌<◌, ◌≤◌, drop, sym, arith, le-ltb, lt-ltb}
use Rattle.metrics.specs.Similarity.{magnitude_sum}
use Rattle.metrics.proofs.Ints.{read_back}
use Rattle.metrics.proofs.Rows.{row_step, row_none}
use Rattle.metrics.proofs.lanes.count_over.Goals.{After-magnitude}
use Rattle.metrics.proofs.lanes.count_over.Goals as goal

-- what is left of the row before and after the entry that was read
step : (c : After-magnitude) → let a = c.args.a.now in magnitude_sum (drop c.loop-x.x-index a) ≡ c.magnitude.result + magnitude_sum (drop (c.loop-x.x-index + 1) a)
step c =
    let e = rw (read_back _ c.magnitude-arg-1.given) at c.magnitude.ensures in
    omega (arith, e, row_step c.args.a.now c.loop-x.x-index (omega arith))

pub returns-then-sum-most : goal.returns-then-sum-most
returns-then-sum-most c =
    let e = step (goal.at.returns-then-sum-most c).After-magnitude in
    let h : c.args.limit < magnitude_sum c.args.a.now = omega arith in
    sym (lt-ltb _ _ h)

pub loop-x-preserved : goal.loop-x-preserved
loop-x-preserved c = let e = step (goal.at.loop-x-preserved c).After-magnitude in omega arith

pub returns : goal.returns
returns c =
    let e = row_none c.args.a.now c.loop-x.x-index (omega arith) in
    let h : magnitude_sum c.args.a.now ≤ c.args.limit = omega arith in
    sym (le-ltb _ _ h)
