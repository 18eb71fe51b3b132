-- What is added up and what is left are the whole.
use mathlib.Core.Path.{◌≡◌}
use native.Mathlib.Omega.{arith}
use lib.IntN.{pos, nat_abs}
use lib.ListN.{get_or}
use Rattle.metrics.proofs.Ints.{read_back}
use Rattle.metrics.proofs.Rows.{row_step, row_none}
use Rattle.kplib.proofs.sums.weight_of.Goals as goal

pub loop-x-preserved : goal.loop-x-preserved
loop-x-preserved c =
    let a = c.args.row.now in
    let x = get_or a c.loop-x.x-index (pos 0) in
    let e : c.magnitude-sum.result ≡ nat_abs x = rw (read_back x c.magnitude-arg-1.given) at c.magnitude-sum.ensures in
    omega (arith, row_step a c.loop-x.x-index c.loop-x-test.true)

pub returns : goal.returns
returns c = omega (arith, row_none c.args.row.now c.loop-x.x-index (omega arith))
