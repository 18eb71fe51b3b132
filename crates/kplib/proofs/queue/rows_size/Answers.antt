-- The sum so far, with the rest of the rows added to it, is the whole sum.
use native.Mathlib.Omega.{arith}
use Rattle.kplib.proofs.SizeSumLaws.{summing_begin, summing_on, summing_done}
use Rattle.kplib.proofs.queue.rows_size.Goals as goal

pub loop-r-init : goal.loop-r-init
loop-r-init c = summing_begin c.args.sizes.now c.args.rows.now

pub loop-r-preserved : goal.loop-r-preserved
loop-r-preserved c = summing_on c.requires c.loop-r.invariant (omega arith)

pub returns : goal.returns
returns c = summing_done c.loop-r.invariant (omega arith)
