-- The rows of the chain from the place reached on decide.
use mathlib.Core.Path.{ap, ◌∙◌}
use mathlib.Core.Bool.{not}
use Prim.Native.Nat.{◌<◌}
use native.Mathlib.Omega.{arith}
use lib.ListN.{length, get_or}
use Rattle.paths.proofs.PickLaws.{all_at}
use Rattle.kplib.proofs.RowChainLaws.{edge_is, stands_on, stands_not, stands_all}
use Rattle.kplib.proofs.checkpath.stands_with_all.Goals.{In-loop-row}
use Rattle.kplib.proofs.checkpath.stands_with_all.Goals as goal

-- a turn's row is one of the table's
row_in : (c : In-loop-row) → get_or c.args.chain.now c.loop-row.row-index 0 < length c.args.starts.now
row_in c = all_at (λ r. r < length c.args.starts.now) 0 c.args.chain.now c.loop-row.row-index (omega arith) c.requires.3

pub returns-then-overlaps : goal.returns-then-overlaps
returns-then-overlaps c = stands_not c.loop-row.invariant (omega arith) (edge_is _ _ _ _ c.overlaps.ensures ∙ ap not c.if-overlaps.true)

pub loop-row-preserved : goal.loop-row-preserved
loop-row-preserved c = stands_on c.loop-row.invariant (omega arith) (edge_is _ _ _ _ c.overlaps.ensures ∙ ap not c.if-overlaps.false)

pub returns : goal.returns
returns c = stands_all c.loop-row.invariant (omega arith)
