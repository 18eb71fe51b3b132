-- After i turns the first i entries are added.
use mathlib.Core.Path.{◌∙◌}
use native.Mathlib.Omega.{arith}
use borrow.Author.Rules.{rules}
use Rattle.kplib.proofs.RowSumLaws.{mixed, mixed_all, added_fits, added}
use Rattle.kplib.proofs.sums.add_row.Goals as goal

pub loop-i-init : goal.loop-i-init
unfolding mixed
loop-i-init c = search rules

pub overflow_add-acc : goal.overflow_add-acc
overflow_add-acc c =
    added_fits c.loop-i.acc c.args.acc.now c.args.row.now c.loop-i.i c.loop-i.invariant c.requires.0 c.requires.1 c.requires.2

pub loop-i-preserved : goal.loop-i-preserved
loop-i-preserved c =
    added c.loop-i.acc c.args.acc.now c.args.row.now c.loop-i.i c.loop-i.invariant c.requires.0 (omega arith) c.requires.1 c.requires.2

pub returns : goal.returns
returns c =
    c.loop-i.invariant ∙ mixed_all c.loop-i.i c.args.acc.now c.args.row.now c.requires.0 (omega arith)
