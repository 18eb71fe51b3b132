-- After i turns the first i entries are a piece.
use mathlib.Core.Path.{sym}
use lib.Seq.{take_all}
use Rattle.text.proofs.PieceLaws.{no_entries, next_entry}
use Rattle.text.proofs.lines.put_entries.Goals as goal

pub loop-entry-init : goal.loop-entry-init
loop-entry-init c = no_entries c.args.out.now c.args.at c.args.entries.now

pub loop-entry-preserved : goal.loop-entry-preserved
loop-entry-preserved c =
    next_entry c.loop-entry.entry-index c.args.entries.now c.loop-entry-test.true c.loop-entry.invariant c.put_entry-end.ensures

pub returns : goal.returns
returns c =
    let whole = take_all c.loop-entry.entry-index c.args.entries.now c.loop-entry-test.false in
    rw (sym whole) c.loop-entry.invariant
