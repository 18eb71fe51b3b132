-- After i turns the first i entries are a piece.
use lib.ListN.{take}
use Rattle.text.specs.Text.{entries_text}
use Rattle.text.specs.Written.{Written}
use Rattle.text.proofs.lines.put_entries.Given as goal

abbrev pub invariant-loop-entry : goal.invariant-loop-entry
invariant-loop-entry l = Written l.initial.out l.at (entries_text (take l.entry-index l.entries)) l.out l.end
