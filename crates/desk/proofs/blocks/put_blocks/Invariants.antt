-- Each turn prints one block behind the others, from its own stretch of the parts.
use Rattle.params.specs.Held.{table_held, parts_held}
use Rattle.desk.proofs.BlockLaws.{Printing}
use Rattle.desk.proofs.blocks.put_blocks.Given as goal

abbrev pub invariant-loop-i : goal.invariant-loop-i
invariant-loop-i l =
    Printing l.s (table_held l.table) l.numbers (parts_held l.parts) l.width l.breaks l.initial.out l.out l.i l.from l.end
