-- One haplotype has no break; of several the whole refusal, or the blocks.
use native.Mathlib.Omega.{arith}
use Rattle.std.proofs.Common.{rules, refl}
use Rattle.metrics.proofs.RefusalLaws.{never_zero}
use Rattle.params.specs.Held.{table_held, parts_held}
use Rattle.desk.proofs.DeskLaws.{printed_refused, printed_as, printed_within}
use Rattle.desk.proofs.BlockLaws.{one_text, whole_refused, whole_accepted}
use Rattle.desk.proofs.blocks.put_haplotypes.Goals as goal

pub returns-then-is_empty : goal.returns-then-is_empty
returns-then-is_empty c =
    let a = c.args in
    printed_within (omega arith) (printed_as c.put_search.ensures (one_text a.s (table_held c.args.table.now) a.numbers.now
    (parts_held c.args.parts.now) a.width a.breaks.now c.requires (search rules)))

pub returns-in-Err : goal.returns-in-Err
returns-in-Err c =
    let a = c.args in
    printed_as (printed_refused _ (omega arith) (rw c.into.ensures at c.put_refused.ensures))
    (whole_refused a.s (table_held c.args.table.now) a.numbers.now (parts_held c.args.parts.now)
    a.width a.breaks.now c.requires (search rules) _ c.in-Err.ensures (never_zero _))

pub returns : goal.returns
returns c =
    let a = c.args in
    printed_as c.put_blocks.ensures
    (whole_accepted a.s (table_held c.args.table.now) a.numbers.now (parts_held c.args.parts.now)
    a.width a.breaks.now c.requires (search rules) _ c.in_default.ensures refl)
