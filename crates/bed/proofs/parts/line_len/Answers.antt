-- Up to the newline, and the newline where there is one.
use lib.ListN.{length-take}
use Rattle.bed.specs.Bed.{newline}
use Rattle.bed.specs.Steps.{first_line}
use Rattle.bed.proofs.PartLaws.{up_within}
use native.Mathlib.Omega.{arith}
use Rattle.bed.proofs.parts.line_len.Goals as goal

pub overflow_add-up_to : goal.overflow_add-up_to
overflow_add-up_to c = omega (arith, up_within newline c.args.s.now, c.up_to.ensures)

pub returns : goal.returns
unfolding first_line
returns c = simp length-take (omega arith)
