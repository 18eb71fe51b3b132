-- A code without bits is the whole haplotype.
use mathlib.Core.Path.{sym, ◌∙◌}
use Rattle.kplib.proofs.CodeLaws.{code_whole, code_bits}
use Rattle.kplib.proofs.haplotype.positions.Goals as goal

pub returns-then-code-eq0 : goal.returns-then-code-eq0
returns-then-code-eq0 c =
    (c.requires.0, c.all_positions.ensures ∙ sym (code_whole c.args.m c.args.code c.if-code-eq0.true))

pub returns : goal.returns
returns c =
    (c.bit_positions.ensures.0, c.bit_positions.ensures.1 ∙ sym (code_bits c.args.m c.args.code c.if-code-eq0.false))
