-- A count of 32 bits costs less than 2 ^ 40.
use native.Mathlib.Omega.{arith}
use Rattle.form.proofs.FormLaws.{short_body}
use Rattle.writer.proofs.WriteLaws.{cost_letters, cost_bytes}
use mathlib.Core.Path.{ap, ◌∙◌}
use Rattle.form.specs.Form.{body_len}
use Rattle.writer.proofs.cost.Goals as goal

pub returns-then-kind-eq-LETTERS : goal.returns-then-kind-eq-LETTERS
returns-then-kind-eq-LETTERS c = (cost_letters c.args.kind c.args.count c.if-kind-eq-LETTERS.true, omega arith)

pub overflow_add-result : goal.overflow_add-result
overflow_add-result c = omega (arith, short_body c.kind_of.result, c.body_len.ensures)

pub overflow_add-result-3 : goal.overflow_add-result-3
overflow_add-result-3 c = omega (arith, short_body c.kind_of.result, c.body_len.ensures)

pub returns : goal.returns
returns c =
    let a = c.args in
    (cost_bytes a.kind a.count _ c.if-kind-eq-LETTERS.false (c.body_len.ensures ∙ ap body_len c.kind_of.ensures), omega (arith, short_body c.kind_of.result, c.body_len.ensures))
