-- Inside, the byte says the kind and the table the rest.
use native.Mathlib.Omega.{arith}
use Rattle.form.proofs.FormLaws.{short_body, record_none, record_here}
use Rattle.form.proofs.records.record_at.Goals as goal

pub returns-then-s-at : goal.returns-then-s-at
returns-then-s-at c = let a = c.args in record_none a.s.now a.at c.if-s-at.true

pub overflow_add-result-2 : goal.overflow_add-result-2
overflow_add-result-2 c = omega (arith, short_body c.kind_of-kind.result, c.body_len.ensures)

pub returns : goal.returns
returns c =
    let a = c.args in
    record_here a.s.now a.at c.if-s-at.false _ _ _ c.kind_of-kind.ensures c.count_of.ensures c.body_len.ensures
