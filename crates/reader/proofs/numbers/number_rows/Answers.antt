-- The first i rows hold their own numbers.
use native.Mathlib.Omega.{arith}
use Prim.Native.Nat.{ℕ}
use mathlib.Core.Path.{◌≡◌, refl, ap, ◌∙◌}
use lib.ListN.{set}
use Rattle.form.specs.Job.{row_numbers}
use Rattle.reader.specs.Steps.{stores}
use Rattle.reader.proofs.NumberingLaws.{rows_start, rows_more}
use Rattle.reader.proofs.numbers.number_rows.Goals as goal

pub loop-i-init : goal.loop-i-init
loop-i-init c = (rows_start _, refl)

pub loop-i-preserved : goal.loop-i-preserved
loop-i-preserved c = (
  rows_more _ c.loop-i.i c.loop-i.invariant.0 c.store.ensures,
  c.store.auto.rows ∙ c.loop-i.invariant.1,
)

pub shape_of-numbers : goal.shape_of-numbers
shape_of-numbers c = c.loop-i.invariant.1

pub returns : goal.returns
returns c =
    let a = c.args in
    let e : c.loop-i.i ≡ a.n = omega (arith, c.loop-i-test.false) in
    c.loop-i.invariant.0 ∙ ap (λ (n : ℕ). stores set a.numbers.now 0 (row_numbers n)) e
