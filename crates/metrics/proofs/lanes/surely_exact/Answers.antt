-- The product is of two numbers of at most 2 ^ 23, so it fits, and the test is on it.
use Rattle.std.proofs.Common.{◌≡◌, ℕ, true, false, mul_comm, mul-le-mul, arith, ltb-true}
use Rattle.metrics.proofs.lanes.surely_exact.Goals as goal

never : {A : Type 0} → false ≡ true → A
never e = let z : ◌≡◌ {A = ℕ} 0 1 = cc in absurd (omega arith)

pub returns-then-s-gt8388608 : goal.returns-then-s-gt8388608
returns-then-s-gt8388608 c = λ e. never e

pub returns-then-count-gt8388608 : goal.returns-then-count-gt8388608
returns-then-count-gt8388608 c = λ e. never e

pub overflow_mul-result : goal.overflow_mul-result
overflow_mul-result c = let h = mul-le-mul c.if-s-gt8388608.false c.if-count-gt8388608.false in omega arith

pub returns : goal.returns
returns c =
    λ e.
    let a = c.args in
    rw (mul_comm a.count a.s.most) (ltb-true _ _ e)
