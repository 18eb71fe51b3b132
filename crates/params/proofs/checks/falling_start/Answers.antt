-- Up to row r no start is less than the row before's. Assumes nothing.
use mathlib.Core.Path.{◌≡◌, sym}
use Prim.Native.Nat.{◌+◌, ◌-◌}
use native.Mathlib.Omega.{arith}
use borrow.Author.Tests.{lt-ltb, le-ltb}
use Rattle.params.specs.Numbers.{falling_start}
use Rattle.params.proofs.CheckLaws.{any_none, any_more, any_here, any_end}
use Rattle.params.proofs.checks.falling_start.Goals as goal

pub loop-r-init : goal.loop-r-init
loop-r-init c = any_none _

pub returns-then-starts-r : goal.returns-then-starts-r
unfolding falling_start
returns-then-starts-r c =
    let back : c.loop-r.r - 1 + 1 ≡ c.loop-r.r = omega arith in
    sym (any_here _ _ (c.loop-r.r - 1) (omega arith) (rw back (lt-ltb _ _ c.if-starts-r.true)))

pub loop-r-preserved : goal.loop-r-preserved
loop-r-preserved c =
    let back : c.loop-r.r - 1 + 1 ≡ c.loop-r.r = omega arith in
    let on : c.loop-r.r + 1 - 1 ≡ c.loop-r.r - 1 + 1 = omega arith in
    rw on (any_more _ _ c.loop-r.invariant (rw back (le-ltb _ _ c.if-starts-r.false)))

pub returns : goal.returns
unfolding falling_start
returns c = sym (any_end _ _ _ (omega arith) (omega arith) c.loop-r.invariant)
