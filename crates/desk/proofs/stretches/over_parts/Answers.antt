-- Each turn looks at one haplotype's parts.
use native.Mathlib.Omega.{arith}
use Prim.Native.Nat.{◌≤◌}
use lib.ListN.{length}
use Rattle.desk.proofs.StretchLaws.{looking_start, looked_rises, looked_long, looking_next, looked_all}
use Rattle.desk.proofs.stretches.over_parts.Goals as goal

pub loop-i-init : goal.loop-i-init
loop-i-init c = looking_start _ _ c.requires

pub overflow_sub-to : goal.overflow_sub-to
overflow_sub-to c =
    let more : c.loop-i.i ≤ length c.args.breaks.now = omega arith in
    let h = looked_rises _ _ _ _ c.loop-i.invariant _ more c.stretch_end-to.ensures in
    omega arith

pub returns-then-to-from-gt8 : goal.returns-then-to-from-gt8
returns-then-to-from-gt8 c =
    let more : c.loop-i.i ≤ length c.args.breaks.now = omega arith in
    looked_long _ _ _ _ c.loop-i.invariant _ more c.stretch_end-to.ensures c.if-to-from-gt8.true

pub loop-i-preserved : goal.loop-i-preserved
loop-i-preserved c =
    let more : c.loop-i.i ≤ length c.args.breaks.now = omega arith in
    looking_next _ _ _ _ c.loop-i.invariant _ more c.stretch_end-to.ensures c.if-to-from-gt8.false

pub returns-else-to-from-gt8 : goal.returns-else-to-from-gt8
returns-else-to-from-gt8 c =
    let more : c.loop-i.i ≤ length c.args.breaks.now = omega arith in
    looked_all _ _ _ _ (looking_next _ _ _ _ c.loop-i.invariant _ more c.stretch_end-to.ensures c.if-to-from-gt8.false) (omega arith)
