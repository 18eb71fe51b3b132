-- Up to an end's index none falls, and `before` is the end before it. Assumes nothing.
use mathlib.Core.Path.{refl}
use native.Mathlib.Omega.{arith}
use Rattle.params.proofs.CheckLaws.{any_none}
use Rattle.params.proofs.EndLaws.{falls_here, rises_here, none_falls}
use Rattle.params.proofs.several.bad_ends.Goals as goal

pub loop-end-init : goal.loop-end-init
loop-end-init c = (refl, any_none _)

pub returns-then-end-before : goal.returns-then-end-before
returns-then-end-before c = falls_here _ _ _ c.loop-end.invariant.0 (omega arith) c.if-end-before.true

pub loop-end-preserved : goal.loop-end-preserved
loop-end-preserved c =
    let l = c.loop-end in
    rises_here _ l.end-index l.invariant.0 c.if-end-before.false l.invariant.1

pub returns : goal.returns
returns c = let l = c.loop-end in none_falls _ _ l.end-index l.invariant.0 (omega arith) l.invariant.1
