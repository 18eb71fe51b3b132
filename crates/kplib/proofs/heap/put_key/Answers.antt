-- The hole begins behind the keys and goes up past greater ones.
use mathlib.Core.Path.{refl}
use native.Mathlib.Omega.{arith}
use lib.ListN.{length-set}
use Rattle.paths.proofs.HeapLaws.{open_end, go_up, fits_up, close}
use Rattle.kplib.proofs.heap.put_key.Goals as goal

pub loop-i-init : goal.loop-i-init
loop-i-init c =
    let o = open_end c.args.keys.now c.args.n c.args.key c.requires.0 c.requires.1 in
    (omega arith, refl, o.0, o.1)

pub returns-then-above-key : goal.returns-then-above-key
returns-then-above-key c = let l = c.loop-i in close l.invariant.2 (λ z. c.if-above-key.true) l.invariant.3

pub loop-i-preserved : goal.loop-i-preserved
loop-i-preserved c =
    let l = c.loop-i in
    (omega arith, simp length-set l.invariant.1, go_up l.invariant.2 (omega arith), fits_up l.invariant.2 (omega arith) c.if-above-key.false l.invariant.3)

pub returns : goal.returns
returns c = close c.loop-i.invariant.2 (λ z. absurd (omega arith)) c.loop-i.invariant.3
