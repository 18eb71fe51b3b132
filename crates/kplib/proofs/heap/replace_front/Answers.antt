-- The hole begins at the front and goes down past smaller keys.
use mathlib.Core.Path.{refl}
use native.Mathlib.Omega.{arith}
use lib.ListN.{length-set}
use Rattle.paths.proofs.HeapLaws.{open_front, go_down, fits_down, close, none_below, fits_least}
use Rattle.kplib.proofs.heap.replace_front.Goals as goal

pub loop-i-init : goal.loop-i-init
loop-i-init c =
    let o = open_front c.args.keys.now c.args.n c.args.key c.requires.0 c.requires.1 c.requires.2 in
    (omega arith, refl, o.0, o.1)

pub returns-then-key-below : goal.returns-then-key-below
returns-then-key-below c =
    let l = c.loop-i in
    close l.invariant.2 l.invariant.3 (fits_least c.least_below-c.ensures c.if-key-below.true)

pub loop-i-preserved : goal.loop-i-preserved
loop-i-preserved c =
    let l = c.loop-i in
    let q = c.least_below-c.ensures in
    (q.within, simp length-set l.invariant.1, go_down l.invariant.2 _ q, fits_down l.invariant.2 _ q c.if-key-below.false)

pub returns : goal.returns
returns c = close c.loop-i.invariant.2 c.loop-i.invariant.3 (none_below c.loop-i.keys _ c.loop-i.i _ (omega arith))
