-- No byte passed is b.
use Rattle.std.proofs.Common.{arith, ◌≡◌, length}
use Rattle.bed.proofs.PartLaws.{up_is}
use Rattle.bed.proofs.parts.up_to.Goals as goal

pub returns-then-x-b : goal.returns-then-x-b
returns-then-x-b c = up_is c.args.b c.args.s.now _ (omega arith) c.loop-i.invariant (λ _. c.if-x-b.true)

pub returns : goal.returns
returns c =
    let same : c.loop-i.i ≡ length c.args.s.now = omega arith in
    up_is c.args.b c.args.s.now _ (omega arith) (rw same at c.loop-i.invariant) (λ l. absurd (omega arith))
