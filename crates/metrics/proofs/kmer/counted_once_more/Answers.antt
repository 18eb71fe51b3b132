-- One more or one less stays within 32 bits.
use Rattle.std.proofs.Common.{pos, ◌+ℤ◌, ◌-ℤ◌, arith}
use lib.IntN.{+ℤ_one, -ℤ_one}
use Rattle.metrics.proofs.Ints.{small32, back32, add_le, apart_le}
use Rattle.metrics.proofs.kmer.counted_once_more.Goals as goal

pub overflow_sub-result : goal.overflow_sub-result
overflow_sub-result c =
    let x = c.args.x in
    rw (back32 x (omega arith)) (small32 (x -ℤ pos 1) (omega (arith, apart_le x (pos 1))))

pub overflow_add-result : goal.overflow_add-result
overflow_add-result c =
    let x = c.args.x in
    rw (back32 x (omega arith)) (small32 (x +ℤ pos 1) (omega (arith, add_le x (pos 1))))

pub returns-then-negative : goal.returns-then-negative
returns-then-negative c =
    let x = c.args.x in
    rw (back32 x (omega arith), back32 (x -ℤ pos 1) (omega (arith, apart_le x (pos 1))), c.if-negative.true) (-ℤ_one x)

pub returns-else-negative : goal.returns-else-negative
returns-else-negative c =
    let x = c.args.x in
    rw (back32 x (omega arith), back32 (x +ℤ pos 1) (omega (arith, add_le x (pos 1))), c.if-negative.false) (+ℤ_one x)
