-- A number below ten is its only digit; any other has the digits of its tenth before its last.
use native.Mathlib.Omega.{arith}
use Rattle.text.proofs.PieceLaws.{no_digit, only_digit, last_digit}
use Rattle.text.proofs.pieces.+put_digits.Goals as goal

pub returns-then-left-eq0 : goal.returns-then-left-eq0
returns-then-left-eq0 t c = no_digit c.args.out.now c.args.at c.args.n c.args.left c.if-left-eq0.true

pub returns-then-n-lt10 : goal.returns-then-n-lt10
returns-then-n-lt10 t c = only_digit c.args.n c.args.left (omega arith) c.if-n-lt10.true c.put_byte.ensures

pub returns : goal.returns
returns t c = last_digit c.args.n c.args.left (omega arith) (omega arith) c.put_digits-a.ensures c.put_byte-2.ensures
