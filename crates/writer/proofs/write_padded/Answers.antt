-- What is stored and what the rest will store is the padded body.
use native.Mathlib.Omega.{arith}
use mathlib.Core.Path.{refl, sym, ◌∙◌}
use Prim.Native.Nat.{◌+◌}
use lib.ListN.{length-set}
use Rattle.writer.proofs.WriteLaws.{pad_start, pad_more, pad_done}
use Rattle.writer.proofs.write_padded.Goals as goal

pub loop-j-init : goal.loop-j-init
loop-j-init c = let a = c.args in (pad_start a.letters.now a.end a.from a.at a.out.now, refl)

pub overflow_add-from : goal.overflow_add-from
overflow_add-from c = omega arith

pub overflow_add-out : goal.overflow_add-out
overflow_add-out c = omega arith

pub bounds-out-at : goal.bounds-out-at
bounds-out-at c = omega arith

pub loop-j-preserved : goal.loop-j-preserved
loop-j-preserved c =
    let a = c.args in (
      pad_more a.letters.now a.end a.from a.at c.loop-j.out c.loop-j.j _ c.loop-j-test.true c.letter_or_zero.ensures ∙ c.loop-j.invariant.0,
      length-set c.loop-j.out (a.at + c.loop-j.j) c.letter_or_zero.result ∙ c.loop-j.invariant.1,
    )

pub shape_of-out : goal.shape_of-out
shape_of-out c = c.loop-j.invariant.1

pub returns : goal.returns
returns c =
    let a = c.args in
    sym (pad_done a.letters.now a.end a.from a.at c.loop-j.out c.loop-j.j c.loop-j-test.false) ∙ c.loop-j.invariant.0
