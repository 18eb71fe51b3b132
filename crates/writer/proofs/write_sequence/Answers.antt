-- The records written and those still to write are the sequence's.
use native.Mathlib.Omega.{arith}
use mathlib.Core.Path.{refl, sym, ap, ◌∙◌}
use lib.Seq.{sets}
use Rattle.writer.proofs.WriteLaws.{records_more, records_none, records_fewer, sequence_put}
use Rattle.writer.proofs.write_sequence.Goals as goal

pub loop-p-init : goal.loop-p-init
loop-p-init c = (refl, refl, refl)

pub write_letters-requires : goal.write_letters-requires
write_letters-requires c =
    let a = c.args in (
      c.requires.0,
      (c.loop-p-test.true, omega (arith, records_fewer a.letters.now a.end c.loop-p.p c.loop-p-test.true, c.loop-p.invariant.1, c.loop-p.invariant.2, c.requires.1)),
    )

pub overflow_add-a : goal.overflow_add-a
overflow_add-a c =
    let a = c.args in
    omega (arith, records_fewer a.letters.now a.end c.loop-p.p c.loop-p-test.true, c.loop-p.invariant.1, c.requires.1)

pub overflow_add-p : goal.overflow_add-p
overflow_add-p c = omega arith

pub loop-p-smaller : goal.loop-p-smaller
loop-p-smaller c = omega arith

pub loop-p-preserved : goal.loop-p-preserved
loop-p-preserved c =
    let a = c.args in (
      records_more a.letters.now a.end c.loop-p.out _ c.loop-p.a c.loop-p.p c.loop-p-test.true c.write_letters.ensures ∙ c.loop-p.invariant.0,
      omega (arith, records_fewer a.letters.now a.end c.loop-p.p c.loop-p-test.true, c.loop-p.invariant.1),
      c.write_letters.auto.out ∙ c.loop-p.invariant.2,
    )

pub shape_of-out : goal.shape_of-out
shape_of-out c = c.loop-p.invariant.2

pub returns : goal.returns
returns c =
    let a = c.args in
    let e = records_none a.letters.now a.end c.loop-p.p c.loop-p-test.false in
    sequence_put a.letters.now a.end a.from a.at _ a.out.now _ c.requires.0 (ap (sets c.loop-p.out c.loop-p.a) (sym e) ∙ c.loop-p.invariant.0)
    (omega arith)
