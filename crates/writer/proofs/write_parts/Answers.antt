-- The rows written and those still to write are the whole; letters and room suffice for each because they do for the whole.
use native.Mathlib.Omega.{arith}
use mathlib.Core.Path.{◌≡◌, refl, sym, ap, ◌∙◌}
use Prim.Native.Nat.{ℕ, ◌+◌}
use lib.ListN.{length, drop}
use mir.Syntax.{w32}
use mir.ValLaws.{to_z-of_z}
use Rattle.form.specs.Lent.{sum}
use Rattle.writer.proofs.RowLaws.{parts_none, parts_more, Turn, parts_turn}
use Rattle.writer.proofs.HeadLaws.{rows_put}
use Rattle.writer.proofs.write_parts.Goals.{In-loop-r}
use Rattle.writer.proofs.write_parts.Goals as goal

-- letters and room suffice for the part
turn : (c : In-loop-r) → let a = c.args in Turn a.counts.now a.letters.now (length a.out.now) c.loop-r.a c.loop-r.p c.loop-r.r (length a.letters.now) 10
turn c =
    parts_turn _ _ _ _ _ _ _ _ _ c.loop-r.a c.loop-r.p c.loop-r.r c.requires c.loop-r-test.true c.loop-r.invariant.1 c.loop-r.invariant.2

pub loop-r-init : goal.loop-r-init
loop-r-init c = (refl, refl, c.requires.letters_are, refl)

pub offset_bounds-counts-r : goal.offset_bounds-counts-r
offset_bounds-counts-r c = omega (arith, c.requires.counts_are)

pub bounds-counts-r : goal.bounds-counts-r
bounds-counts-r c = omega (arith, c.requires.counts_are)

pub overflow_cast-stop : goal.overflow_cast-stop
overflow_cast-stop c = omega (arith, c.shared_slice_known-in-loop-r-1.given c.loop-r.r)

pub overflow_add-stop : goal.overflow_add-stop
overflow_add-stop c = omega (arith, (turn (goal.at.overflow_add-stop c).In-loop-r).letters_there)

pub offset_bounds-sizes-r : goal.offset_bounds-sizes-r
offset_bounds-sizes-r c = omega arith

pub bounds-sizes-r : goal.bounds-sizes-r
bounds-sizes-r c = omega arith

pub bounds-negatives-r : goal.bounds-negatives-r
bounds-negatives-r c = omega (arith, c.requires.negatives_are)

pub write_part-requires : goal.write_part-requires
write_part-requires c = omega (arith, (turn (goal.at.write_part-requires c).In-loop-r).room_there, c.loop-r.invariant.3)

pub overflow_add-a : goal.overflow_add-a
overflow_add-a c = omega (arith, (turn (goal.at.overflow_add-a c).In-loop-r).room_there)

pub write_sequence-a-requires : goal.write_sequence-a-requires
write_sequence-a-requires c = (
  (turn (goal.at.write_sequence-a-requires c).In-loop-r).letters_there,
  omega (
    arith,
    (turn (goal.at.write_sequence-a-requires c).In-loop-r).room_again,
    c.write_part.auto.out ∙
        c.loop-r.invariant.3,
  ),
)

pub loop-r-preserved : goal.loop-r-preserved
loop-r-preserved c =
    let t = turn (goal.at.loop-r-preserved c).In-loop-r in
    let m = parts_more c.args.sizes.now _ _ _ _ c.loop-r.r c.loop-r.p c.loop-r-test.true t.letters_there _ _ _ _ _ _
    (to_z-of_z w32 _ (record { sfits = c.write_part-arg-in-loop-r-1.given })) c.write_part.ensures c.write_sequence-a.ensures in (
      m.0 ∙ c.loop-r.invariant.0,
      m.1 ∙ c.loop-r.invariant.1,
      t.sums_are,
      c.write_sequence-a.auto.out ∙ c.write_part.auto.out ∙ c.loop-r.invariant.3,
    )

pub shape_of-out : goal.shape_of-out
shape_of-out c = c.loop-r.invariant.3

pub returns : goal.returns
returns c =
    let e : c.loop-r.r ≡ c.args.end = omega (arith, c.loop-r-test.false, c.requires.first_in) in record {
      rows = rows_put (parts_none _ _ _ _ _ c.loop-r.r c.loop-r.p c.loop-r-test.false) refl c.loop-r.invariant.0 c.loop-r.invariant.1;
      letter = ap (λ (r : ℕ). c.loop-r.p + sum (drop r c.args.counts.now)) (sym e) ∙ c.loop-r.invariant.2;
    }
