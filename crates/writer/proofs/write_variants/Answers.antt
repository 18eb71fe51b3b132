-- The rows written and those still to write are the whole; letters and room suffice for each because they do for the whole.
use native.Mathlib.Omega.{arith}
use mathlib.Core.Path.{refl, ◌∙◌}
use native.Mathlib.Nat.{zero-add}
use lib.ListN.{length}
use mir.Syntax.{w32}
use mir.ValLaws.{to_z-of_z}
use Rattle.form.specs.Lent.{sum}
use Rattle.writer.proofs.RowLaws.{variants_whole, variants_none, variants_more, Turn, variants_turn}
use Rattle.writer.proofs.HeadLaws.{rows_put, sum_done}
use Rattle.writer.proofs.write_variants.Goals.{In-loop-r}
use Rattle.writer.proofs.write_variants.Goals as goal

-- letters and room suffice for the row
turn : (c : In-loop-r) → let a = c.args in Turn a.counts.now a.letters.now (length a.out.now) c.loop-r.a c.loop-r.p c.loop-r.r (sum a.counts.now) c.variant_size-head.result
turn c =
    variants_turn _ _ _ _ _ _ _ _ _ _ c.loop-r.a c.loop-r.p c.loop-r.r _ c.variant_size-head.ensures c.requires c.loop-r-test.true c.loop-r.invariant.1 c.loop-r.invariant.2

pub loop-r-init : goal.loop-r-init
loop-r-init c = (refl, refl, zero-add _, refl)

pub offset_bounds-counts-r : goal.offset_bounds-counts-r
offset_bounds-counts-r c = omega (arith, c.requires.counts_are)

pub bounds-counts-r : goal.bounds-counts-r
bounds-counts-r c = omega (arith, c.requires.counts_are)

pub overflow_cast-end : goal.overflow_cast-end
overflow_cast-end c = omega (arith, c.shared_slice_known-in-loop-r-1.given c.loop-r.r)

pub overflow_add-end : goal.overflow_add-end
overflow_add-end c = omega (arith, (turn (goal.at.overflow_add-end c).In-loop-r).letters_there)

pub offset_bounds-starts-r : goal.offset_bounds-starts-r
offset_bounds-starts-r c = omega arith

pub bounds-starts-r : goal.bounds-starts-r
bounds-starts-r c = omega arith

pub offset_bounds-ends-r : goal.offset_bounds-ends-r
offset_bounds-ends-r c = omega (arith, c.requires.ends_are)

pub bounds-ends-r : goal.bounds-ends-r
bounds-ends-r c = omega (arith, c.requires.ends_are)

pub offset_bounds-sizes-r : goal.offset_bounds-sizes-r
offset_bounds-sizes-r c = omega (arith, c.requires.sizes_are)

pub bounds-sizes-r : goal.bounds-sizes-r
bounds-sizes-r c = omega (arith, c.requires.sizes_are)

pub bounds-negatives-r : goal.bounds-negatives-r
bounds-negatives-r c = omega (arith, c.requires.negatives_are)

pub write_variant-requires : goal.write_variant-requires
write_variant-requires c =
    omega (arith, (turn (goal.at.write_variant-requires c).In-loop-r).room_there, c.variant_size-head.ensures, c.loop-r.invariant.3)

pub overflow_add-a : goal.overflow_add-a
overflow_add-a c = omega (arith, (turn (goal.at.overflow_add-a c).In-loop-r).room_there)

pub write_sequence-a-requires : goal.write_sequence-a-requires
write_sequence-a-requires c = (
  (turn (goal.at.write_sequence-a-requires c).In-loop-r).letters_there,
  omega (
    arith,
    (turn (goal.at.write_sequence-a-requires c).In-loop-r).room_again,
    c.write_variant.auto.out ∙
        c.loop-r.invariant.3,
  ),
)

pub loop-r-preserved : goal.loop-r-preserved
loop-r-preserved c =
    let t = turn (goal.at.loop-r-preserved c).In-loop-r in
    let m = variants_more _ _ _ _ c.args.sizes.now _ _ _ c.loop-r.r c.loop-r.p c.loop-r-test.true t.letters_there _ _ _ _ _ _ _ _
    c.number_at-number.ensures c.variant_size-head.ensures (to_z-of_z w32 _ (record { sfits = c.write_variant-arg-in-loop-r-1.given })) c.write_variant.ensures
    c.write_sequence-a.ensures in (
      m.0 ∙ c.loop-r.invariant.0,
      m.1 ∙ c.loop-r.invariant.1,
      t.sums_are,
      c.write_sequence-a.auto.out ∙ c.write_variant.auto.out ∙ c.loop-r.invariant.3,
    )

pub shape_of-out : goal.shape_of-out
shape_of-out c = c.loop-r.invariant.3

pub returns : goal.returns
returns c =
    record {
      rows = rows_put (variants_none _ _ _ _ _ _ _ _ c.loop-r.r c.loop-r.p c.loop-r-test.false) (variants_whole _ _ _ _ _ _ _ _) c.loop-r.invariant.0 c.loop-r.invariant.1;
      letter = sum_done c.args.counts.now _ c.loop-r.r _ (omega (arith, c.loop-r-test.false, c.requires.counts_are)) c.loop-r.invariant.2;
    }
