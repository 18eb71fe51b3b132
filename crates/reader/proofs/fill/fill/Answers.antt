-- What is stored and what the rest will add is the whole, of variants, parts, breaks and letters alike; a record adds at most one row, and no more
-- letters than its body has bytes, so all four stay below the position.
use native.Mathlib.Omega.{arith}
use Prim.Native.Nat.{ℕ, ◌+◌, zero-le}
use mathlib.Core.Path.{◌≡◌, refl, sym, ◌∙◌}
use mathlib.Core.List.{List}
use lib.ListN.{length, set, length-set}
use Rattle.reader.proofs.FillLaws.{put_more, put_done, stays}
use Rattle.reader.proofs.WalkLaws.{walk_more, walk_done, breaks_more, breaks_done}
use Rattle.form.specs.Form.{body_len}
use Rattle.form.proofs.FormLaws.{record_next}
use Rattle.reader.specs.Steps.{Rows, rows, put_row, PartRows, part_rows, put_part, stores}
use Rattle.form.specs.Job.{Variant, Part, variant_here, part_here, gather}
use Rattle.form.specs.Steps.{letters_walk, breaks_walk}
use Rattle.reader.proofs.fill.fill.Goals.{After-letters_owed-left, After-loop-at}
use Rattle.reader.proofs.fill.fill.Goals as goal

pub loop-at-init : goal.loop-at-init
loop-at-init c = (refl, (refl, (refl, (refl, (zero-le, (zero-le, (zero-le, zero-le)))))))

pub overflow_add-b : goal.overflow_add-b
overflow_add-b c = omega arith

pub slice_bounds-b-count : goal.slice_bounds-b-count
slice_bounds-b-count c = omega arith

pub slice_bounds-b-start : goal.slice_bounds-b-start
slice_bounds-b-start c = omega arith

pub slice_bounds-b-end : goal.slice_bounds-b-end
slice_bounds-b-end c = omega arith

pub fill_variant-v-requires : goal.fill_variant-v-requires
fill_variant-v-requires c = omega arith

pub fill_break-n-requires : goal.fill_break-n-requires
fill_break-n-requires c =
    omega (arith, c.loop-at.invariant.1.1.1.1.1.1.0, c.loop-at-test.true, c.well_formed.0)

pub fill_part-p-requires : goal.fill_part-p-requires
fill_part-p-requires c =
    omega (arith, c.loop-at.invariant.1.1.1.1.1.0, c.loop-at-test.true, c.well_formed.0)

pub fill_letters-l-requires : goal.fill_letters-l-requires
fill_letters-l-requires c =
    omega (arith, c.loop-at.invariant.1.1.1.1.1.1.1, c.loop-at-test.true, c.well_formed.0)

-- the next record stands behind this one
on : (c : After-letters_owed-left) → c.record_at-here.result.next ≡ c.loop-at.at + 1 + body_len c.record_at-here.result.kind
on c = record_next c.args.s.now _ c.loop-at-test.true _ c.record_at-here.ensures

pub loop-at-smaller : goal.loop-at-smaller
loop-at-smaller c = omega (arith, c.loop-at-test.true, on (goal.at.loop-at-smaller c).After-letters_owed-left)

pub loop-at-preserved : goal.loop-at-preserved
loop-at-preserved c =
    let s = c.args.s.now in let is = c.record_at-here.ensures in let below = c.loop-at.invariant.1.1.1.1 in (
      put_more put_row variant_here s c.loop-at.at c.loop-at-test.true _ is ((rows c.loop-at.starts c.loop-at.ends c.loop-at.sizes c.loop-at.negatives c.loop-at.counts)) _ _ _
          c.fill_variant-v.ensures.is c.fill_variant-v.ensures.next ∙ c.loop-at.invariant.0,
      (
        put_more put_part part_here s c.loop-at.at c.loop-at-test.true _ is ((part_rows c.loop-at.part_sizes c.loop-at.part_negatives c.loop-at.part_counts)) _ _ _
            c.fill_part-p.ensures.is c.fill_part-p.ensures.next ∙ c.loop-at.invariant.1.0,
        (
          breaks_more s c.loop-at.at c.loop-at-test.true _ is c.loop-at.breaks _ _ _ c.loop-at.p _ c.fill_break-n.ensures.is c.fill_break-n.ensures.next c.fill_part-p.ensures.next
              ∙ c.loop-at.invariant.1.1.0,
          (
            walk_more s c.loop-at.at c.loop-at-test.true _ is c.loop-at.letters _ _ _ c.loop-at.left _ c.letters_owed-left.ensures c.fill_letters-l.ensures.next.0 c.fill_letters-l.ensures.is
                ∙ c.loop-at.invariant.1.1.1.0,
            (
              omega (arith, c.fill_variant-v.ensures.one, below.0, on (goal.at.loop-at-preserved c).After-letters_owed-left),
              (
                omega (arith, c.fill_part-p.ensures.one, below.1.0, on (goal.at.loop-at-preserved c).After-letters_owed-left),
                (
                  omega (arith, c.fill_break-n.ensures.one, below.1.1.0, on (goal.at.loop-at-preserved c).After-letters_owed-left),
                  omega
                      (arith, c.fill_letters-l.ensures.next.1, on (goal.at.loop-at-preserved c).After-letters_owed-left, below.1.1.1),
                ),
              ),
            ),
          ),
        ),
      ),
    )

-- what the slices hold once the walk is over
module _ (c : After-loop-at) where
  rows_done : rows c.loop-at.starts c.loop-at.ends c.loop-at.sizes c.loop-at.negatives c.loop-at.counts
      ≡ stores put_row (rows c.args.starts.now c.args.ends.now c.args.sizes.now c.args.negatives.now c.args.counts.now) 0
      (gather variant_here c.args.s.now 0)
  rows_done =
      sym (put_done put_row variant_here _ c.loop-at.at (rows c.loop-at.starts c.loop-at.ends c.loop-at.sizes c.loop-at.negatives c.loop-at.counts) c.loop-at.v c.loop-at-test.false)
      ∙ c.loop-at.invariant.0

  parts_done : part_rows c.loop-at.part_sizes c.loop-at.part_negatives c.loop-at.part_counts
      ≡ stores put_part (part_rows c.args.part_sizes.now c.args.part_negatives.now c.args.part_counts.now) 0
      (gather part_here c.args.s.now 0)
  parts_done =
      sym (put_done put_part part_here _ c.loop-at.at (part_rows c.loop-at.part_sizes c.loop-at.part_negatives c.loop-at.part_counts) c.loop-at.p c.loop-at-test.false)
      ∙ c.loop-at.invariant.1.0

  breaks_stored : c.loop-at.breaks ≡ stores set c.args.breaks.now 0 (breaks_walk c.args.s.now 0 0)
  breaks_stored = sym (breaks_done _ c.loop-at.at c.loop-at.breaks c.loop-at.n c.loop-at.p c.loop-at-test.false) ∙ c.loop-at.invariant.1.1.0

  letters_done : c.loop-at.letters ≡ stores set c.args.letters.now 0 (letters_walk c.args.s.now 0 0)
  letters_done = sym (walk_done _ c.loop-at.at c.loop-at.letters c.loop-at.l c.loop-at.left c.loop-at-test.false) ∙ c.loop-at.invariant.1.1.1.0

pub shape_of-starts : goal.shape_of-starts
shape_of-starts c = stays put_row (λ (t : Rows). length t.starts) (λ (t : Rows) (v : ℕ) (x : Variant). length-set t.starts v x.start) _ _ _ (rows_done (goal.at.shape_of-starts c).After-loop-at)

pub shape_of-ends : goal.shape_of-ends
shape_of-ends c = stays put_row (λ (t : Rows). length t.ends) (λ (t : Rows) (v : ℕ) (x : Variant). length-set t.ends v x.end) _ _ _ (rows_done (goal.at.shape_of-ends c).After-loop-at)

pub shape_of-sizes : goal.shape_of-sizes
shape_of-sizes c = stays put_row (λ (t : Rows). length t.sizes) (λ (t : Rows) (v : ℕ) (x : Variant). length-set t.sizes v x.size) _ _ _ (rows_done (goal.at.shape_of-sizes c).After-loop-at)

pub shape_of-negatives : goal.shape_of-negatives
shape_of-negatives c = stays put_row (λ (t : Rows). length t.negatives) (λ (t : Rows) (v : ℕ) (x : Variant). length-set t.negatives v x.negative) _ _ _
    (rows_done (goal.at.shape_of-negatives c).After-loop-at)

pub shape_of-counts : goal.shape_of-counts
shape_of-counts c = stays put_row (λ (t : Rows). length t.counts) (λ (t : Rows) (v : ℕ) (x : Variant). length-set t.counts v (length x.letters)) _ _ _
    (rows_done (goal.at.shape_of-counts c).After-loop-at)

pub shape_of-part_sizes : goal.shape_of-part_sizes
shape_of-part_sizes c = stays put_part (λ (t : PartRows). length t.sizes) (λ (t : PartRows) (v : ℕ) (x : Part). length-set t.sizes v x.size) _ _ _
    (parts_done (goal.at.shape_of-part_sizes c).After-loop-at)

pub shape_of-part_negatives : goal.shape_of-part_negatives
shape_of-part_negatives c = stays put_part (λ (t : PartRows). length t.negatives) (λ (t : PartRows) (v : ℕ) (x : Part). length-set t.negatives v x.negative) _ _ _
    (parts_done (goal.at.shape_of-part_negatives c).After-loop-at)

pub shape_of-part_counts : goal.shape_of-part_counts
shape_of-part_counts c = stays put_part (λ (t : PartRows). length t.counts) (λ (t : PartRows) (v : ℕ) (x : Part). length-set t.counts v (length x.letters)) _ _ _
    (parts_done (goal.at.shape_of-part_counts c).After-loop-at)

pub shape_of-breaks : goal.shape_of-breaks
shape_of-breaks c = stays set (λ (t : List ℕ). length t) (λ (t : List ℕ) (v x : ℕ). length-set t v x) _ _ _ (breaks_stored (goal.at.shape_of-breaks c).After-loop-at)

pub shape_of-letters : goal.shape_of-letters
shape_of-letters c = stays set (λ (t : List ℕ). length t) (λ (t : List ℕ) (v x : ℕ). length-set t v x) _ _ _ (letters_done (goal.at.shape_of-letters c).After-loop-at)

pub returns : goal.returns
returns c =
    let q = (goal.at.returns c).After-loop-at in
    record { variants = rows_done q; parts = parts_done q; begins = breaks_stored q; sequence = letters_done q }
