-- The haplotypes written and those still to write are the whole; letters and room suffice for each because they do for the whole.
use native.Mathlib.Omega.{arith}
use mathlib.Core.Path.{refl, sym, ◌∙◌}
use Prim.Native.Nat.{◌+◌, ◌≤◌, zero-le}
use lib.ListN.{length}
use Rattle.writer.proofs.CutLaws.{ordered_at}
use Rattle.writer.proofs.StretchLaws.{haplotypes_more, turn_room, turn_fit, last_fit, last_put}
use Rattle.writer.proofs.write_haplotypes.Goals.{After-write_parts-done}
use Rattle.writer.proofs.write_haplotypes.Goals as goal

-- the next haplotype's record fits behind the parts
room : (c : After-write_parts-done) → c.write_parts-done.result.at + 1 ≤ length c.args.out.now
room c =
    let t = turn_room _ _ _ _ _ _ _ _ c.requires c.loop-place.a c.loop-place.p c.loop-place.r c.loop-place.place-index
    c.loop-place.invariant.1 c.loop-place.invariant.2 c.loop-place.invariant.3 c.loop-place-test.true in
    omega (arith, t, c.write_parts-done.ensures.rows.next)

pub loop-place-init : goal.loop-place-init
loop-place-init c = (refl, refl, c.requires.letters_are, c.requires.breaks_are, zero-le, refl)

pub write_parts-done-requires : goal.write_parts-done-requires
write_parts-done-requires c =
    turn_fit _ _ _ _ _ _ _ _ c.requires c.loop-place.a c.loop-place.p c.loop-place.r c.loop-place.place-index c.loop-place.invariant.1 c.loop-place.invariant.2 c.loop-place.invariant.3
    c.loop-place-test.true _ c.loop-place.invariant.5

pub put_u8-requires : goal.put_u8-requires
put_u8-requires c = omega (arith, room (goal.at.put_u8-requires c).After-write_parts-done, c.write_parts-done.auto.out, c.loop-place.invariant.5)

pub overflow_add-a : goal.overflow_add-a
overflow_add-a c = omega (arith, room (goal.at.overflow_add-a c).After-write_parts-done, c.well_formed)

pub loop-place-preserved : goal.loop-place-preserved
loop-place-preserved c =
    let o = ordered_at _ _ c.args.breaks.now c.loop-place.place-index c.loop-place-test.true c.loop-place.invariant.3 in
    let m = haplotypes_more c.args.sizes.now _ _ _ c.args.breaks.now c.loop-place.place-index c.loop-place.r c.loop-place.p c.loop-place-test.true c.requires.counts_are
    c.loop-place.invariant.3 c.write_parts-done.result.letter (c.loop-place.invariant.2 ∙ sym c.write_parts-done.ensures.letter) _ _ _ _ _ c.write_parts-done.ensures.rows c.put_u8.ensures in (
      m.0 ∙ c.loop-place.invariant.0,
      m.1 ∙ c.loop-place.invariant.1,
      c.write_parts-done.ensures.letter,
      o.rest,
      o.end_in,
      c.put_u8.auto.out ∙ c.write_parts-done.auto.out ∙ c.loop-place.invariant.5,
    )

pub write_parts-last-requires : goal.write_parts-last-requires
write_parts-last-requires c =
    last_fit _ _ _ _ _ _ _ _ c.requires c.loop-place.a c.loop-place.p c.loop-place.r c.loop-place.place-index c.loop-place.invariant.1 c.loop-place.invariant.2 c.loop-place.invariant.3
    c.loop-place-test.false c.loop-place.invariant.4 _ c.loop-place.invariant.5

pub shape_of-out : goal.shape_of-out
shape_of-out c = c.write_parts-last.auto.out ∙ c.loop-place.invariant.5

pub returns : goal.returns
returns c =
    last_put _ _ _ _ _ _ _ _ _ c.loop-place.place-index c.loop-place.r c.loop-place.p _ _ _ c.loop-place-test.false c.loop-place.invariant.0 c.loop-place.invariant.1 c.write_parts-last.ensures.rows
