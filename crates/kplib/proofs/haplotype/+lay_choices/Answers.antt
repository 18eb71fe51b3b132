-- The positions left fall. There is no list where too few are left, one where no more are asked for; else those that take p, then those that do not.
use native.Mathlib.Omega.{arith}
use Rattle.kplib.proofs.LayLaws.{size_ok, leaf_room, none_chosen, one_chosen, position_left, taking, leaving, both_chosen}
use Rattle.kplib.proofs.haplotype.+lay_choices.Goals as goal

pub returns-then-sizes-next : goal.returns-then-sizes-next
returns-then-sizes-next t c = none_chosen c.requires c.if-sizes-next.true

pub bounds-codes-at : goal.bounds-codes-at
bounds-codes-at t c = (leaf_room c.requires c.if-n-eq0.true).0

pub bounds-totals-at : goal.bounds-totals-at
bounds-totals-at t c = (leaf_room c.requires c.if-n-eq0.true).1

pub returns-then-n-eq0 : goal.returns-then-n-eq0
returns-then-n-eq0 t c = one_chosen c.requires c.if-n-eq0.true

pub plus_part-requires : goal.plus_part-requires
plus_part-requires t c = (size_ok c.requires, omega arith, c.requires.sized)

pub lay_choices-mid-requires : goal.lay_choices-mid-requires
lay_choices-mid-requires t c = (
  omega (arith, c.decreases, position_left c.requires c.if-sizes-next.false c.if-n-eq0.false),
  taking c.requires c.if-sizes-next.false c.if-n-eq0.false c.plus_part.ensures,
)

pub lay_choices-requires : goal.lay_choices-requires
lay_choices-requires t c = (
  omega (arith, c.decreases, position_left c.requires c.if-sizes-next.false c.if-n-eq0.false),
  leaving c.requires c.if-sizes-next.false c.if-n-eq0.false c.lay_choices-mid.ensures c.lay_choices-mid.auto.codes c.lay_choices-mid.auto.totals,
)

pub returns : goal.returns
returns t c =
    both_chosen c.requires c.if-sizes-next.false c.if-n-eq0.false c.lay_choices-mid.ensures c.lay_choices-mid.auto.codes c.lay_choices-mid.auto.totals
    c.lay_choices.ensures
