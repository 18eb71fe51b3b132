-- Each field is stored in row v of its slice; together they are the part that the body says.
use mathlib.Core.Path.{◌∙◌}
use mir.Syntax.{w32}
use mir.ValLaws.{to_z-of_z}
use Rattle.reader.proofs.FillLaws.{part_put}
use Rattle.reader.specs.Steps.{part_rows}
use Rattle.reader.proofs.fill.put_part.Goals as goal

pub returns : goal.returns
returns c =
    let a = c.args in
    part_put (part_rows a.sizes.now a.negatives.now a.counts.now) a.v a.b.now c.store.ensures
    (to_z-of_z w32 _ (record { sfits = c.i32_of.type_inv }) ∙ c.i32_of.ensures) c.u32_at.ensures c.store-2.ensures c.store-3.ensures c.u32_at-2.ensures
