-- Each field is stored in row v of its slice; together they are the variant that the body says.
use mathlib.Core.Path.{◌∙◌}
use mir.Syntax.{w32}
use mir.ValLaws.{to_z-of_z}
use Rattle.reader.proofs.FillLaws.{variant_put}
use Rattle.reader.specs.Steps.{rows}
use Rattle.reader.proofs.fill.put_variant.Goals as goal

pub returns : goal.returns
returns c =
    let a = c.args in
    variant_put (rows a.starts.now a.ends.now a.sizes.now a.negatives.now a.counts.now) a.v a.b.now c.store.ensures
    c.u64_at.ensures c.store-2.ensures c.u64_at-2.ensures c.store-3.ensures (to_z-of_z w32 _ (record { sfits = c.i32_of.type_inv }) ∙ c.i32_of.ensures)
    c.u32_at.ensures c.store-4.ensures c.store-5.ensures c.u32_at-2.ensures
