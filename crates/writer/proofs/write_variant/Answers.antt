-- The kind and the fields are stored one behind the other, and then what the edition has behind them.
use native.Mathlib.Omega.{arith}
use mir.Syntax.{w32}
use mir.ValLaws.{to_z-of_z}
use Rattle.writer.proofs.EditionLaws.{short_variant}
use Rattle.writer.proofs.HeadLaws.{variant_stored}
use Rattle.writer.proofs.write_variant.Goals as goal

pub write_body-requires : goal.write_body-requires
write_body-requires c =
    omega (arith, c.requires, (short_variant c.args.edition).0, c.put_u64-2.auto.out, c.put_u64.auto.out, c.put_u8.auto.out)

pub returns : goal.returns
returns c =
    variant_stored c.args.edition c.args.out.now _ _ _ _ _ _ _ _ _ _ _ _ _ _ c.variant_kind.ensures (to_z-of_z w32 _ c.ranges.size) c.put_u8.ensures
    c.put_u64.ensures c.put_u64-2.ensures c.write_body.ensures c.write_number.ensures
