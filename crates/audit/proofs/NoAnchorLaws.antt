-- Source and sink have zero features, whose similarity to any row is 0.0 (kplib, AnchorLaws): their turns leave the best as it is, so the walk may begin at node 1 and end at V.
use Prim.Native.Nat.{◌+◌, ◌^◌}
use native.Mathlib.Omega.{arith}
use native.Mathlib.Numerals.{add-one}
use mathlib.Core.Path.{◌≡◌, refl, sym}
use borrow.Author.Tests.{le-ltb}
use lib.ListN.{length}
use Rattle.params.specs.Numbers.{Table, Parts, Call, first_fault}
use Rattle.params.specs.Checked.{Checked}
use Rattle.params.proofs.CheckedLaws.{accepted}
use Rattle.kplib.specs.OneToOne.{anchor_total, node_total}
use Rattle.kplib.specs.Scoring.{Tables}
use Rattle.kplib.proofs.OneToOneLaws.{tables_of, anchor_low, rows_only}
use Rattle.audit.specs.NoAnchor.{NoAnchor, NoAnchorChosen}
use Rattle.params.specs.declared.Settings.{Settings}

module _ (c : Call) (zeroFault : first_fault c ≡ 0) where
  abbrev s : Settings
  s = c.settings

  abbrev t : Table
  t = c.table

  abbrev p : Parts
  p = c.parts

  checked : Checked s t p
  checked = accepted c zeroFault

  tables : Tables s t p
  tables = tables_of checked

  source_is : node_total (4 ^ s.k) t.sizes t.features 0 ≡ anchor_total (4 ^ s.k)
  unfolding node_total
  source_is = refl

  sink_is : node_total (4 ^ s.k) t.sizes t.features (length t.starts + 1) ≡ anchor_total (4 ^ s.k)
  unfolding node_total
  sink_is = rw (add-one (length t.starts), le-ltb (length t.starts) (length t.sizes) (omega (arith, checked.sizes_are)))

  no_anchor : NoAnchor s t p
  no_anchor =
      let low = anchor_low tables in
      record {
        source_none = rw source_is low;
        sink_none = rw sink_is low;
        variants_only = rw (← checked.sizes_are) (sym (rows_only tables));
      }

pub no_anchor_chosen : NoAnchorChosen
no_anchor_chosen = no_anchor
