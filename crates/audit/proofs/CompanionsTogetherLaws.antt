-- The sheet is the one worked out afresh from the rows present, and each entry of that one is the graph's edge.
use native.Mathlib.Omega.{arith}
use mathlib.Core.Path.{sym, ap, ◌∙◌}
use mathlib.Core.Bool.{Bool}
use mathlib.Core.List.{List}
use Rattle.paths.proofs.BooleanLaws.{and_true}
use Rattle.companions.specs.Companions.{Companions, companion, sheet_flag}
use Rattle.companions.specs.Sheets.{Sound}
use Rattle.companions.proofs.SheetLaws.{sheet_entry, there}
use Rattle.companions.proofs.TableLaws.{table_within, sound_table}
use Rattle.companions.proofs.KeptLaws.{companions_kept}
use Rattle.kplib.specs.Graph.{edge}
use Rattle.kplib.specs.GraphWalk.{Together}
use Rattle.audit.specs.CompanionsTogether.{present_starts, present_ends, CompanionsAreTogether}

pairs : (c : Companions) → Sound c → Together (edge (present_starts c) (present_ends c)) c.rows c.sheet
unfolding edge
pairs c own r s h l =
    let few = table_within c.rows c.starts c.ends (sound_table c own) in
    ap (λ (t : List Bool). sheet_flag t r s) (companions_kept.afresh c own)
    ∙ sheet_entry (companion (present_starts c) (present_ends c) c.rows) r s (omega arith) (omega arith)
    ∙ there (present_starts c) (present_ends c) c.rows r s h l

pub companions_are_together : CompanionsAreTogether
companions_are_together = record {
  a_table_of_pairs = pairs;
  same_flags = λ c own together t r s h l. pairs c own r s h l ∙ sym (t r s h l);
  may_follow = λ c own r s h l. and_true (edge (present_starts c) (present_ends c) r s) ∙ sym (pairs c own r s h l);
}
