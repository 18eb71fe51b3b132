-- The promise of each public function, said once: the function's `ensures` and `Unique` (crates/audit) cite it by name.
-- Its arguments are the function's own, in their order, what is lent by what it holds at entry; then the result r.
use Rattle.std.specs.Prelude.{ℕ, min, ◌≡◌, Bool, List, Result}
use Rattle.metrics.specs.declared.refusals.Refusal.{Refusal}
use Rattle.metrics.specs.Refusals.{told}
use Rattle.metrics.specs.Letters.{entry_count}
use Rattle.params.specs.declared.Settings.{Settings}
use Rattle.params.specs.declared.Table.{Table}
use Rattle.params.specs.declared.Parts.{Parts}
use Rattle.params.specs.Held.{table_held, parts_held}
use Rattle.params.specs.Numbers.{call_of, search_mode, first_of, settings_rules, parts_rules, first_fault, chain_count_fault}
use Rattle.params.specs.Several.{several_fault}
use Rattle.params.specs.TableOrder.{earlier_of, first_in_table}

abbrev pub SearchModePromise : Settings → ℕ → Bool → Type 0
SearchModePromise s v r = r ≡ search_mode s v

abbrev pub SettingsFaultPromise : Settings → Result Unit Refusal → Type 0
SettingsFaultPromise s r = told r ≡ first_of (settings_rules s)

abbrev pub QueueRoomPromise : ℕ → ℕ → ℕ → Type 0
QueueRoomPromise links keys r = r ≡ min links keys

abbrev pub CallFaultPromise : Settings → Table → Parts → ℕ → ℕ → Result Unit Refusal → Type 0
CallFaultPromise s table parts queue_room answer_room r =
    told r ≡ first_fault (call_of s (table_held table) (parts_held parts) queue_room answer_room)

abbrev pub CountFaultPromise : List ℕ → List ℕ → ℕ → Result Unit Refusal → Type 0
CountFaultPromise starts ends cap r = told r ≡ chain_count_fault cap starts ends

abbrev pub PartsFaultPromise : ℕ → Parts → Result Unit Refusal → Type 0
PartsFaultPromise k parts r = told r ≡ first_of (parts_rules (entry_count k) (parts_held parts))

abbrev pub SeveralFaultPromise : Settings → Table → List ℕ → List ℕ → Parts → ℕ → ℕ → ℕ → Result Unit Refusal → Type 0
SeveralFaultPromise s table part_ends feature_ends parts queue_room answer_room report_room r =
    told r ≡ several_fault (record {
      settings = s;
      table = table_held table;
      parts = parts_held parts;
      part_ends = part_ends;
      feature_ends = feature_ends;
      queue_room = queue_room;
      answer_room = answer_room;
      report_room = report_room;
    })

abbrev pub EarlierPromise : ℕ → ℕ → ℕ → Type 0
EarlierPromise other own r = r ≡ earlier_of other own

abbrev pub FirstInTablePromise : Result Unit Refusal → Result Unit Refusal → Result Unit Refusal → Type 0
FirstInTablePromise other own r = told r ≡ first_in_table (told other) (told own)
