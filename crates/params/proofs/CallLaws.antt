-- Where each group of a call's rows stands in the whole list: the groups before it have passed, and it finds a fault or is the last. Assumes nothing.
use mathlib.Core.Path.{◌≡◌, refl}
use Prim.Native.Nat.{ℕ, ◌^◌}
use mathlib.Core.List.{List, ◌++◌}
use lib.ListN.{length}
use Rattle.params.specs.Numbers.{Call, Rule, first_of, settings_rules, length_rules, bound_rules, limit_rules, room_rules, first_fault}
use Rattle.metrics.specs.Letters.{entry_count}
use Rattle.metrics.proofs.Entries.{power}
use Rattle.params.specs.declared.Settings.{Settings}
use Rattle.params.proofs.CheckLaws.{Passed, none_given, stops, goes_on}
use Rattle.params.proofs.CheckedLaws.{settled}

module _ (c : Call) where
  abbrev settings_rows : List Rule
  settings_rows = settings_rules c.settings

  abbrev length_rows : List Rule
  length_rows = length_rules (4 ^ c.settings.k) c.table c.parts

  abbrev bound_rows : List Rule
  bound_rows = bound_rules c.table.starts c.table.ends

  abbrev limit_rows : List Rule
  limit_rows = limit_rules (4 ^ c.settings.k) c.table c.parts

  abbrev room_rows : List Rule
  room_rows = room_rules c.settings (length c.table.starts) c.queue_room c.answer_room

  pub by_settings : (found : ℕ) → found ≡ first_of settings_rows → (found ≡ 0 → ⊥) → found ≡ first_fault c
  unfolding first_fault
  by_settings found e h = stops settings_rows (length_rows ++ (bound_rows ++ (limit_rows ++ room_rows))) found e h

  pub by_lengths : (found : ℕ) → Passed settings_rows → found ≡ first_of length_rows → (found ≡ 0 → ⊥) → found ≡ first_fault c
  unfolding first_fault
  by_lengths found a e h =
      goes_on settings_rows (length_rows ++ (bound_rows ++ (limit_rows ++ room_rows))) found a
      (stops length_rows (bound_rows ++ (limit_rows ++ room_rows)) found e h)

  pub by_bounds : (found : ℕ) → Passed settings_rows → Passed length_rows → found ≡ first_of bound_rows → (found ≡ 0 → ⊥) → found ≡ first_fault c
  unfolding first_fault
  by_bounds found a b e h =
      goes_on settings_rows (length_rows ++ (bound_rows ++ (limit_rows ++ room_rows))) found a
      (goes_on length_rows (bound_rows ++ (limit_rows ++ room_rows)) found b
      (stops bound_rows (limit_rows ++ room_rows) found e h))

  pub by_limits : (found : ℕ) → Passed settings_rows → Passed length_rows → Passed bound_rows → found ≡ first_of limit_rows → (found ≡ 0 → ⊥) → found ≡ first_fault c
  unfolding first_fault
  by_limits found a b d e h =
      goes_on settings_rows (length_rows ++ (bound_rows ++ (limit_rows ++ room_rows))) found a
      (goes_on length_rows (bound_rows ++ (limit_rows ++ room_rows)) found b
      (goes_on bound_rows (limit_rows ++ room_rows) found d
      (stops limit_rows room_rows found e h)))

  pub by_rooms : (found : ℕ) → Passed settings_rows → Passed length_rows → Passed bound_rows → Passed limit_rows → found ≡ first_of room_rows → found ≡ first_fault c
  unfolding first_fault
  by_rooms found a b d l e =
      goes_on settings_rows (length_rows ++ (bound_rows ++ (limit_rows ++ room_rows))) found a
      (goes_on length_rows (bound_rows ++ (limit_rows ++ room_rows)) found b
      (goes_on bound_rows (limit_rows ++ room_rows) found d
      (goes_on limit_rows room_rows found l e)))

-- where the settings pass, a row has 4 ^ k entries
pub row_width : (s : Settings) → first_of (settings_rules s) ≡ 0 → entry_count s.k ≡ 4 ^ s.k
row_width s e = power s.k (settled s (none_given (settings_rules s) refl e)).k_high
