-- Document 02, P11: which calls are refused by 16, by the entries themselves, and which letters give such a row, by either of P6's readings. An accepted call is one with the number 0.
use Rattle.std.specs.Prelude.{ℕ, ◌+◌, ◌*◌, ◌^◌, ◌≤◌, ◌<◌, ◌≡◌, Bool, List, [], ◌∷◌, ◌++◌, ltb, eqb, pos, length, get_or}
use Rattle.metrics.specs.Letters.{read_by, windows_reading, counts_of, counts_by}
use Rattle.params.specs.Numbers.{Call, Rule, rule, first_of, bad_size, bad_row, all_zero, settings_rules, length_rules, bound_rules, first_fault}

-- every entry of variant r's row is 0
abbrev pub Empty : Call → ℕ → Type 0
Empty c r = (i : ℕ) → i < 4 ^ c.settings.k → get_or c.table.features (r * 4 ^ c.settings.k + i) (pos 0) ≡ pos 0

-- the rows of the table of refusals before 16: 1 to 10
abbrev pub up_to_ten : Call → List Rule
up_to_ten c =
    let e = 4 ^ c.settings.k in
    settings_rules c.settings
    ++ (length_rules e c.table c.parts
    ++ (bound_rules c.table.starts c.table.ends
    ++ (rule 9 (bad_size c.table.sizes)
    ∷ (rule 9 (bad_size c.parts.sizes)
    ∷ (rule 10 (bad_row e (length c.table.starts) c.table.features)
    ∷ (rule 10 (bad_row e (length c.parts.sizes) c.parts.features)
    ∷ []))))))

pub record EmptyRows : Type 0 where
  -- 16 is given only where a variant's row is all zero, whatever the parts' rows are,
  pub sixteen_empty : (c : Call) → first_fault c ≡ 16 → (r : ℕ) × (r < length c.table.starts) × Empty c r
  -- and always there, in every mode, where none of 1 to 10 is given
  pub empty_sixteen : (c : Call) → first_of (up_to_ten c) ≡ 0 → (r : ℕ) → r < length c.table.starts → Empty c r → first_fault c ≡ 16
  -- so an accepted call has no such variant
  pub none_empty : (c : Call) → first_fault c ≡ 0 → (r : ℕ) → r < length c.table.starts → Empty c r → ⊥
  -- a row counted by document 01's reading is all zero exactly where there are fewer letters than k,
  pub short : (k : ℕ) (negative : Bool) (letters : List ℕ) → 1 ≤ k → all_zero (counts_of k negative letters) ≡ ltb (length letters) k
  -- and by any reading exactly where no window is kept
  pub none_kept : (reading k : ℕ) (negative : Bool) (letters : List ℕ)
      → all_zero (counts_by reading k negative letters) ≡ eqb (length (windows_reading (read_by reading) k letters)) 0
