-- Document 02, P8: a row is added at the end, or the last one taken away.
use Rattle.std.specs.Prelude.{ℕ, zero, suc, ◌+◌, ◌-◌, Bool, ◌&&◌, List, [], ◌∷◌, leb, ltb, eqb, get_or, set}
use Rattle.params.specs.Numbers.{Rule, rule, first_of, too_many}
use Rattle.companions.specs.Companions.{Companions, sheet_of, not_its_sheet}

-- 8 of a row that is added: there is a last row, and its start is greater
abbrev pub starts_before_last : Companions → ℕ → Bool
starts_before_last c start = leb 1 c.rows && ltb start (get_or c.starts (c.rows - 1) 0)

-- 49 before all others, 5 for a sixty-fifth row, 7 and 8 of the row
abbrev pub add_rules : Companions → ℕ → ℕ → List Rule
add_rules c start end =
    rule 49 (not_its_sheet c)
    ∷ (rule 5 (too_many (c.rows + 1))
    ∷ (rule 7 (ltb end start)
    ∷ (rule 8 (starts_before_last c start)
    ∷ [])))

unfoldable pub add_fault : Companions → ℕ → ℕ → ℕ
add_fault c start end = first_of (add_rules c start end)

-- 44 for removal from an empty table
unfoldable pub remove_fault : Companions → ℕ
remove_fault c = first_of (rule 49 (not_its_sheet c) ∷ (rule 44 (eqb c.rows 0) ∷ []))

-- with the row at the end, and the sheet of the rows then present
abbrev pub added_to : Companions → ℕ → ℕ → Companions
added_to c start end =
    let starts = set c.starts c.rows start in
    let ends = set c.ends c.rows end in
    record { starts = starts; ends = ends; sheet = sheet_of starts ends (c.rows + 1); rows = c.rows + 1 }

-- without the last row: starts and ends stay as they lie
abbrev pub taken_from : Companions → Companions
taken_from c = record { starts = c.starts; ends = c.ends; sheet = sheet_of c.starts c.ends (c.rows - 1); rows = c.rows - 1 }

-- sheet and table stay unchanged on a refusal
abbrev pub changed_unless : ℕ → Companions → Companions → Companions
changed_unless zero new old = new
changed_unless (suc f) new old = old
