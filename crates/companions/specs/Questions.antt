-- Document 02, P8: what is answered from the sheet: may these two rows stand together, and how many later companions has a row.
use Rattle.std.specs.Prelude.{ℕ, zero, suc, ◌+◌, Bool, cond, ◌||◌, List, [], ◌∷◌, leb, Result, Ok, Err}
use Rattle.metrics.specs.declared.refusals.Refusal.{Refusal}
use Rattle.metrics.specs.Refusals.{refused_or}
use Rattle.params.specs.Numbers.{rule, first_of}
use Rattle.companions.specs.Companions.{Companions, sheet_flag, not_its_sheet}

-- in either order
unfoldable pub together_of : List Bool → ℕ → ℕ → Bool
together_of sheet a b = sheet_flag sheet a b || sheet_flag sheet b a

-- how many numbers below n pass a test
unfoldable pub how_many_below : ℕ → (ℕ → Bool) → ℕ
how_many_below zero test = 0
how_many_below (suc n) test = how_many_below n test + cond (test n) 1 0

-- the row's own 64 flags, counted
unfoldable pub later_of : List Bool → ℕ → ℕ
later_of sheet row = how_many_below 64 (sheet_flag sheet row)

-- 44: a row that isn't there
unfoldable pub pair_fault : Companions → ℕ → ℕ → ℕ
pair_fault c a b = first_of (rule 49 (not_its_sheet c) ∷ (rule 44 (leb c.rows a || leb c.rows b) ∷ []))

unfoldable pub later_fault : Companions → ℕ → ℕ
later_fault c row = first_of (rule 49 (not_its_sheet c) ∷ (rule 44 (leb c.rows row) ∷ []))

unfoldable pub pair_of : Companions → ℕ → ℕ → Result Bool Refusal
pair_of c a b = refused_or (pair_fault c a b) (together_of c.sheet a b)

unfoldable pub later_in : Companions → ℕ → Result ℕ Refusal
later_in c row = refused_or (later_fault c row) (later_of c.sheet row)

-- each answer as a number, 1 for yes; 0 on a refusal
abbrev pub pair_yes : Result Bool Refusal → ℕ
pair_yes (Ok may) = cond may 1 0
pair_yes (Err refusal) = 0

abbrev pub later_count : Result ℕ Refusal → ℕ
later_count (Ok k) = k
later_count (Err refusal) = 0
