-- Document 02, P8, as a whole: what holds of a sheet from one change to the next, and what its answers come to.
use Rattle.std.specs.Prelude.{ℕ, ◌<◌, ◌≡◌, ◌≢◌, false, not, ◌&&◌, List, ltb, length, take, replicate}
use Rattle.companions.specs.Companions.{Companions, lent_of, rows_overlap, sheet_flag, sheet_of, not_its_sheet}
use Rattle.companions.specs.Changes.{add_fault, remove_fault, added_to, taken_from}
use Rattle.companions.specs.Questions.{together_of, how_many_below, later_of}

-- 49 is not given
abbrev pub Sound : Companions → Type 0
Sound c = not_its_sheet c ≡ false

-- 64 places are lent for starts and for ends
abbrev pub Places : Companions → Type 0
Places c = (length c.starts ≡ 64) × (length c.ends ≡ 64)

pub record CompanionsKept : Type 0 where
  -- the sheet is the one worked out afresh from the rows present, and from nothing else
  pub afresh : (c : Companions) → Sound c → c.sheet ≡ sheet_of (take c.rows c.starts) (take c.rows c.ends) c.rows
  -- so it begins, with no rows and no flag, and so it stays after each change: who begins with none and only adds and takes away is never refused by 49
  pub begins : (starts ends : List ℕ) → Sound (lent_of starts ends (replicate 4096 false) 0)
  pub added : (c : Companions) (start end : ℕ) → Places c → add_fault c start end ≡ 0 → Sound (added_to c start end)
  pub taken : (c : Companions) → Places c → remove_fault c ≡ 0 → Sound (taken_from c)
  -- adding changes earlier rows' sets by the new row only
  pub new_row_only : (c : Companions) (start end : ℕ) → add_fault c start end ≡ 0 → (r s : ℕ) → r < 64 → s < 64 → s ≢ c.rows
      → sheet_flag (added_to c start end).sheet r s ≡ sheet_flag c.sheet r s
  -- taking away what was added gives the sheet before, and the number of rows
  pub back : (c : Companions) (start end : ℕ) → add_fault c start end ≡ 0
      → ((taken_from (added_to c start end)).sheet ≡ c.sheet) × ((taken_from (added_to c start end)).rows ≡ c.rows)
  -- and that is never refused
  pub taken_again : (c : Companions) (start end : ℕ) → Places c → add_fault c start end ≡ 0 → remove_fault (added_to c start end) ≡ 0
  -- two rows may stand together where they do not overlap, in either order; a row with itself is a no
  pub in_either_order : (c : Companions) (a b : ℕ) → together_of c.sheet a b ≡ together_of c.sheet b a
  pub itself : (c : Companions) → Sound c → (a : ℕ) → a < c.rows → together_of c.sheet a a ≡ false
  pub apart : (c : Companions) → Sound c → (a b : ℕ) → a < c.rows → b < c.rows → a ≢ b → together_of c.sheet a b ≡ not (rows_overlap c.starts c.ends a b)
  -- a row's later companions are the rows behind it that it does not overlap
  pub counted : (c : Companions) → Sound c → (row : ℕ) → row < c.rows
      → later_of c.sheet row ≡ how_many_below c.rows (λ s. ltb row s && not (rows_overlap c.starts c.ends row s))
