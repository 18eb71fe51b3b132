-- Document 02, P8 and P5: a companions sheet says of each pair of rows what the search's own table of pairs says.
use Rattle.std.specs.Prelude.{ℕ, ◌<◌, ◌≡◌, Bool, true, List, [], ◌∷◌, take}
use Rattle.companions.specs.Companions.{Companions, sheet_flag}
use Rattle.companions.specs.Sheets.{Sound}
use Rattle.kplib.specs.Graph.{edge, may_follow_in}
use Rattle.kplib.specs.GraphWalk.{flag_of, Together}

-- the rows present
abbrev pub present_starts : Companions → List ℕ
present_starts c = take c.rows c.starts

abbrev pub present_ends : Companions → List ℕ
present_ends c = take c.rows c.ends

pub record CompanionsAreTogether : Type 0 where
  -- the sheet is itself a table of pairs, as a search of these rows lays it
  pub a_table_of_pairs : (c : Companions) → Sound c → Together (edge (present_starts c) (present_ends c)) c.rows c.sheet
  -- so of two rows, the later last, it says what whichever table the search has laid says
  pub same_flags : (c : Companions) → Sound c → (together : List Bool) → Together (edge (present_starts c) (present_ends c)) c.rows together
      → (r s : ℕ) → r < s → s < c.rows → sheet_flag c.sheet r s ≡ flag_of together r s
  -- and that is whether, in a full graph, the later may follow the earlier alone
  pub may_follow : (c : Companions) → Sound c → (r s : ℕ) → r < s → s < c.rows
      → may_follow_in (present_starts c) (present_ends c) true (r ∷ []) s ≡ sheet_flag c.sheet r s
