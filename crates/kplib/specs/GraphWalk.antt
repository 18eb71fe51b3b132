-- The graph's rule as a table of flags, and the walks that ask it. No public promise cites this file.
use Rattle.std.specs.Prelude.{ℕ, zero, suc, ◌+◌, ◌-◌, ◌*◌, ◌≤◌, ◌<◌, ◌≡◌, Bool, true, false, List, [], ◌∷◌, length, get_or}
use Rattle.paths.specs.Sums.{keep}

-- the flag of rows r and s, the later last: whether they may stand together
abbrev pub flag_of : List Bool → ℕ → ℕ → Bool
flag_of together r s = get_or together (64 * r + s) false

-- the flag of each pair of the v rows is the graph's edge
abbrev pub Together : (ℕ → ℕ → Bool) → ℕ → List Bool → Type 0
Together joins v together = (r s : ℕ) → r < s → s < v → flag_of together r s ≡ joins r s

-- the flags from place i on are set, as all are before they are laid
pub record SetFrom (i : ℕ) (together : List Bool) : Type 0 where
  pub long : length together ≡ 4096
  pub are_set : (j : ℕ) → i ≤ j → j < 4096 → get_or together j false ≡ true

-- from t to u: the flags of row r and each later row of the v are laid, and those before and behind them are as they were
pub record RowLaid (joins : ℕ → ℕ → Bool) (v r : ℕ) (t u : List Bool) : Type 0 where
  pub long : length u ≡ length t
  pub laid : (s : ℕ) → r < s → s < v → flag_of u r s ≡ joins r s
  pub kept : (i : ℕ) → i < 64 * r → get_or u i false ≡ get_or t i false
  pub ahead : (i : ℕ) → 64 * r + v ≤ i → get_or u i false ≡ get_or t i false

-- ---- the rows that may follow, one flag for each
pub record Flagged (p : ℕ → Bool) (may : List Bool) : Type 0 where
  pub long : length may ≡ 64
  pub flag : (s : ℕ) → s < 64 → get_or may s false ≡ p s

-- ---- the rows that are left to go on by, in a list of rows that is lent to the count

-- n of its rows from place i on
unfoldable pub span_of : List ℕ → ℕ → ℕ → List ℕ
span_of rows zero i = []
span_of rows (suc n) i = get_or rows i 0 ∷ span_of rows n (suc i)

-- it holds rows only, and before this place those that it held
pub record Kept (to : ℕ) (old new : List ℕ) : Type 0 where
  pub long : length new ≡ length old
  pub rows : (i : ℕ) → get_or new i 0 < 64
  pub before : (i : ℕ) → i < to → get_or new i 0 ≡ get_or old i 0

-- the rows from place `from` to place `to` are left, and behind them is room for what each row that is taken leaves
pub record Counting (rows : List ℕ) (from to : ℕ) : Type 0 where
  pub long : length rows ≡ 4160
  pub small : (i : ℕ) → get_or rows i 0 < 64
  pub in_order : from ≤ to
  pub few : to ≤ from + 64
  pub room : to + 64 * (to - from) ≤ 4160

-- behind place `to`, up to `end`, stand those of the rows from `from` to `to` at which p holds
pub record Narrowed (p : ℕ → Bool) (from to : ℕ) (old new : List ℕ) (end : ℕ) : Type 0 where
  pub kept : Kept to old new
  pub low : to ≤ end
  pub high : end - to ≤ to - from
  pub left : span_of new (end - to) to ≡ keep p (span_of old (to - from) from)
