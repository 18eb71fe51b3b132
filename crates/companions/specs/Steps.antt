-- What the private functions of the crate speak of. No public promise cites this file.
use Rattle.std.specs.Prelude.{ℕ, ◌<◌, ◌≤◌, ◌≡◌, Bool, List, length}
use Rattle.companions.specs.Companions.{sheet_flag}

-- the rows before r are as g says, those from r on as f does
pub record Passing (f g : ℕ → ℕ → Bool) (r : ℕ) (sheet : List Bool) : Type 0 where
  pub long : length sheet ≡ 4096
  pub done : (q s : ℕ) → q < r → q < 64 → s < 64 → sheet_flag sheet q s ≡ g q s
  pub left : (q s : ℕ) → r ≤ q → q < 64 → s < 64 → sheet_flag sheet q s ≡ f q s
