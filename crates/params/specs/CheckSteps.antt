-- What one step of the checks hands to the next. No public promise cites this file.
use Rattle.std.specs.Prelude.{ℕ, ◌*◌, ◌≡◌, Bool, List, ℤ, length}
use Rattle.std.specs.Fn.{FnReturnsAt}
use Rattle.params.specs.Numbers.{Table, Parts}
use denote.Param.Members.{Shared}
use denote.Ref.{Bor}

-- the lent features are as long as their rows
pub record Shaped (e : ℕ) (t : Table) (p : Parts) : Type 0 where
  pub rows : length t.features ≡ length t.starts * e
  pub part_rows : length p.features ≡ length p.sizes * e

-- the closure says of each row what the test says of it
abbrev pub Tests : {F : Type 0} → Shared F (Bor (List ℤ) × Unit {0}) Bool → F → (List ℤ → Bool) → Type 0
Tests g f test = (row : List ℤ) (r : Bool) → FnReturnsAt g f row r → r ≡ test row
