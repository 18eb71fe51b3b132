-- Document 02, P4: a text that is accepted is the text of the table that it says, so writing all its rows gives the bytes that were read; and reading what was written gives the rows.
use Rattle.std.specs.Prelude.{ℕ, ◌≤◌, ◌<◌, ◌≡◌, true, List, length, get_or}
use Rattle.params.specs.Numbers.{first_of, bound_rules}
use Rattle.bed.specs.Bed.{good_name, bed_text}
use Rattle.bed.specs.Reading.{name_in, starts_in, ends_in, lines_of, read_fault}
use Rattle.bed.specs.Writing.{chosen_of, rows_text, write_fault}

-- a table that can be read back: a good name, as many ends as starts, at most 64, numbers to 64 bits, neither a 7 nor an 8
pub record Writable (name starts ends : List ℕ) : Type 0 where
  pub named : good_name name ≡ true
  pub even : length ends ≡ length starts
  pub few : length starts ≤ 64
  pub starts_fit : (i : ℕ) → get_or starts i 0 < 18446744073709551616
  pub ends_fit : (i : ℕ) → get_or ends i 0 < 18446744073709551616
  pub bounds : first_of (bound_rules starts ends) ≡ 0

-- a text is accepted, and this is its table; a table of no rows has no name
pub record Says (text : List ℕ) (a b : ℕ) (name starts ends : List ℕ) : Type 0 where
  pub accepted : read_fault text a b ≡ 0
  pub its_starts : starts_in text ≡ starts
  pub its_ends : ends_in text ≡ ends
  pub its_name : 1 ≤ length starts → name_in text ≡ name

-- all of n rows, in order
abbrev pub AllRows : ℕ → List ℕ → Type 0
AllRows n rows = (length rows ≡ n) × ((i : ℕ) → i < n → get_or rows i 0 ≡ i)

pub record BedRoundTrip : Type 0 where
  pub says : (text : List ℕ) (a b : ℕ) → read_fault text a b ≡ 0 → text ≡ bed_text (name_in text) (starts_in text) (ends_in text)
  pub back : (text rows : List ℕ) (a b room : ℕ) → read_fault text a b ≡ 0 → AllRows (length (lines_of text)) rows → length text ≤ room
      → (write_fault (name_in text) (starts_in text) (ends_in text) rows room ≡ 0) × (rows_text (name_in text) (starts_in text) (ends_in text) rows ≡ text)
  pub there : (name starts ends rows : List ℕ) (a b : ℕ) → 64 ≤ a → 64 ≤ b → Writable name (chosen_of starts rows) (chosen_of ends rows)
      → Says (rows_text name starts ends rows) a b name (chosen_of starts rows) (chosen_of ends rows)
