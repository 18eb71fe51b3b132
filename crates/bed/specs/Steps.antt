-- What the private functions of the crate speak of. No public promise cites this file.
use Rattle.std.specs.Prelude.{ℕ, suc, ◌<◌, ◌≤◌, ◌≡◌, true, false, Option, Some, None, Result, Ok, Err, List, ◌++◌, length, take}
use Rattle.metrics.specs.declared.refusals.Refusal.{Refusal}
use Rattle.metrics.specs.Refusals.{refusal_number}
use Rattle.params.specs.Numbers.{first_of, bound_rules}
use Rattle.bed.specs.Bed.{newline}
use Rattle.bed.specs.Reading.{up_to, start_in, end_in, good_line, lines_of, text_rules, starts_in, ends_in}
use Rattle.bed.specs.declared.lines.Bounds.{Bounds}

-- the first line of a text, with its newline
unfoldable pub first_line : List ℕ → List ℕ
first_line s = take (suc (length (up_to newline s))) s

-- a number that fits 64 bits is read as it is
abbrev pub Reads64 : ℕ → ℕ → Type 0
Reads64 value r = value < 18446744073709551616 → r ≡ value

-- what is found of a line: its numbers, if it is good
abbrev pub Judged : List ℕ → Option Bounds → Type 0
Judged line None = good_line line ≡ false
Judged line (Some b) = (good_line line ≡ true) × ((b.start ≡ start_in line) × (b.end ≡ end_in line))

-- a text without a fault: its rows stand at the front of the two buffers
pub record Rows (text s e : List ℕ) (rows : ℕ) : Type 0 where
  pub count : rows ≡ length (lines_of text)
  pub few : rows ≤ 64
  pub sound : first_of (text_rules text) ≡ 0
  pub starts : take rows s ≡ starts_in text
  pub ends : take rows e ≡ ends_in text

-- the first fault of a text, or its rows where there is none
abbrev pub Scanned : List ℕ → List ℕ → List ℕ → Result ℕ Refusal → Type 0
Scanned text s e (Ok rows) = Rows text s e rows
Scanned text s e (Err refusal) = refusal_number refusal ≡ first_of (text_rules text)

-- the same with the faults of its numbers behind
abbrev pub text_fault : List ℕ → ℕ
text_fault text = first_of (text_rules text ++ bound_rules (starts_in text) (ends_in text))

abbrev pub Checked : List ℕ → List ℕ → List ℕ → Result ℕ Refusal → Type 0
Checked text s e (Ok rows) = (text_fault text ≡ 0) × Rows text s e rows
Checked text s e (Err refusal) = refusal_number refusal ≡ text_fault text
