-- Document 02, P4: what a text says, and by which rule it is refused. A line is good exactly where it is the text of a name, a start and an end (Bed).
use Rattle.std.specs.Prelude.{ℕ, suc, ◌+◌, ◌-◌, ◌*◌, Bool, true, false, not, cond, ◌&&◌, ◌||◌, List, [], ◌∷◌, ◌++◌, map, leb, ltb, eqb, length, drop, Result, Ok, Err}
use Rattle.metrics.specs.declared.refusals.Refusal.{Refusal}
use Rattle.metrics.specs.Refusals.{refusal_of}
use Rattle.params.specs.Numbers.{Rule, rule, first_of, bound_rules}
use Rattle.bed.specs.Bed.{good_name, tab, newline, bed_line}
use Rattle.bed.specs.declared.Counts.{Counts}

unfoldable pub same_bytes : List ℕ → List ℕ → Bool
same_bytes [] [] = true
same_bytes [] (y ∷ b) = false
same_bytes (x ∷ a) [] = false
same_bytes (x ∷ a) (y ∷ b) = eqb x y && same_bytes a b

-- the lines of a text, each with the newline that ends it; what stands behind the last newline is a line that has none
abbrev pub onto : ℕ → List (List ℕ) → List (List ℕ)
onto x [] = (x ∷ []) ∷ []
onto x (line ∷ lines) = (x ∷ line) ∷ lines

unfoldable pub lines_of : List ℕ → List (List ℕ)
lines_of [] = []
lines_of (x ∷ text) = cond (eqb x newline) ((x ∷ []) ∷ lines_of text) (onto x (lines_of text))

-- what stands before the first byte b, and what behind it
unfoldable pub up_to : ℕ → List ℕ → List ℕ
up_to b [] = []
up_to b (x ∷ s) = cond (eqb x b) [] (x ∷ up_to b s)

unfoldable pub behind_first : ℕ → List ℕ → List ℕ
behind_first b s = drop (suc (length (up_to b s))) s

-- the number that digits say
unfoldable pub value_from : ℕ → List ℕ → ℕ
value_from v [] = v
value_from v (x ∷ digits) = value_from (v * 10 + (x - 48)) digits

abbrev pub value_of : List ℕ → ℕ
value_of digits = value_from 0 digits

-- what a line says if it is good: its name, its start and its end
abbrev pub name_in : List ℕ → List ℕ
name_in line = up_to tab line

abbrev pub start_in : List ℕ → ℕ
start_in line = value_of (up_to tab (behind_first tab line))

abbrev pub end_in : List ℕ → ℕ
end_in line = value_of (up_to newline (behind_first tab (behind_first tab line)))

abbrev pub within64 : ℕ → Bool
within64 n = ltb n 18446744073709551616

-- it is good where its name is, its numbers fit 64 bits, and it is the very text of the three
unfoldable pub good_line : List ℕ → Bool
good_line line =
    good_name (name_in line)
    && (within64 (start_in line) && (within64 (end_in line) && same_bytes line (bed_line (name_in line) (start_in line) (end_in line))))

-- 42: a sixty-fifth line of BED
abbrev pub too_many_lines : ℕ → Bool
too_many_lines i = leb 64 i

-- 40: a bad line of BED, or a bad name to write
abbrev pub bad_line : List ℕ → Bool
bad_line line = not (good_line line)

-- 41: a second name in BED
abbrev pub second_name : List ℕ → List ℕ → Bool
second_name name line = not (same_bytes (name_in line) name)

abbrev pub line_rules : List ℕ → ℕ → List ℕ → List Rule
line_rules name i line = rule 42 (too_many_lines i) ∷ (rule 40 (bad_line line) ∷ (rule 41 (second_name name line) ∷ []))

-- front to back, from line i on
unfoldable pub lines_from : List ℕ → ℕ → List (List ℕ) → List Rule
lines_from name i [] = []
lines_from name i (line ∷ lines) = line_rules name i line ++ lines_from name (suc i) lines

-- the first line's name is what stands before the text's first tab
unfoldable pub text_rules : List ℕ → List Rule
text_rules text = lines_from (name_in text) 0 (lines_of text)

-- the table that a text says: its starts and its ends, row by row
unfoldable pub starts_in : List ℕ → List ℕ
starts_in text = map start_in (lines_of text)

unfoldable pub ends_in : List ℕ → List ℕ
ends_in text = map end_in (lines_of text)

-- reading begins with the 6 of buffers under 64 numbers
abbrev pub under64 : ℕ → ℕ → Bool
under64 starts ends = ltb starts 64 || ltb ends 64

-- 7 and 8 come after all faults of the text
unfoldable pub read_fault : List ℕ → ℕ → ℕ → ℕ
read_fault text starts ends = first_of (rule 6 (under64 starts ends) ∷ (text_rules text ++ bound_rules (starts_in text) (ends_in text)))

-- how many rows, and how long the name is
unfoldable pub read_answer : ℕ → List ℕ → Result Counts Refusal
read_answer fault text = cond (eqb fault 0) (Ok (record { rows = length (lines_of text); width = length (name_in text) })) (Err (refusal_of fault))

-- the two counts, both 0 on a refusal
abbrev pub read_counts : Result Counts Refusal → List ℕ
read_counts (Ok counts) = counts.rows ∷ counts.width ∷ []
read_counts (Err refusal) = 0 ∷ 0 ∷ []

-- what is laid down at the front of a lent buffer: nothing on a refusal
unfoldable pub unless_refused : ℕ → List ℕ → List ℕ
unless_refused fault xs = cond (eqb fault 0) xs []
