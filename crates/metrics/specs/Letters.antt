-- Document 01, "From letters to similarity", Letters, and document 02, P6: the code of a letter, the two readings, the windows of a sequence, the counter.
use Rattle.std.specs.Prelude.{◌≡◌, ℕ, zero, suc, ◌+◌, ◌-◌, ◌*◌, ◌^◌, ◌≤◌, Bool, true, false, cond, not, ◌&&◌, ◌||◌, List, [], ◌∷◌, ◌++◌, length, take, ℤ, pos, ◌+ℤ◌, neg_ℤ, ◌==◌, nat_le, nat_lt}
use Rattle.std.specs.Prelude.{Option, Some, None, Result, Ok, Err}
use Rattle.metrics.specs.declared.refusals.Refusal.{Refusal}
use Rattle.metrics.specs.declared.refusals.Refusal.TheVariants.{BadK, BadNumber, BadLengths, TooManyLetters}
use Rattle.metrics.specs.Similarity.{magnitude_sum}

-- A, G, C and T give 0, 1, 2, 3 in either case; any other byte gives 0
unfoldable pub code_of : ℕ → ℕ
code_of b =
    cond (b == 65) 0 (cond (b == 97) 0 (cond (b == 71) 1 (cond (b == 103) 1
    (cond (b == 67) 2 (cond (b == 99) 2 (cond (b == 84) 3 (cond (b == 116) 3 0)))))))

-- these have a code, and no other byte has
unfoldable pub has_code : ℕ → Bool
has_code b =
    (b == 65) || (b == 97 || (b == 71 || (b == 103 || (b == 67 || (b == 99 || (b == 84 || b == 116))))))

-- encoding one letter: its code, or that there is none
unfoldable pub encoded : ℕ → Option ℕ
encoded b = cond (has_code b) (Some (code_of b)) None

-- the setting `letters`: 0 is document 01's reading, in which every byte is read; 1 reads only what has a code
unfoldable pub read_by : ℕ → ℕ → Bool
read_by reading b = reading == 0 || has_code b

-- letters are a base-4 number, first letter highest
unfoldable pub number_of : List ℕ → ℕ
number_of [] = 0
number_of (x ∷ xs) = code_of x * 4 ^ length xs + number_of xs

-- a window is kept exactly when each of its k bytes passes a test, `reads`; in document 01 every byte does
abbrev pub every_byte : ℕ → Bool
every_byte b = true

-- whether all of these bytes pass
unfoldable pub all_read : (ℕ → Bool) → List ℕ → Bool
all_read reads [] = true
all_read reads (x ∷ xs) = reads x && all_read reads xs

-- the number of the window of the first k letters, if there are k and it is kept
unfoldable pub first_window : (ℕ → Bool) → ℕ → List ℕ → List ℕ
first_window reads k letters = cond (nat_le k (length letters) && all_read reads (take k letters)) (number_of (take k letters) ∷ []) []

-- the numbers of the windows kept, front to back; fewer than k letters have none
unfoldable pub windows_reading : (ℕ → Bool) → ℕ → List ℕ → List ℕ
windows_reading reads k [] = []
windows_reading reads k (x ∷ xs) = first_window reads k (x ∷ xs) ++ windows_reading reads k xs

-- document 01's windows: every byte is read
unfoldable pub windows_of : ℕ → List ℕ → List ℕ
unfolding windows_reading first_window all_read
windows_of = windows_reading every_byte

-- how often a number stands in a list
unfoldable pub times_in : ℕ → List ℕ → ℕ
times_in i [] = 0
times_in i (w ∷ ws) = cond (i == w) 1 0 + times_in i ws

-- plus n, or minus n for a negative sequence
abbrev pub signed : Bool → ℕ → ℤ
signed false n = pos n
signed true n = neg_ℤ (pos n)

-- f i ∷ f (i + 1) ∷ .., n entries
unfoldable pub table_from : (ℕ → ℤ) → ℕ → ℕ → List ℤ
table_from f i zero = []
table_from f i (suc n) = f i ∷ table_from f (suc i) n

-- the entries of a feature row: 4^k, for a k of the table; no row has a larger k
unfoldable pub entry_count : ℕ → ℕ
entry_count k = cond (nat_le k 6) (4 ^ k) 0

-- each window kept adds 1 to its own entry, or subtracts 1 for a negative sequence
unfoldable pub counts_reading : (ℕ → Bool) → ℕ → Bool → List ℕ → List ℤ
counts_reading reads k negative letters = table_from (λ i. signed negative (times_in i (windows_reading reads k letters))) 0 (4 ^ k)

-- document 01's counts, of these windows
unfoldable pub counts_of : ℕ → Bool → List ℕ → List ℤ
unfolding counts_reading windows_of
counts_of = counts_reading every_byte

-- the counts by a reading: reading 1 leaves out each window that holds a byte without a code
unfoldable pub counts_by : ℕ → ℕ → Bool → List ℕ → List ℤ
counts_by reading = counts_reading (read_by reading)

-- the counter refuses by 1, 3 (a reading other than 0 or 1), 6 (room not 4^k) and 13
unfoldable pub counter_answer : ℕ → ℕ → List ℕ → List ℤ → Result Unit Refusal
counter_answer k reading letters row =
    cond (not (nat_le 1 k && nat_le k 6)) (Err BadK)
    (cond (nat_lt 1 reading) (Err BadNumber)
    (cond (not (length row == 4 ^ k)) (Err BadLengths)
    (cond (nat_lt 131072 (length letters)) (Err TooManyLetters)
    (Ok tt))))

-- what the lent row holds after an answer
abbrev pub row_after : Result Unit Refusal → List ℤ → List ℤ → List ℤ
row_after (Ok done) counts row = counts
row_after (Err refusal) counts row = row

-- the sum of a row's entries
unfoldable pub entries_of : List ℤ → ℤ
entries_of [] = pos 0
entries_of (x ∷ xs) = x +ℤ entries_of xs

-- the entries sum to plus or minus the number of windows kept
unfoldable pub EntriesSum : Type 0
EntriesSum =
    (reads : ℕ → Bool) (k : ℕ) (negative : Bool) (letters : List ℕ)
    → entries_of (counts_reading reads k negative letters) ≡ signed negative (length (windows_reading reads k letters))

-- by either reading
unfoldable pub EntriesSumBy : Type 0
EntriesSumBy =
    (reading k : ℕ) (negative : Bool) (letters : List ℕ)
    → entries_of (counts_by reading k negative letters) ≡ signed negative (length (windows_reading (read_by reading) k letters))

-- reading 0 is document 01's
unfoldable pub ReadingZero : Type 0
ReadingZero = (k : ℕ) (negative : Bool) (letters : List ℕ) → counts_by 0 k negative letters ≡ counts_of k negative letters

-- "The entries sum to plus or minus (length - k + 1), or 0": every window is kept, and the difference is 0 where there are fewer than k letters
unfoldable pub EntriesSumToLength : Type 0
EntriesSumToLength =
    (k : ℕ) (negative : Bool) (letters : List ℕ) → 1 ≤ k → entries_of (counts_of k negative letters) ≡ signed negative (length letters + 1 - k)

-- the magnitudes of a counted row sum to at most the limit that the search asks of a feature row
unfoldable pub RowWithinLimit : Type 0
RowWithinLimit =
    (reads : ℕ → Bool) (k reading : ℕ) (negative : Bool) (letters : List ℕ) (row : List ℤ) → counter_answer k reading letters row ≡ Ok tt
    → magnitude_sum (counts_reading reads k negative letters) ≤ 131072
