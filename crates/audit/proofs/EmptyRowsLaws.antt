-- Only the row of 16 has that number, and its test is found exactly where every entry of a variant's row is 0. The entries of a counted row sum to plus or minus
-- the number of the windows kept, so that no row of 0 has one; and without windows each entry counts none. That is so of whatever is read. Assumes nothing.
use Prim.Native.Nat.{ℕ, zero, suc, ◌+◌, ◌-◌, ◌*◌, ◌^◌, ◌≤◌, ◌<◌}
use native.Mathlib.Omega.{arith}
use mathlib.Core.Path.{◌≡◌, refl, sym, ap, ◌∙◌}
use mathlib.Core.Bool.{Bool, true, false}
use mathlib.Core.List.{List, [], ◌∷◌, ◌++◌}
use borrow.Author.Tests.{eqb-true, eq-eqb, ne_eqb, ltb-true, ltb-false}
use lib.Dec.{ltb, eqb}
use lib.IntN.{ℤ, pos, negsuc, nat_abs}
use lib.ListN.{length, get_or, drop, length-take}
use lib.Seq.{get_or-take, get_or-drop}
use Rattle.paths.proofs.BooleanLaws.{clash, and_both}
use Rattle.metrics.specs.Letters.{every_byte, read_by, windows_reading, times_in, signed, table_from, counts_reading, counts_of, counts_by, entries_of, EntriesSum, EntriesSumToLength}
use Rattle.metrics.proofs.Windows.{signed_size}
use Rattle.metrics.proofs.Totals.{entries_sum, entries_sum_to_length}
use Rattle.params.specs.Numbers.{Call, Rule, rule, first_of, row_at, is_zero, all_zero, empty_row, room_rules, call_rules, first_fault}
use Rattle.params.proofs.CheckLaws.{none_given, goes_on, given, any_here}
use Rattle.audit.specs.EmptyRows.{Empty, up_to_ten, EmptyRows}
use Rattle.audit.proofs.RecordNumbersLaws.{any_found, never}

-- ---- a row, entry by entry
zero_is : (x : ℤ) → is_zero x ≡ true → x ≡ pos 0
zero_is (pos n) h = ap pos (eqb-true n 0 h)
zero_is (negsuc n) h = absurd (clash false refl h)

all_entries : (row : List ℤ) → all_zero row ≡ true → (i : ℕ) → get_or row i (pos 0) ≡ pos 0
unfolding all_zero
all_entries [] h i = refl
all_entries (x ∷ row) h zero = zero_is x (and_both (is_zero x) (all_zero row) h).0
all_entries (x ∷ row) h (suc i) = all_entries row (and_both (is_zero x) (all_zero row) h).1 i

entries_all : (row : List ℤ) → ((i : ℕ) → i < length row → get_or row i (pos 0) ≡ pos 0) → all_zero row ≡ true
unfolding all_zero
entries_all [] h = refl
entries_all (x ∷ row) h = rw (h 0 (omega arith), entries_all row (λ i l. h (suc i) (omega arith))) refl

-- row r of the table
module _ (e : ℕ) (features : List ℤ) (r : ℕ) where
  entry_of : (i : ℕ) → i < e → get_or (row_at e features r) i (pos 0) ≡ get_or features (r * e + i) (pos 0)
  entry_of i l = get_or-take e (drop (r * e) features) i (pos 0) l ∙ get_or-drop (r * e) features i (pos 0)

  row_entries : all_zero (row_at e features r) ≡ true → (i : ℕ) → i < e → get_or features (r * e + i) (pos 0) ≡ pos 0
  row_entries h i l = sym (entry_of i l) ∙ all_entries (row_at e features r) h i

  entries_row : ((i : ℕ) → i < e → get_or features (r * e + i) (pos 0) ≡ pos 0) → all_zero (row_at e features r) ≡ true
  entries_row h = entries_all (row_at e features r) (λ i l. let k : i < e = omega (arith, length-take e (drop (r * e) features)) in entry_of i k ∙ h i k)

-- ---- the table of refusals
module _ (c : Call) where
  abbrev e : ℕ
  e = 4 ^ c.settings.k

  abbrev sixteen : Bool
  sixteen = empty_row e (length c.table.starts) c.table.features

  abbrev from_eleven : List Rule
  from_eleven = room_rules c.settings (length c.table.starts) c.queue_room c.answer_room

  table_is : first_fault c ≡ first_of (up_to_ten c ++ (rule 16 sixteen ∷ from_eleven))
  unfolding first_fault
  table_is = refl

  found_empty : sixteen ≡ true → (r : ℕ) × (r < length c.table.starts) × Empty c r
  unfolding empty_row
  found_empty h =
      let f = any_found (λ r. all_zero (row_at e c.table.features r)) (length c.table.starts) h in
      (f.0, f.1, row_entries e c.table.features f.0 f.2)

  empty_found : (r : ℕ) → r < length c.table.starts → Empty c r → sixteen ≡ true
  unfolding empty_row
  empty_found r l h = any_here (λ r. all_zero (row_at e c.table.features r)) (length c.table.starts) r l (entries_row e c.table.features r h)

  only_empty : first_fault c ≡ 16 → (r : ℕ) × (r < length c.table.starts) × Empty c r
  only_empty f = go sixteen refl (sym table_is ∙ f)
    where
      go : (t : Bool) → sixteen ≡ t → first_of (up_to_ten c ++ (rule 16 t ∷ from_eleven)) ≡ 16 → (r : ℕ) × (r < length c.table.starts) × Empty c r
      go true q f = found_empty q
      go false q f = absurd (never 16 (up_to_ten c ++ from_eleven) (omega arith) refl f)

  always_empty : first_of (up_to_ten c) ≡ 0 → (r : ℕ) → r < length c.table.starts → Empty c r → first_fault c ≡ 16
  always_empty f r l h =
      table_is ∙ sym (goes_on (up_to_ten c) (rule 16 sixteen ∷ from_eleven) 16 (none_given (up_to_ten c) refl f) (given sixteen 16 (first_of from_eleven) (empty_found r l h)))

  passed_sixteen : first_fault c ≡ 0 → sixteen ≡ false
  unfolding first_fault
  passed_sixteen f = (none_given (call_rules c) refl f).1.1.1.1.1.1.1.1.1.1.1.1.1.1.0

-- ---- the letters of a counted row
zeros_sum : (row : List ℤ) → all_zero row ≡ true → entries_of row ≡ pos 0
unfolding all_zero entries_of
zeros_sum [] h = refl
zeros_sum (x ∷ row) h =
    let both = and_both (is_zero x) (all_zero row) h in
    rw (zero_is x both.0, zeros_sum row both.1) refl

none_signed : (negative : Bool) → is_zero (signed negative 0) ≡ true
none_signed true = refl
none_signed false = refl

no_windows : (negative : Bool) (i n : ℕ) → all_zero (table_from (λ j. signed negative (times_in j [])) i n) ≡ true
unfolding all_zero table_from times_in
no_windows negative i zero = refl
no_windows negative i (suc n) = rw (none_signed negative, no_windows negative (suc i) n) refl

no_length : {A : Type 0} (l : List A) → length l ≡ 0 → l ≡ []
no_length [] h = refl
no_length (x ∷ l) h = absurd (omega arith)

-- whatever is read
module _ (reads : ℕ → Bool) (k : ℕ) (negative : Bool) (letters : List ℕ) where
  abbrev row : List ℤ
  row = counts_reading reads k negative letters

  abbrev windows : ℕ
  windows = length (windows_reading reads k letters)

  zero_windows : all_zero row ≡ true → windows ≡ 0
  unfolding EntriesSum
  zero_windows h = sym (signed_size negative windows) ∙ ap nat_abs (sym (entries_sum reads k negative letters) ∙ zeros_sum row h)

  windows_zero : windows ≡ 0 → all_zero row ≡ true
  unfolding counts_reading
  windows_zero h = rw (no_length (windows_reading reads k letters) h) (no_windows negative 0 (4 ^ k))

  zero_without : all_zero row ≡ eqb windows 0
  zero_without = go (all_zero row) refl
    where
      go : (t : Bool) → all_zero row ≡ t → t ≡ eqb windows 0
      go true p = sym (eq-eqb windows 0 (zero_windows p))
      go false p = sym (ne_eqb windows 0 (λ none. clash (all_zero row) p (windows_zero none)))

-- document 01's reading
none_left : (n k : ℕ) → eqb (n + 1 - k) 0 ≡ ltb n k
none_left n k = go (ltb n k) refl
  where
    go : (t : Bool) → ltb n k ≡ t → eqb (n + 1 - k) 0 ≡ t
    go true p = eq-eqb (n + 1 - k) 0 (omega (arith, ltb-true n k p))
    go false p = ne_eqb (n + 1 - k) 0 (λ none. omega (arith, ltb-false n k p))

module _ (k : ℕ) (negative : Bool) (letters : List ℕ) (h : 1 ≤ k) where
  windows_are : windows every_byte k negative letters ≡ length letters + 1 - k
  unfolding counts_of EntriesSum EntriesSumToLength
  windows_are =
      sym (signed_size negative (windows every_byte k negative letters))
      ∙ (ap nat_abs (sym (entries_sum every_byte k negative letters) ∙ entries_sum_to_length k negative letters h) ∙ signed_size negative (length letters + 1 - k))

  fewer_than_k : all_zero (counts_of k negative letters) ≡ ltb (length letters) k
  unfolding counts_of
  fewer_than_k = zero_without every_byte k negative letters ∙ (ap (λ (n : ℕ). eqb n 0) windows_are ∙ none_left (length letters) k)

-- by a reading
no_window_kept : (reading k : ℕ) (negative : Bool) (letters : List ℕ) → all_zero (counts_by reading k negative letters) ≡ eqb (length (windows_reading (read_by reading) k letters)) 0
unfolding counts_by
no_window_kept reading k negative letters = zero_without (read_by reading) k negative letters

pub empty_rows : EmptyRows
empty_rows = record {
  sixteen_empty = only_empty;
  empty_sixteen = always_empty;
  none_empty = λ c f r l h. clash (sixteen c) (passed_sixteen c f) (empty_found c r l h);
  short = fewer_than_k;
  none_kept = no_window_kept;
}
