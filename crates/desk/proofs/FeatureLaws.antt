-- The table of feature rows: the rows that stand in it and the rows of the sequences that are left make the rows of all.
use Prim.Native.Nat.{ℕ, suc, ◌+◌, ◌-◌, ◌*◌, ◌^◌, ◌≤◌, ◌<◌}
use native.Mathlib.Omega.{arith}
use native.Mathlib.Numerals.{add-one}
use native.Mathlib.Nat.{suc-mul, mul-le-mul_right}
use mathlib.Core.Path.{◌≡◌, refl, sym, ap, ◌∙◌}
use mathlib.Core.Bool.{Bool, false}
use mathlib.Core.List.{List, [], ◌++◌, append-nil, append_assoc}
use lib.IntN.{ℤ}
use lib.ListN.{length, get_or, take, drop, length-append, length-take, length-drop, drop_of_length-le}
use lib.Seq.{drop-cons, drop-drop, take_at, length-take-le}
use borrow.Rule.Slice.PartMut.{put_mid, Post-is}
use Rattle.std.specs.Prelude.{Result, Ok}
use Rattle.metrics.specs.declared.refusals.Refusal.{Refusal}
use Rattle.metrics.specs.Letters.{read_by, windows_reading, times_in, signed, counts_reading, counts_by, counter_answer, row_after}
use Rattle.metrics.proofs.Windows.{table_length}
use Rattle.metrics.proofs.Totals.{counter_done}
use Rattle.form.proofs.GatherLaws.{sum_next}
use Rattle.form.specs.Lent.{sum}
use Rattle.desk.specs.Rows.{rows_from, row_stored, RowFits, RowsFit, RowsCounted}

pub row_length : (reading k : ℕ) (negative : Bool) (s : List ℕ) → length (counts_by reading k negative s) ≡ 4 ^ k
unfolding counts_by counts_reading
row_length reading k negative s = table_length (λ i. signed negative (times_in i (windows_reading (read_by reading) k s))) 0 (4 ^ k)

-- the counter refuses none of these rows
accepted : (k reading : ℕ) (s : List ℕ) (out : List ℤ) → 1 ≤ k → k ≤ 4 → reading ≤ 1 → length out ≡ 4 ^ k → length s ≤ 32768 → counter_answer k reading s out ≡ Ok tt
accepted k reading s out low high known long few = counter_done k reading s out low (omega arith) known long (omega arith)

pub row_counted : (reading k at end from to : ℕ) (negative : Bool) (letters : List ℕ) (table : List ℤ) → RowFits reading k at end from to letters table →
    (answer : Result Unit Refusal) → answer ≡ counter_answer k reading (take (end - at) (drop at letters)) (take (to - from) (drop from table)) →
    (row : List ℤ) → row ≡ row_after answer (counts_by reading k negative (take (end - at) (drop at letters))) (take (to - from) (drop from table)) →
    put_mid from (to - from) table row ≡ row_stored from to table (counts_by reading k negative (take (end - at) (drop at letters)))
unfolding row_stored
row_counted reading k at end from to negative letters table fits answer is row e =
    let f = fits.wide in
    let g = fits.table_end in
    let h = fits.letters_end in
    let j = fits.few in
    let up : from ≤ to = omega arith in
    let long : length (take (to - from) (drop from table)) ≡ 4 ^ k = simp (length-take, length-drop) (omega arith) in
    let few : length (take (end - at) (drop at letters)) ≤ 32768 = simp (length-take, length-drop) (omega arith) in
    let done : answer ≡ Ok tt = is ∙ accepted k reading _ _ fits.k_low fits.k_high fits.known long few in
    rw (Post-is from to table up, e, done)

sum_none : sum [] ≡ 0
unfolding sum
sum_none = refl

rows_none : (reading k : ℕ) (counts letters : List ℕ) → rows_from reading k [] counts letters ≡ []
unfolding rows_from
rows_none reading k counts letters = refl

-- what holds before each row
pub record Running (reading k width : ℕ) (negatives : List Bool) (counts letters : List ℕ) (first : ℕ) (old table : List ℤ) (row at from : ℕ) : Type 0 where
  pub from_is : from ≡ row * width
  pub within : row ≤ length counts
  pub letters_left : at + sum (drop row counts) ≡ first + sum counts
  pub whole : take from table ++ rows_from reading k (drop row negatives) (drop row counts) (drop at letters) ≡ rows_from reading k negatives counts (drop first letters)
  pub kept : length table ≡ length old

module _ (reading k width : ℕ) (negatives : List Bool) (counts letters : List ℕ) (first : ℕ) (old : List ℤ) (fits : RowsFit reading k width negatives counts letters first old) where
  pub rows_start : Running reading k width negatives counts letters first old old 0 first 0
  rows_start = record { from_is = omega arith; within = omega arith; letters_left = refl; whole = refl; kept = refl }

  module _ (table : List ℤ) (row at from : ℕ) (now : Running reading k width negatives counts letters first old table row at from) (more : row < length counts) where
    -- the row's end in the table
    row_end : from + width ≤ length table
    row_end =
        let a : suc row * width ≤ length counts * width = mul-le-mul_right width more in
        let b = suc-mul row width in
        let d = now.from_is in
        let e = now.kept in
        let f = fits.table_end in
        omega arith

    pub row_fits : RowFits reading k at (at + get_or counts row 0) from (from + width) letters table
    row_fits =
        let a = now.letters_left in
        let b = fits.letters_end in
        let d = sum_next counts row more in
        let e = row_end in
        let w : from + width ≡ from + 4 ^ k = ap (λ (n : ℕ). from + n) fits.width_is in
        record { known = fits.known; k_low = fits.k_low; k_high = fits.k_high; rises = omega arith; letters_end = omega arith; few = fits.few; wide = w; table_end = e }

    abbrev row_here : List ℤ
    row_here = counts_by reading k (get_or negatives row false) (take (get_or counts row 0) (drop at letters))

    rows_here : rows_from reading k (drop row negatives) (drop row counts) (drop at letters)
        ≡ row_here ++ rows_from reading k (drop (row + 1) negatives) (drop (row + 1) counts) (drop (at + get_or counts row 0) letters)
    unfolding rows_from
    rows_here =
        let h : row < length negatives = let a = fits.alike in omega arith in
        rw (add-one row, drop-cons negatives row false h, drop-cons counts row 0 more, drop-drop (get_or counts row 0) at letters)

    pub rows_next : (new : List ℤ) → new ≡ row_stored from (from + width) table (counts_by reading k (get_or negatives row false) (take (at + get_or counts row 0 - at) (drop at letters))) →
        Running reading k width negatives counts letters first old new (row + 1) (at + get_or counts row 0) (from + width)
    unfolding row_stored
    rows_next new is =
        let n : at + get_or counts row 0 - at ≡ get_or counts row 0 = omega arith in
        let e : new ≡ take from table ++ (row_here ++ drop (from + width) table) = rw n at is in
        let a = row_end in
        let w = fits.width_is in
        let l : length (take from table) ≡ from = length-take-le from table (omega arith) in
        let m : length row_here ≡ 4 ^ k = row_length reading k (get_or negatives row false) (take (get_or counts row 0) (drop at letters)) in
        let g : length (take from table ++ row_here) ≡ from + width = rw length-append (omega arith) in
        let front : take (from + width) new ≡ take from table ++ row_here =
        rw (e, ← append_assoc (take from table) row_here (drop (from + width) table)) (take_at (take from table ++ row_here) (drop (from + width) table) (from + width) g) in
        let long : length new ≡ length table = rw (e, length-append, length-append, length-drop, l, m) (omega arith) in
        let b = suc-mul row width in
        let d = now.from_is in
        let s = sum_next counts row more in
        let t = now.letters_left in
        let r : row + 1 ≡ suc row = add-one row in
        let step : (row + 1) * width ≡ row * width + width = rw r b in
        record {
          from_is = omega arith;
          within = omega arith;
          letters_left = omega arith;
          whole = rw (
            front,
            append_assoc (take from table) row_here (rows_from reading k (drop (row + 1) negatives) (drop (row + 1) counts)
                (drop (at + get_or counts row 0) letters)),
            ← rows_here,
          ) now.whole;
          kept = long ∙ now.kept;
        }

  pub rows_done : (table : List ℤ) (row at from : ℕ) → Running reading k width negatives counts letters first old table row at from → length counts ≤ row →
      RowsCounted reading k width negatives counts letters first at old table
  rows_done table row at from now end =
      let a = now.within in
      let r : row ≡ length counts = omega arith in
      let b = fits.alike in
      let no-counts : drop row counts ≡ [] = drop_of_length-le counts {i = row} end in
      let no-flags : drop row negatives ≡ [] = drop_of_length-le negatives {i = row} (omega arith) in
      let f : from ≡ length counts * width = now.from_is ∙ ap (λ (n : ℕ). n * width) r in
      let none : rows_from reading k (drop row negatives) (drop row counts) (drop at letters) ≡ [] =
      ap (λ (l : List Bool). rows_from reading k l (drop row counts) (drop at letters)) no-flags ∙ rows_none reading k (drop row counts) (drop at letters) in
      let w : take from table ++ [] ≡ rows_from reading k negatives counts (drop first letters) = ap (λ (l : List ℤ). take from table ++ l) (sym none) ∙ now.whole in
      let s : at + 0 ≡ first + sum counts = ap (λ (n : ℕ). at + n) (sym (ap sum no-counts ∙ sum_none)) ∙ now.letters_left in
      record {
        front = rw (← f) (sym (append-nil (take from table)) ∙ w);
        next = omega arith;
        kept = now.kept;
      }
