-- How the feature rows of several sequences come to stand in one table. No public promise cites this file.
use Rattle.std.specs.Prelude.{ℕ, ◌+◌, ◌*◌, ◌^◌, ◌≤◌, ◌≡◌, Bool, List, [], ◌∷◌, ◌++◌, ℤ, length, take, drop}
use Rattle.metrics.specs.Letters.{counts_by}
use Rattle.form.specs.Lent.{sum}

-- rows counted from letters that stand one sequence behind the other
unfoldable pub rows_from : ℕ → ℕ → List Bool → List ℕ → List ℕ → List ℤ
rows_from reading k [] counts letters = []
rows_from reading k (negative ∷ negatives) [] letters = []
rows_from reading k (negative ∷ negatives) (n ∷ counts) letters =
    counts_by reading k negative (take n letters) ++ rows_from reading k negatives counts (drop n letters)

-- a row that replaces the entries from..to of a table
unfoldable pub row_stored : ℕ → ℕ → List ℤ → List ℤ → List ℤ
row_stored from to table row = take from table ++ (row ++ drop to table)

pub record RowFits (reading k at end from to : ℕ) (letters : List ℕ) (table : List ℤ) : Type 0 where
  pub known : reading ≤ 1
  pub k_low : 1 ≤ k
  pub k_high : k ≤ 4
  pub rises : at ≤ end
  pub letters_end : end ≤ length letters
  pub few : length letters ≤ 32768
  pub wide : to ≡ from + 4 ^ k
  pub table_end : to ≤ length table

pub record RowsFit (reading k width : ℕ) (negatives : List Bool) (counts letters : List ℕ) (first : ℕ) (table : List ℤ) : Type 0 where
  pub known : reading ≤ 1
  pub k_low : 1 ≤ k
  pub k_high : k ≤ 4
  pub width_is : width ≡ 4 ^ k
  pub alike : length negatives ≡ length counts
  pub letters_end : first + sum counts ≤ length letters
  pub few : length letters ≤ 32768
  pub table_end : length counts * width ≤ length table

pub record RowsCounted (reading k width : ℕ) (negatives : List Bool) (counts letters : List ℕ) (first r : ℕ) (old new : List ℤ) : Type 0 where
  pub front : take (length counts * width) new ≡ rows_from reading k negatives counts (drop first letters)
  pub next : r ≡ first + sum counts
  pub kept : length new ≡ length old
