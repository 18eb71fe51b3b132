-- What the pass over a chain's row and a list's rows, block by block, asks and promises. No public promise cites this file.
use Rattle.std.specs.Prelude.{ℕ, ◌+◌, ◌*◌, ◌≤◌, ◌<◌, ◌≡◌, List, [], ◌∷◌, ℤ, nat_abs, length, take, drop}
use Rattle.metrics.specs.Similarity.{magnitude_sum, part_d, part_n, sum_d, sum_n}
use Rattle.kplib.specs.Sums.{row_plus}
use Rattle.kplib.specs.Scoring.{Summable}
use Rattle.kplib.specs.declared.sums.Sums.{Sums}

-- l entries, from i on, of each row that is left, added one by one
unfoldable pub parts_from : ℕ → ℕ → ℕ → List ℤ → List ℤ → List ℕ → List ℤ
unfolding row_plus
parts_from e i l table x [] = x
parts_from e i l table x (r ∷ rows) = parts_from e i l table (row_plus x (take l (drop (r * e + i) table))) rows

-- the sums with one more pair of entries, and with two more rows
abbrev pub pair_on : ℕ → ℤ → ℤ → Sums → Sums
pair_on m x y s = record { d = s.d + part_d m x y; n = s.n + part_n m x y }

abbrev pub sums_on : ℕ → List ℤ → List ℤ → Sums → Sums
sums_on m a b s = record { d = s.d + sum_d m a b; n = s.n + sum_n m a b }

abbrev pub no_sums : Sums
no_sums = record { d = 0; n = 0 }

-- a pair of entries within a row's limit, and sums of two rows within theirs
pub record Addable (s : Sums) (x y : ℤ) (m : ℕ) : Type 0 where
  pub first : nat_abs x ≤ 8388608
  pub second : nat_abs y ≤ 8388608
  pub minkfreq : m ≤ 16777216
  pub low_d : s.d ≤ 33554432
  pub low_n : s.n ≤ 33554432

-- two rows within their limit, and sums that two rows within theirs may have
pub record Passable (s : Sums) (a b : List ℤ) (m : ℕ) : Type 0 where
  pub even : length a ≡ length b
  pub first : magnitude_sum a ≤ 8388608
  pub second : magnitude_sum b ≤ 8388608
  pub minkfreq : m ≤ 16777216
  pub low_d : s.d ≤ 16777216
  pub low_n : s.n ≤ 16777216

-- a block of a summed chain and of a list's rows
pub record Blockable (s : Sums) (table : List ℤ) (rows : List ℕ) (chainRow : List ℤ) (from to m : ℕ) : Type 0 where
  pub summed : Summable (length chainRow) table rows
  pub chain : magnitude_sum chainRow ≤ 8388608
  pub minkfreq : m ≤ 16777216
  pub some : from < to
  pub inside : to ≤ length chainRow
  pub short : to ≤ from + 128
  pub low_d : s.d ≤ 16777216
  pub low_n : s.n ≤ 16777216
