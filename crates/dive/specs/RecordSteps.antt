-- The records of several haplotypes, by what their rows and reports hold. No public promise cites this file.
use Rattle.std.specs.Prelude.{ℕ, ◌+◌, ◌*◌, ◌≤◌, ◌<◌, List, length, get_or, take, drop}
use Rattle.dive.specs.Numbered.{records_at}

-- how many rows the report of haplotype i counts, and the records of so many in its stretch of v
abbrev pub row_count : List ℕ → ℕ → ℕ
row_count reports i = get_or reports (i * 8 + 1) 0

abbrev pub records_in : ℕ → List ℕ → List ℕ → List ℕ → ℕ → List ℕ
records_in v numbers rows reports i = records_at numbers (take (row_count reports i) (drop (i * v) rows))

-- n haplotypes have their stretches in each buffer
pub record Stretched (v n : ℕ) (rows reports records : List ℕ) : Type 0 where
  pub few : n ≤ 16
  pub v_few : v ≤ 64
  pub rows_room : n * v ≤ length rows
  pub records_room : n * v ≤ length records
  pub reports_room : n * 8 ≤ length reports
  pub counted : (i : ℕ) → i < n → row_count reports i ≤ v
