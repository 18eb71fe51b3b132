-- What the parts of the fast pass over two rows promise. No public promise cites this file.
use Rattle.std.specs.Prelude.{◌≡◌, ℕ, ◌+◌, ◌*◌, ◌<◌, ◌≤◌, cond, List, length, ℤ, nat_le, slice_index}
use Rattle.metrics.specs.declared.lanes.Sums.{Sums}
use Rattle.metrics.specs.declared.lanes.RowSum.{RowSum}
use Rattle.std.specs.Prelude.{Option, Some, None}
use Rattle.metrics.specs.Letters.{encoded}
use Rattle.metrics.specs.Similarity.{magnitude_sum, sum_d, sum_n}

-- one more pair of entries, of magnitudes p and q and z apart: `most` bounds both, and where nothing wraps d and n take the pair's share
pub record Added (m p q z : ℕ) (s r : Sums) : Type 0 where
  pub grows : s.most ≤ r.most
  pub holds_p : p ≤ r.most
  pub holds_q : q ≤ r.most
  pub more_d : p + q < 2147483648 → s.d + (p + q) < 4294967296 → r.d ≡ s.d + cond (nat_le m (p + q)) (p + q) 0
  pub more_n : p + q < 2147483648 → s.n + z < 4294967296 → r.n ≡ s.n + cond (nat_le m (p + q)) z 0

-- a whole pass: `most` bounds each entry, and where the rows are not very large the sums are right
pub record Summed (m : ℕ) (a b : List ℤ) (r : Sums) : Type 0 where
  pub room_a : magnitude_sum a ≤ length a * r.most
  pub room_b : magnitude_sum b ≤ length b * r.most
  pub exact_d : magnitude_sum a + magnitude_sum b < 2147483648 → r.d ≡ sum_d m a b
  pub exact_n : magnitude_sum a + magnitude_sum b < 2147483648 → r.n ≡ sum_n m a b

-- one row: `most` bounds each entry, and where nothing wraps the sum is right
pub record RowSummed (a : List ℤ) (r : RowSum) : Type 0 where
  pub room : magnitude_sum a ≤ length a * r.most
  pub exact : magnitude_sum a < 4294967296 → r.sum ≡ magnitude_sum a

-- a letter's code with a mark that there is one, or 0 for none; a table that has this of each byte
abbrev pub entry_of : Option ℕ → ℕ
entry_of (Some n) = n + 4096
entry_of None = 0

pub record Coded (t : List ℕ) : Type 0 where
  pub at : (b : ℕ) → b < 256 → slice_index t b ≡ entry_of (encoded b)
