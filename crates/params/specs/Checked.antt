-- What an accepted job is known to be: the limits of document 01, as the functions behind the checks ask them. No public promise cites this file.
use Rattle.std.specs.Prelude.{ℕ, ◌*◌, ◌^◌, ◌≤◌, ◌≡◌, List, ℤ, pos, nat_abs, length, get_or}
use Rattle.metrics.specs.Similarity.{magnitude_sum}
use Rattle.params.specs.Numbers.{Table, Parts, row_at}
use Rattle.params.specs.declared.Settings.{Settings}

-- n feature rows of e entries, each within its limit
pub record Flat (n e : ℕ) (table : List ℤ) : Type 0 where
  pub few : n ≤ 64
  pub short : e ≤ 4096
  pub flat : length table ≡ n * e
  pub rowed : (r : ℕ) → magnitude_sum (row_at e table r) ≤ 131072

-- sizes within their limit
pub record Sized (sizes : List ℤ) : Type 0 where
  pub few : length sizes ≤ 64
  pub sized : (r : ℕ) → nat_abs (get_or sizes r (pos 0)) ≤ 131072

pub record Checked (s : Settings) (t : Table) (p : Parts) : Type 0 where
  pub k_low : 1 ≤ s.k
  pub k_high : s.k ≤ 6
  pub maxpaths : s.maxpaths ≤ 4095
  pub pileupmax : s.pileupmax ≤ 12
  pub minkfreq : s.minkfreq ≤ 16777216
  pub some : 1 ≤ length t.starts
  pub ends_are : length t.ends ≡ length t.starts
  pub sizes_are : length t.sizes ≡ length t.starts
  pub sized : Sized t.sizes
  pub rows : Flat (length t.sizes) (4 ^ s.k) t.features
  pub part_sized : Sized p.sizes
  pub part_rows : Flat (length p.sizes) (4 ^ s.k) p.features
