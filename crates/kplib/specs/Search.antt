-- Document 01, "Search": which chains are scored, by the step rule (paths, specs/Search), and the best of their results. Chains are written last row first.
use Rattle.std.specs.Prelude.{ℕ, ◌+◌, Bool, List, [], map, reverse, ℤ, nat_abs, ◌-ℤ◌, length}
use Rattle.std.specs.Float.Ieee.{le}
use Rattle.paths.specs.Demand.{scored_chains, left_chains}
use Rattle.paths.specs.Best.{best}
use Rattle.params.specs.Numbers.{Table, Parts}
use Rattle.kplib.specs.Graph.{may_follow_in}
use Rattle.kplib.specs.Parts.{whole_of}
use Rattle.kplib.specs.Sums.{size_of}
use Rattle.kplib.specs.Score.{start, chain_score}
use Rattle.params.specs.declared.Settings.{Settings}
use Rattle.kplib.specs.declared.pathscore.Scored.{Scored}
use Rattle.kplib.specs.declared.pathscore.Target.{Target}
use Rattle.kplib.specs.declared.pathscore.Target.TheVariants.{Nothing, Whole, Partial}

-- how far a chain's size is from the haplotype's, as whole numbers
unfoldable pub distance_to : List ℤ → ℤ → List ℕ → ℕ
distance_to sizes target c = nat_abs (size_of sizes (reverse c) -ℤ target)

abbrev pub haplotype_size : List ℤ → ℤ
haplotype_size part_sizes = size_of part_sizes (whole_of (length part_sizes))

-- what the search keeps of a chain: rows, ascending, and a score
pub record Result : Type 0 where
  pub rows : List ℕ
  pub scored : Scored

-- no rows where no part list matched: then the scoring's start is the whole result
abbrev pub rows_for : Target → List ℕ → List ℕ
rows_for Nothing rows = []
rows_for Whole rows = rows
rows_for (Partial n) rows = rows

abbrev pub result_with : List ℕ → Scored → Result
result_with rows x = record { rows = rows_for x.target rows; scored = x }

abbrev pub start_result : Result
start_result = record { rows = []; scored = start }

-- a later equal score replaces an earlier one: r takes b's place unless it is lower
abbrev pub no_lower : Result → Result → Bool
no_lower b r = le b.scored.score r.scored.score

module _ (s : Settings) (t : Table) (p : Parts) where
  abbrev pub follows_in : List ℕ → ℕ → Bool
  follows_in = may_follow_in t.starts t.ends s.full

  abbrev pub distance_in : List ℕ → ℕ
  distance_in = distance_to t.sizes (haplotype_size p.sizes)

  -- the chains scored, in order: it stops after maxpaths + 1 or when none is queued
  abbrev pub scored_in : List (List ℕ)
  scored_in = scored_chains follows_in (length t.starts) distance_in (s.maxpaths + 1)

  -- the chains still queued then
  abbrev pub left_in : List (List ℕ)
  left_in = left_chains follows_in (length t.starts) distance_in (s.maxpaths + 1)

  -- the scoring's result for a chain
  unfoldable pub result_of : List ℕ → Result
  result_of c = result_with (reverse c) (chain_score s t p (reverse c))

  -- the best of them, beginning with the scoring's start
  abbrev pub best_in : Result
  best_in = best no_lower start_result (map result_of scored_in)
