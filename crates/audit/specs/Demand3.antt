-- Demand 3 of the answer to an accepted job in search mode. Chains are written last row first.
use Rattle.std.specs.Prelude.{ℕ, ◌+◌, ◌≤◌, min, ◌≡◌, true, List, map, reverse, leb, length}
use Rattle.std.specs.Float.Ieee.{le}
use Rattle.paths.specs.Sums.{times_in}
use Rattle.paths.specs.Best.{Latest}
use Rattle.paths.specs.Demand.{Lists, NumberOfChains}
use Rattle.params.specs.Numbers.{Table, Parts, Call}
use Rattle.kplib.specs.Graph.{is_chain_in, chains_of}
use Rattle.kplib.specs.Score.{chain_score}
use Rattle.kplib.specs.Search.{Result, no_lower, follows_in, scored_in, result_of}
use Rattle.kplib.specs.Answer.{answer_of, rows_of, searches}
use Rattle.params.specs.declared.Settings.{Settings}
use Rattle.kplib.specs.declared.traverse.Answer.{Answer}

-- the rows and the score that an answer gives
abbrev pub result_in : Answer → List ℕ → Result
result_in a rows = record { rows = rows; scored = record { target = a.target; score = a.score; sizesim = a.sizesim; seqsim = a.seqsim } }

module _ (c : Call) where
  abbrev s : Settings
  s = c.settings

  abbrev t : Table
  t = c.table

  abbrev p : Parts
  p = c.parts

  pub record Demand3 : Type 0 where
    -- only chains of the graph are scored
    pub only_chains : (x : List ℕ) → 1 ≤ times_in x (scored_in s t p) → is_chain_in t.starts t.ends s.full x ≡ true
    -- and none twice
    pub none_twice : (x : List ℕ) → times_in x (scored_in s t p) ≤ 1
    -- the count reported is their number
    pub counted : (answer_of c).scored ≡ length (scored_in s t p)
    -- N is the number of chains: some list of N members holds each chain of the graph once and nothing else, and every list that does has N
    pub n_counts : NumberOfChains (follows_in s t p) (length t.starts) (chains_of t.starts t.ends s.full)
    -- the count reported is the smaller of N and maxpaths + 1
    pub as_many : (answer_of c).scored ≡ min (chains_of t.starts t.ends s.full) (s.maxpaths + 1)
    -- complete is yes exactly when N is at most maxpaths + 1
    pub complete_when : (answer_of c).complete ≡ leb (chains_of t.starts t.ends s.full) (s.maxpaths + 1)
    -- and then every chain of the graph is scored
    pub complete_all : (answer_of c).complete ≡ true → Lists (follows_in s t p) (length t.starts) (scored_in s t p)
    -- the answer is the scoring's result for the latest of the best among the chains scored
    pub latest_best : Latest no_lower (result_in (answer_of c) (rows_of c)) (map (result_of s t p) (scored_in s t p))
    -- and when complete is yes no chain of the graph scores higher
    pub none_higher : (answer_of c).complete ≡ true → (x : List ℕ) → is_chain_in t.starts t.ends s.full x ≡ true
        → le (chain_score s t p (reverse x)).score (answer_of c).score ≡ true

-- demand 3: so it is for every job that is accepted and in search mode
abbrev pub Demand3Holds : Type 0
Demand3Holds = (c : Call) → searches c ≡ true → Demand3 c
