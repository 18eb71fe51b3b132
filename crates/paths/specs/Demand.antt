-- Demand 3 of a search that begins with the empty chain queued and makes at most `steps` steps, over any graph rule, distance and score.
use Rattle.std.specs.Prelude.{ℕ, ◌≤◌, min, ◌≡◌, Bool, true, false, List, [], ◌∷◌, map, leb, length}
use Rattle.paths.specs.Sums.{times_in}
use Rattle.paths.specs.Chains.{extensions, is_chain, chains_from}
use Rattle.paths.specs.Search.{none, scored, left}
use Rattle.paths.specs.Best.{best, Latest}

module _ (follows : List ℕ → ℕ → Bool) (n : ℕ) (dist : List ℕ → ℕ) (steps : ℕ) where
  -- the chains scored, in order
  abbrev pub scored_chains : List (List ℕ)
  scored_chains = scored dist (λ c. extensions follows n c) steps ([] ∷ [])

  -- the chains still queued at the end
  abbrev pub left_chains : List (List ℕ)
  left_chains = left dist (λ c. extensions follows n c) steps ([] ∷ [])

-- l lists the chains of the graph, each once
pub record Lists (follows : List ℕ → ℕ → Bool) (n : ℕ) (l : List (List ℕ)) : Type 0 where
  pub each_chain : (x : List ℕ) → is_chain follows n x ≡ true → times_in x l ≡ 1
  pub nothing_else : (x : List ℕ) → is_chain follows n x ≡ false → times_in x l ≡ 0

-- so many chains has the graph: some list of that length lists them, and every list that does has that length
pub record NumberOfChains (follows : List ℕ → ℕ → Bool) (n count : ℕ) : Type 0 where
  pub chains : List (List ℕ)
  pub listed : Lists follows n chains
  pub number : length chains ≡ count
  pub every : (l : List (List ℕ)) → Lists follows n l → length l ≡ count

module _ {R : Type 0} (le : R → R → Bool) (start : R) (score : List ℕ → R) where
  pub record SearchDemand (follows : List ℕ → ℕ → Bool) (n : ℕ) (dist : List ℕ → ℕ) (steps : ℕ) : Type 0 where
    -- only chains are scored
    pub only_chains : (x : List ℕ) → 1 ≤ times_in x (scored_chains follows n dist steps) → is_chain follows n x ≡ true
    -- and none twice
    pub none_twice : (x : List ℕ) → times_in x (scored_chains follows n dist steps) ≤ 1
    -- their number is the smaller of N and the steps
    pub as_many : length (scored_chains follows n dist steps) ≡ min (chains_from follows n []) steps
    -- nothing is left queued exactly when N is at most the steps
    pub complete_when : none (left_chains follows n dist steps) ≡ leb (chains_from follows n []) steps
    -- and then every chain is scored
    pub complete_all : none (left_chains follows n dist steps) ≡ true → Lists follows n (scored_chains follows n dist steps)
    -- the answer is the latest of the best among the chains scored
    pub latest_best : Latest le (best le start (map score (scored_chains follows n dist steps))) (map score (scored_chains follows n dist steps))
    -- and when the search is complete no chain of the graph scores higher
    pub none_higher : none (left_chains follows n dist steps) ≡ true → (x : List ℕ) → is_chain follows n x ≡ true
        → le (score x) (best le start (map score (scored_chains follows n dist steps))) ≡ true
