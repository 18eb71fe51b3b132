-- The queue as flat lists of numbers, in the words of the private contracts of the search: no public promise cites this file.
-- Entry 0 is the empty chain; any other entry has a parent, an earlier entry, and the row that it adds to the parent's chain.
use Rattle.std.specs.Prelude.{◌≡◌, ℕ, zero, suc, ◌+◌, ◌-◌, ◌*◌, ◌%◌, ◌≤◌, ◌<◌, Bool, true, List, [], ◌∷◌, ◌++◌, map, length, get_or, take}
use Rattle.paths.specs.Chains.{extensions, is_chain}
use Rattle.paths.specs.Search.{none, scored, left}
use Rattle.paths.specs.Best.{best, All}
use Rattle.paths.specs.Demand.{scored_chains, left_chains}
use Rattle.paths.specs.Heap.{Heap}

-- the chain of entry k, where T is the chains of the entries before it
abbrev pub entry : List (List ℕ) → ℕ → ℕ → ℕ → List ℕ
entry T zero p r = []
entry T (suc k) p r = r ∷ get_or T p []

-- the chains of the first k entries
unfoldable pub table : List ℕ → List ℕ → ℕ → List (List ℕ)
table parents rows zero = []
table parents rows (suc k) = table parents rows k ++ (entry (table parents rows k) k (get_or parents k 0) (get_or rows k 0) ∷ [])

-- the chain of entry e
unfoldable pub chain_at : List ℕ → List ℕ → ℕ → List ℕ
unfolding table
chain_at parents rows e = get_or (table parents rows (suc e)) e []

-- each of the first n entries but the empty chain comes after its parent
abbrev pub Links : List ℕ → ℕ → Type 0
Links parents n = (i : ℕ) → 0 < i → i < n → get_or parents i 0 < i

-- an entry's key: the least key is the nearest chain, the earliest queued among equals
abbrev pub key_of : ℕ → ℕ → ℕ
key_of distance e = distance * 1048576 + e

abbrev pub entry_of : ℕ → ℕ
entry_of key = key % 1048576

-- the keys' entries rise: the keys stand in the order of queueing
abbrev pub Rising : List ℕ → Type 0
Rising [] = Unit {0}
Rising (k ∷ keys) = All (λ j. entry_of k < entry_of j) keys × Rising keys

-- each key is that of one of the first n entries
pub record Key (D : List ℕ → ℕ) (parents rows : List ℕ) (n k : ℕ) : Type 0 where
  pub within : entry_of k < n
  pub is : k ≡ key_of (D (chain_at parents rows (entry_of k))) (entry_of k)

-- the chains that the keys stand for
abbrev pub queued_chains : List ℕ → List ℕ → List ℕ → List (List ℕ)
queued_chains parents rows keys = map (λ k. chain_at parents rows (entry_of k)) keys

-- entry e's chain can be read back into a list of `room` rows
pub record Walk (parents rows : List ℕ) (e room : ℕ) : Type 0 where
  pub parent_room : e < length parents
  pub row_room : e < length rows
  pub links : Links parents (suc e)
  pub fits : length (chain_at parents rows e) ≤ room

-- the first n entries: each is a chain, and has its parent before it
pub record Tree (follows : List ℕ → ℕ → Bool) (v : ℕ) (parents rows : List ℕ) (n : ℕ) : Type 0 where
  pub some : 0 < n
  pub few : n ≤ 1048576
  pub chains : (e : ℕ) → e < n → is_chain follows v (chain_at parents rows e) ≡ true
  pub links : Links parents n

-- of the n entries those that `keys` names, in the order of queueing, still wait
pub record Queue (follows : List ℕ → ℕ → Bool) (v : ℕ) (D : List ℕ → ℕ) (parents rows keys : List ℕ) (n : ℕ) : Type 0 where
  pub tree : Tree follows v parents rows n
  pub keyed : All (λ k. Key D parents rows n k) keys
  pub rising : Rising keys

-- the extensions of entry e's chain stand behind the first n entries; `new` is their keys in the order of queueing, and these are put to the heap of q; nothing else changed
pub record Queued (follows : List ℕ → ℕ → Bool) (v : ℕ) (D : List ℕ → ℕ) (parents rows keys : List ℕ) (q n e : ℕ) (parents' rows' keys' : List ℕ) (added : ℕ) : Type 0 where
  pub most : added ≤ v
  pub kept : (i : ℕ) → i < n → chain_at parents' rows' i ≡ chain_at parents rows i
  pub new : List ℕ
  pub queue : Queue follows v D parents' rows' new (n + added)
  pub late : All (λ k. n ≤ entry_of k) new
  pub heap : Heap keys' (q + added) (take q keys ++ new)
  pub chains : queued_chains parents' rows' new ≡ extensions follows v (chain_at parents rows e)

-- after k steps, where `keys` wait in the order of queueing: what is done and what is left come to the whole
pub record Running {R : Type 0} (le : R → R → Bool) (start : R) (score : List ℕ → R) (follows : List ℕ → ℕ → Bool) (v : ℕ) (D : List ℕ → ℕ) (steps : ℕ)
    (parents rows keys : List ℕ) (n k : ℕ) (b : R) : Type 0 where
  pub queue : Queue follows v D parents rows keys n
  pub all : length keys + k ≡ n
  pub room : n ≤ 1 + k * v
  pub below : k ≤ steps
  pub counted : k + length (scored D (λ c. extensions follows v c) (steps - k) (queued_chains parents rows keys)) ≡ length (scored_chains follows v D steps)
  pub lefts : left D (λ c. extensions follows v c) (steps - k) (queued_chains parents rows keys) ≡ left_chains follows v D steps
  pub bests : best le b (map score (scored D (λ c. extensions follows v c) (steps - k) (queued_chains parents rows keys))) ≡ best le start (map score (scored_chains follows v D steps))

-- what a search has when it ends
pub record Ended {R : Type 0} (le : R → R → Bool) (start : R) (score : List ℕ → R) (follows : List ℕ → ℕ → Bool) (v : ℕ) (D : List ℕ → ℕ) (steps k : ℕ) (b : R) (complete : Bool) : Type 0 where
  pub best_is : b ≡ best le start (map score (scored_chains follows v D steps))
  pub count_is : k ≡ length (scored_chains follows v D steps)
  pub complete_is : complete ≡ none (left_chains follows v D steps)
