-- Document 01, "Parts, graph, paths", and document 02, P5: nodes, edges, chains and their number N. Chains are written last row first (paths, specs/Chains).
use Rattle.std.specs.Prelude.{ℕ, ◌+◌, ◌-◌, min, Bool, not, List, length, get_or, Result, Ok, Err}
use Rattle.metrics.specs.declared.refusals.Refusal.{Refusal}
use Rattle.metrics.specs.Refusals.{refused_or}
use Rattle.metrics.specs.Similarity.{overlaps_of}
use Rattle.paths.specs.Chains.{extends, is_chain}
use Rattle.paths.specs.Count.{may_follow, chain_count}
use Rattle.params.specs.Numbers.{chain_count_fault}

-- node 0 is the source, V + 1 the sink, variant row r is node r + 1
abbrev pub node_of : ℕ → ℕ
node_of r = r + 1

abbrev pub row_of : ℕ → ℕ
row_of node = node - 1

-- rows r and s, the later last, have an edge: they do not overlap
unfoldable pub edge : List ℕ → List ℕ → ℕ → ℕ → Bool
edge starts ends r s = not (overlaps_of (get_or starts r 0) (get_or ends r 0) (get_or starts s 0) (get_or ends s 0))

-- the graph's rule: row s may follow chain c. In a bare graph none may; else every row of c is asked (document 02, P5)
abbrev pub may_follow_in : List ℕ → List ℕ → Bool → List ℕ → ℕ → Bool
may_follow_in starts ends full c s = may_follow (edge starts ends) full c s

-- a later row that extends c, and whether c is a chain of the table
abbrev pub extends_in : List ℕ → List ℕ → Bool → List ℕ → ℕ → Bool
extends_in starts ends full = extends (may_follow_in starts ends full)

abbrev pub is_chain_in : List ℕ → List ℕ → Bool → List ℕ → Bool
is_chain_in starts ends full = is_chain (may_follow_in starts ends full) (length starts)

-- N: the number of ascending lists of rows without an overlapping pair, the empty one counted; 1 in a bare graph
abbrev pub chains_of : List ℕ → List ℕ → Bool → ℕ
chains_of starts ends full = chain_count (edge starts ends) (length starts) full

-- the value that the paper gives a count, 0 where it is refused; its number is what it is told as
abbrev pub count_value : Result ℕ Refusal → ℕ
count_value (Ok n) = n
count_value (Err refusal) = 0

-- the chain count up to a cap: the smaller of N and cap
unfoldable pub capped_count : List ℕ → List ℕ → Bool → ℕ → Result ℕ Refusal
capped_count starts ends full cap = refused_or (chain_count_fault cap starts ends) (min (chains_of starts ends full) cap)
