-- Document 01, "Parts, graph, paths": the graph as the paper draws it, over nodes; and that the chains are its paths from source to sink without an overlapping pair (document 02, P5).
use Rattle.std.specs.Prelude.{ℕ, zero, suc, ◌+◌, ◌<◌, ◌≡◌, Bool, true, false, not, cond, ◌&&◌, List, [], ◌∷◌, ◌++◌, map, reverse, leb, ltb, eqb, length, get_or}
use Rattle.metrics.specs.Similarity.{overlaps_of}
use Rattle.kplib.specs.Graph.{node_of, row_of, may_follow_in, is_chain_in}

-- node 0 is the source, V + 1 the sink; V is the number of starts
abbrev pub source : ℕ
source = 0

abbrev pub sink : List ℕ → ℕ
sink starts = length starts + 1

-- a node's start among the starts, its end among the ends: row r's at node r + 1, and 0 at source and sink
abbrev pub bound_at : ℕ → List ℕ → ℕ → ℕ
bound_at v bounds zero = 0
bound_at v bounds (suc r) = cond (ltb r v) (get_or bounds r 0) 0

abbrev pub nodes_overlap : List ℕ → List ℕ → ℕ → ℕ → Bool
nodes_overlap starts ends a b =
    let v = length starts in
    overlaps_of (bound_at v starts a) (bound_at v ends a) (bound_at v starts b) (bound_at v ends b)

-- in a full graph each node has an edge to every later node it does not overlap; a bare graph has only source to sink
abbrev pub graph_edge : List ℕ → List ℕ → Bool → ℕ → ℕ → Bool
graph_edge starts ends true a b = ltb a b && (leb b (sink starts) && not (nodes_overlap starts ends a b))
graph_edge starts ends false a b = eqb a source && eqb b (sink starts)

-- node a has an edge to each node of a list
abbrev pub joins_each : (ℕ → ℕ → Bool) → ℕ → List ℕ → Bool
joins_each joins a [] = true
joins_each joins a (b ∷ nodes) = joins a b && joins_each joins a nodes

-- each node of a list has an edge to every later one
abbrev pub all_joined : (ℕ → ℕ → Bool) → List ℕ → Bool
all_joined joins [] = true
all_joined joins (a ∷ nodes) = joins_each joins a nodes && all_joined joins nodes

-- a path of the graph: from the source through these nodes to the sink, no two of which overlap, neighbours or not (document 02, P5)
abbrev pub is_graph_path : List ℕ → List ℕ → Bool → List ℕ → Bool
is_graph_path starts ends full nodes = all_joined (graph_edge starts ends full) (source ∷ (nodes ++ (sink starts ∷ [])))

module _ (starts ends : List ℕ) (full : Bool) where
  pub record Edges : Type 0 where
    -- a later row may follow a chain where its node has an edge from the chain's last one and it may follow the rows before
    pub between_rows : (r s : ℕ) (c : List ℕ) → r < s → s < length starts
        → may_follow_in starts ends full (r ∷ c) s ≡ (graph_edge starts ends full (node_of r) (node_of s) && may_follow_in starts ends full c s)
    -- and may begin a chain where its node has an edge from the source
    pub from_source : (s : ℕ) → s < length starts → may_follow_in starts ends full [] s ≡ graph_edge starts ends full source (node_of s)
    -- any rows, first row first, are a chain exactly when their nodes are a path of the graph
    pub chains_are_paths : (rows : List ℕ) → is_chain_in starts ends full (reverse rows) ≡ is_graph_path starts ends full (map node_of rows)
    -- and there is no other path: each goes through nodes of rows
    pub paths_are_rows : (nodes : List ℕ) → is_graph_path starts ends full nodes ≡ true → map node_of (map row_of nodes) ≡ nodes

abbrev pub EdgesHold : Type 0
EdgesHold = (starts ends : List ℕ) (full : Bool) → Edges starts ends full
