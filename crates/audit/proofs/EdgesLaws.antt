-- Rows grow a chain as their nodes lengthen a path, one by one, each joined to all before it; a row past the table stands for the sink or for no node, from which no edge leads on.
use Prim.Native.Nat.{ℕ, zero, suc, ◌+◌, ◌-◌, ◌≤◌, ◌<◌}
use native.Mathlib.Omega.{arith}
use native.Mathlib.Numerals.{add-one}
use mathlib.Core.Path.{◌≡◌, refl, sym, ◌∙◌}
use mathlib.Core.Bool.{Bool, true, false, not, ◌&&◌}
use mathlib.Core.List.{List, [], ◌∷◌, ◌++◌, map, reverse_aux}
use borrow.Author.Tests.{lt-ltb, le-ltb, le-leb, lt-leb, eq-eqb, ne_eqb, leb-true, leb-false, ltb-true, ltb-false}
use lib.Dec.{leb, ltb, eqb}
use lib.ListN.{length, get_or}
use Rattle.paths.specs.Chains.{first_after, extends, is_chain}
use Rattle.paths.specs.Count.{stands_with_all}
use Rattle.paths.proofs.BooleanLaws.{clash, and_both, and_false, and_true, and_assoc}
use Rattle.paths.proofs.CountLaws.{chain_rule}
use Rattle.paths.proofs.QueueLaws.{chain_parts}
use Rattle.kplib.specs.Graph.{node_of, row_of, edge, may_follow_in, extends_in, is_chain_in}
use Rattle.audit.specs.Edges.{source, sink, bound_at, nodes_overlap, graph_edge, joins_each, all_joined, EdgesHold}
use Rattle.audit.proofs.AnchorsLaws.{anchors}

regroup : (source row chain rest each : Bool) → ((source && (row && chain)) && (rest && each)) ≡ (((source && chain) && rest) && (row && each))
regroup false row chain rest each = refl
regroup true true chain rest each = sym (and_assoc chain rest each)
regroup true false chain rest each = sym (and_false (chain && rest))

bound_row : (v : ℕ) (bounds : List ℕ) (r : ℕ) → r < v → bound_at v bounds (r + 1) ≡ get_or bounds r 0
bound_row v bounds r h = rw (add-one r, lt-ltb r v h)

module _ (starts ends : List ℕ) where
  abbrev size : ℕ
  size = length starts

  -- ---- edges
  row_edge : (r s : ℕ) → r < s → s < size → graph_edge starts ends true (r + 1) (s + 1) ≡ edge starts ends r s
  unfolding edge
  row_edge r s h l =
      let below : r < size = omega arith in
      let row = bound_row size in
      rw (lt-ltb (r + 1) (s + 1) (omega arith), le-leb (s + 1) (size + 1) (omega arith), row starts r below, row ends r below, row starts s l, row ends s l)

  source_edge : (b : ℕ) → 0 < b → b ≤ size + 1 → graph_edge starts ends true 0 b ≡ true
  source_edge b h l = rw (lt-ltb 0 b h, le-leb b (size + 1) l, anchors.as_first (bound_at size starts b) (bound_at size ends b))

  sink_bound : (bounds : List ℕ) → bound_at size bounds (size + 1) ≡ 0
  sink_bound bounds = rw (add-one size, le-ltb size size (omega arith))

  sink_edge : (a : ℕ) → a < size + 1 → graph_edge starts ends true a (size + 1) ≡ true
  sink_edge a h =
      rw (lt-ltb a (size + 1) h, le-leb (size + 1) (size + 1) (omega arith), sink_bound starts, sink_bound ends, anchors.as_second (bound_at size starts a) (bound_at size ends a))

  -- no edge leads on from the sink, or from past it
  none_on : (full : Bool) (a b : ℕ) → size + 1 ≤ a → graph_edge starts ends full a b ≡ false
  none_on true a b h = go (ltb a b) refl
    where
      go : (t : Bool) → ltb a b ≡ t → (ltb a b && (leb b (size + 1) && not (nodes_overlap starts ends a b))) ≡ false
      go true e = rw (e, lt-leb b (size + 1) (omega (arith, ltb-true a b e)))
      go false e = rw e
  none_on false a b h = rw (ne_eqb a 0 (λ e. omega arith))

  -- nor back to the source
  none_back : (full : Bool) (a : ℕ) → graph_edge starts ends full a 0 ≡ false
  none_back true a = rw (le-ltb a 0 (omega arith))
  none_back false a = rw (ne_eqb 0 (size + 1) (λ e. omega arith)) (and_false (eqb a 0))

  between : (full : Bool) (r s : ℕ) (c : List ℕ) → r < s → s < size
      → may_follow_in starts ends full (r ∷ c) s ≡ (graph_edge starts ends full (node_of r) (node_of s) && may_follow_in starts ends full c s)
  between true r s c h l = rw (row_edge r s h l)
  between false r s c h l = rw (ne_eqb (r + 1) 0 (λ e. omega arith))

  begins : (full : Bool) (s : ℕ) → s < size → may_follow_in starts ends full [] s ≡ graph_edge starts ends full source (node_of s)
  begins true s l = sym (source_edge (s + 1) (omega arith) (omega arith))
  begins false s l = rw (ne_eqb (s + 1) (size + 1) (λ e. omega arith))

  -- ---- edges from the source and from each row of a chain
  abbrev from_rows : Bool → List ℕ → ℕ → Bool
  from_rows full [] b = true
  from_rows full (r ∷ c) b = graph_edge starts ends full (r + 1) b && from_rows full c b

  abbrev from_chain : Bool → List ℕ → ℕ → Bool
  from_chain full c b = graph_edge starts ends full 0 b && from_rows full c b

  abbrev from_all : Bool → List ℕ → List ℕ → Bool
  from_all full c [] = true
  from_all full c (b ∷ l) = from_chain full c b && from_all full c l

  from_none : (full : Bool) (l : List ℕ) → from_all full [] l ≡ joins_each (graph_edge starts ends full) 0 l
  from_none full [] = refl
  from_none full (b ∷ l) = rw (and_true (graph_edge starts ends full 0 b), from_none full l)

  from_longer : (full : Bool) (s : ℕ) (c l : List ℕ) → from_all full (s ∷ c) l ≡ (from_all full c l && joins_each (graph_edge starts ends full) (s + 1) l)
  from_longer full s c [] = refl
  from_longer full s c (b ∷ l) =
      rw (from_longer full s c l) (regroup (graph_edge starts ends full 0 b) (graph_edge starts ends full (s + 1) b) (from_rows full c b) (from_all full c l)
      (joins_each (graph_edge starts ends full) (s + 1) l))

  -- a chain of a bare graph is empty
  no_bare : (r : ℕ) (c : List ℕ) → is_chain_in starts ends false (r ∷ c) ≡ true → ⊥
  no_bare r c h = clash (is_chain_in starts ends false (r ∷ c)) ((chain_rule (edge starts ends) size).bare (r ∷ c)) h

  rows_joined : (c : List ℕ) (s : ℕ) → is_chain_in starts ends true c ≡ true → first_after c ≤ s → s < size → stands_with_all (edge starts ends) c s ≡ from_rows true c (s + 1)
  rows_joined [] s h k l = refl
  rows_joined (r ∷ c) s h k l =
      let p = chain_parts (may_follow_in starts ends true) size r c h in
      rw (row_edge r s k l, rows_joined c s p.0 (omega arith) l)

  -- a row of the table extends a chain where its node has an edge from the source and from each of the chain's
  step_edge : (full : Bool) (c : List ℕ) (s : ℕ) → is_chain_in starts ends full c ≡ true → s < size → extends_in starts ends full c s ≡ from_chain full c (s + 1)
  unfolding extends
  step_edge false [] s h l = rw (ne_eqb (s + 1) (size + 1) (λ e. omega arith)) (and_false (leb 0 s))
  step_edge false (r ∷ c) s h l = absurd (no_bare r c h)
  step_edge true c s h l = rw (source_edge (s + 1) (omega arith) (omega arith)) (go (leb (first_after c) s) refl)
    where
      late : (c : List ℕ) → s < first_after c → from_rows true c (s + 1) ≡ false
      late [] k = absurd (omega arith)
      late (r ∷ c) k = rw (le-ltb (r + 1) (s + 1) (omega arith))

      go : (t : Bool) → leb (first_after c) s ≡ t → (leb (first_after c) s && stands_with_all (edge starts ends) c s) ≡ from_rows true c (s + 1)
      go true e = rw e (rows_joined c s h (leb-true (first_after c) s e) l)
      go false e = rw e (sym (late c (leb-false (first_after c) s e)))

  -- ---- chains
  -- what has grown from no chain is none
  never : (full : Bool) (rows c : List ℕ) → is_chain_in starts ends full c ≡ false → is_chain_in starts ends full (reverse_aux rows c) ≡ false
  unfolding is_chain
  never full [] c h = h
  never full (s ∷ rows) c h = never full rows (s ∷ c) (rw h)

  -- one row more
  chain_step : (full : Bool) (s : ℕ) (c : List ℕ) {u : Bool} → is_chain_in starts ends full c ≡ true → ltb s size ≡ true → extends_in starts ends full c s ≡ u → is_chain_in starts ends
      full (s ∷ c) ≡ u
  unfolding is_chain
  chain_step full s c h e f = rw (h, e) f

  chain_out : (full : Bool) (s : ℕ) (c : List ℕ) → ltb s size ≡ false → is_chain_in starts ends full (s ∷ c) ≡ false
  unfolding is_chain
  chain_out full s c e = rw e (and_false (is_chain_in starts ends full c))

  -- ---- paths
  -- the nodes of the rows that are to come, and the sink
  abbrev ahead : List ℕ → List ℕ
  ahead rows = map node_of rows ++ (sink starts ∷ [])

  past : (full : Bool) (a : ℕ) (rows : List ℕ) → size + 1 ≤ a → joins_each (graph_edge starts ends full) a (ahead rows) ≡ false
  past full a [] h = rw (none_on full a (size + 1) h)
  past full a (s ∷ rows) h = rw (none_on full a (s + 1) h)

  rows_ended : (c : List ℕ) → is_chain_in starts ends true c ≡ true → from_rows true c (sink starts) ≡ true
  rows_ended [] h = refl
  rows_ended (r ∷ c) h =
      let p = chain_parts (may_follow_in starts ends true) size r c h in
      rw (sink_edge (r + 1) (omega arith), rows_ended c p.0)

  ended : (full : Bool) (c : List ℕ) → is_chain_in starts ends full c ≡ true → from_chain full c (sink starts) ≡ true
  ended true c h = rw (sink_edge 0 (omega arith), rows_ended c h)
  ended false [] h = rw (eq-eqb (size + 1) (size + 1) refl)
  ended false (r ∷ c) h = absurd (no_bare r c h)

  -- the chain so far, and what is to come
  grown : (full : Bool) (rows c : List ℕ) → is_chain_in starts ends full c ≡ true
      → is_chain_in starts ends full (reverse_aux rows c) ≡ (from_all full c (ahead rows) && all_joined (graph_edge starts ends full) (ahead rows))
  grown full [] c h = rw (h, ended full c h)
  grown full (s ∷ rows) c h = go (ltb s size) refl (extends_in starts ends full c s) refl (λ k. grown full rows (s ∷ c) k)
    where
      go : (t : Bool) → ltb s size ≡ t → (u : Bool) → extends_in starts ends full c s ≡ u
          → (is_chain_in starts ends full (s ∷ c) ≡ true
          → is_chain_in starts ends full (reverse_aux rows (s ∷ c)) ≡ (from_all full (s ∷ c) (ahead rows) && all_joined (graph_edge starts ends full) (ahead rows)))
          → is_chain_in starts ends full (reverse_aux rows (s ∷ c))
          ≡ ((from_chain full c (s + 1) && from_all full c (ahead rows))
          && (joins_each (graph_edge starts ends full) (s + 1) (ahead rows) && all_joined (graph_edge starts ends full) (ahead rows)))
      go true e true f ih =
          ih (chain_step full s c h e f)
          ∙ rw (from_longer full s c (ahead rows), ← step_edge full c s h (ltb-true s size e), f)
          (and_assoc (from_all full c (ahead rows)) (joins_each (graph_edge starts ends full) (s + 1) (ahead rows)) (all_joined (graph_edge starts ends full) (ahead rows)))
      go true e false f ih = never full rows (s ∷ c) (chain_step full s c h e f) ∙ rw (← step_edge full c s h (ltb-true s size e), f)
      go false e u f ih =
          never full rows (s ∷ c) (chain_out full s c e)
          ∙ rw (past full (s + 1) rows (omega (arith, ltb-false s size e))) (sym (and_false (from_chain full c (s + 1) && from_all full c (ahead rows))))

  -- every node to which the source has an edge, but for the sink, is a row's
  only_rows : (full : Bool) (nodes : List ℕ) → joins_each (graph_edge starts ends full) 0 (nodes ++ (sink starts ∷ [])) ≡ true → map node_of (map row_of nodes) ≡ nodes
  only_rows full [] h = refl
  only_rows full (zero ∷ nodes) h = absurd (clash (graph_edge starts ends full 0 0) (none_back full 0) (and_both (graph_edge starts ends full 0 0) _ h).0)
  only_rows full (suc b ∷ nodes) h =
      let z : suc b - 1 + 1 ≡ suc b = omega arith in
      rw (z, only_rows full nodes (and_both (graph_edge starts ends full 0 (suc b)) _ h).1)

pub edges : EdgesHold
unfolding is_chain
edges starts ends full = record {
  between_rows = between starts ends full;
  from_source = begins starts ends full;
  chains_are_paths = λ rows. grown starts ends full rows [] refl ∙ rw (from_none starts ends full (map node_of rows ++ (sink starts ∷ [])));
  paths_are_rows = λ nodes h. only_rows starts ends full nodes (and_both (joins_each (graph_edge starts ends full) source (nodes ++ (sink starts ∷ []))) _ h).0;
}
