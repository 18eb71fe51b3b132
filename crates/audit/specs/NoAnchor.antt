-- Document 01, "One-to-one": no anchor is ever chosen. Source and sink are among the V + 2 nodes scored, and the match is the same without them.
use Rattle.std.specs.Prelude.{ℕ, ◌+◌, ◌^◌, ◌≡◌, Bool, false, length}
use Rattle.params.specs.Numbers.{Table, Parts, Call, first_fault}
use Rattle.kplib.specs.OneToOne.{node_total, alone_score, is_candidate, latest_of, over_nodes, no_lone, one_to_one}
use Rattle.params.specs.declared.Settings.{Settings}
use Rattle.kplib.specs.declared.pathscore.Scored.{Scored}

module _ (s : Settings) (t : Table) (p : Parts) where
  -- a node alone, scored against the whole haplotype
  abbrev pub node_alone : ℕ → Scored
  node_alone node = alone_score s p (node_total (4 ^ s.k) t.sizes t.features node)

  -- it is a candidate
  abbrev pub candidate : ℕ → Bool
  candidate node = is_candidate (node_alone node)

  pub record NoAnchor : Type 0 where
    -- node 0, the source, is no candidate
    pub source_none : candidate 0 ≡ false
    -- nor is node V + 1, the sink
    pub sink_none : candidate (length t.starts + 1) ≡ false
    -- the match over the V + 2 nodes is the same walk begun at node 1, over the V nodes of the variants alone
    pub variants_only : one_to_one s t p ≡ over_nodes (λ best node. latest_of best node (node_alone node)) no_lone 1 (length t.starts)

-- so it is for every accepted call
abbrev pub NoAnchorChosen : Type 0
NoAnchorChosen = (c : Call) → first_fault c ≡ 0 → NoAnchor c.settings c.table c.parts
