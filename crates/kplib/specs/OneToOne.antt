-- Document 01, "One-to-one": each of the V + 2 nodes alone against the whole haplotype only.
use Rattle.std.specs.Prelude.{ℕ, zero, suc, ◌+◌, ◌^◌, Bool, cond, List, [], ◌∷◌, ltb, ℤ, pos, length, get_or}
use Rattle.std.specs.Float.Ieee.{lt}
use Rattle.metrics.specs.Similarity.{whole}
use Rattle.params.specs.Numbers.{Table, Parts, row_at}
use Rattle.kplib.specs.Parts.{positions_from, whole_of}
use Rattle.kplib.specs.Sums.{zeros, Total}
use Rattle.kplib.specs.Score.{after_list, start}
use Rattle.params.specs.declared.Settings.{Settings}
use Rattle.kplib.specs.declared.pathscore.Scored.{Scored}
use Rattle.kplib.specs.declared.pathscore.Target.{Target}
use Rattle.kplib.specs.declared.pathscore.Target.TheVariants.{Nothing, Whole, Partial}
use Rattle.kplib.specs.Graph.{row_of}
use Rattle.kplib.specs.declared.vargraph.Row.{Row}
use Rattle.kplib.specs.declared.onetoone.Lone.{Lone}

-- source and sink have size 0 and zero features; a lone node's length is 1
abbrev pub anchor_total : ℕ → Total
unfolding zeros
anchor_total e = record { size = pos 0; features = zeros e; count = 1 }

abbrev pub row_total : ℕ → List ℤ → List ℤ → ℕ → Total
row_total e sizes features r = record { size = get_or sizes r (pos 0); features = row_at e features r; count = 1 }

-- a node past the rows is the sink
unfoldable pub node_total : ℕ → List ℤ → List ℤ → ℕ → Total
unfolding zeros
node_total e sizes features zero = anchor_total e
node_total e sizes features (suc r) = cond (ltb r (length sizes)) (row_total e sizes features r) (anchor_total e)

-- a node alone, scored against the whole haplotype
unfoldable pub alone_score : Settings → Parts → Total → Scored
unfolding after_list positions_from
alone_score s p node = after_list s p node start (whole_of (length p.sizes))

abbrev pub row_numbered : ℕ → Row
row_numbered r = record { 0 = r }

-- a candidate has seqsim above 0 (what the scoring does not accept has 0.0)
abbrev pub is_candidate : Scored → Bool
is_candidate x = lt (whole 0) x.seqsim

-- the highest score, the latest node among equals
unfoldable pub latest_of : Lone → ℕ → Scored → Lone
latest_of best node x =
    cond (is_candidate x) (cond (lt x.score best.scored.score) best (record { row = row_numbered (row_of node); scored = x })) best

-- so many nodes, from one on
unfoldable pub over_nodes : (Lone → ℕ → Lone) → Lone → ℕ → ℕ → Lone
over_nodes step best node zero = best
over_nodes step best node (suc more) = over_nodes step (step best node) (suc node) more

abbrev pub no_lone : Lone
no_lone = record { row = row_numbered 0; scored = start }

unfoldable pub one_to_one : Settings → Table → Parts → Lone
unfolding latest_of over_nodes node_total alone_score
one_to_one s t p =
    over_nodes (λ best node. latest_of best node (alone_score s p (node_total (4 ^ s.k) t.sizes t.features node)))
    no_lone 0 (length t.sizes + 2)

-- the rows of the answer: none where nothing matched, else the row alone
abbrev pub lone_rows_at : Target → ℕ → List ℕ
lone_rows_at Nothing r = []
lone_rows_at Whole r = r ∷ []
lone_rows_at (Partial n) r = r ∷ []

abbrev pub lone_rows : Lone → List ℕ
lone_rows x = lone_rows_at x.scored.target x.row.0
