-- The rows of an accepted call's answer are rows of its table, and no more than it has. In search mode they are those of a chain scored, or none: each chain
-- scored is a chain of the graph, whose rows ascend below V. One-to-one answers at most one row, and source and sink are never it. Assumes nothing.
use mathlib.Core.Path.{◌≡◌, sym, subst}
use Prim.Native.Nat.{ℕ, zero, suc, ◌+◌, ◌^◌, ◌≤◌, ◌<◌}
use native.Mathlib.Omega.{arith}
use mathlib.Core.Bool.{Bool, true}
use mathlib.Core.List.{List, [], reverse}
use lib.IntN.{ℤ}
use lib.Ieee.{lt}
use lib.ListN.{length, length-reverse}
use Rattle.paths.specs.Chains.{is_chain}
use Rattle.paths.specs.Best.{All}
use Rattle.paths.proofs.QueueLaws.{chain_end, chain_length}
use Rattle.params.specs.Checked.{Checked}
use Rattle.params.specs.Numbers.{Table, Parts, Call, first_fault}
use Rattle.params.specs.declared.Settings.{Settings}
use Rattle.params.proofs.CheckedLaws.{accepted}
use Rattle.kplib.specs.Sums.{Total}
use Rattle.kplib.specs.OneToOne.{alone_score, node_total, is_candidate, latest_of, over_nodes, no_lone, one_to_one, lone_rows_at}
use Rattle.kplib.specs.Search.{Result, rows_for, follows_in, result_of, best_in}
use Rattle.kplib.specs.Score.{chain_score}
use Rattle.kplib.specs.Answer.{Found, searched, matched_alone, in_search_mode, found_after, rows_of}
use Rattle.kplib.specs.declared.pathscore.Scored.{Scored}
use Rattle.kplib.specs.declared.pathscore.Target.{Target}
use Rattle.kplib.specs.declared.pathscore.Target.TheVariants.{Nothing, Whole, Partial}
use Rattle.kplib.proofs.RowChainLaws.{all_reverse, chain_below}
use Rattle.kplib.proofs.BestKeptLaws.{either, best_kept}
use Rattle.kplib.proofs.OneToOneLaws.{node_step, tables_of, rows_only}

-- at most v rows, each below v
record Within (v : ℕ) (rows : List ℕ) : Type 0 where
  few : length rows ≤ v
  below : All (λ r. r < v) rows

none_within : (v : ℕ) → Within v []
none_within v = record { few = omega arith; below = tt }

-- ---- a search: what holds of each chain scored holds of the best
chain_within : (follows : List ℕ → ℕ → Bool) (v : ℕ) (c : List ℕ) → is_chain follows v c ≡ true → Within v (reverse c)
chain_within follows v c e = record {
  few = omega (arith, length-reverse c, chain_length follows v c e, chain_end follows v c e);
  below = all_reverse (λ r. r < v) c (chain_below follows v c e);
}

found_within : (v : ℕ) (t : Target) (l : List ℕ) → Within v l → Within v (rows_for t l)
found_within v Nothing l h = none_within v
found_within v Whole l h = h
found_within v (Partial n) l h = h

module _ (s : Settings) (t : Table) (p : Parts) where
  abbrev Good : Result → Type 0
  Good r = Within (length t.starts) r.rows

  result_within : (x : List ℕ) → is_chain (follows_in s t p) (length t.starts) x ≡ true → Good (result_of s t p x)
  unfolding result_of
  result_within x e = found_within (length t.starts) (chain_score s t p (reverse x)).target (reverse x) (chain_within (follows_in s t p) (length t.starts) x e)

  best_within : Good (best_in s t p)
  best_within = best_kept s t p Good (none_within (length t.starts)) result_within

-- ---- one-to-one: the best begins with row 0, and each node that is asked is a row's
lone_within : {v r : ℕ} (t : Target) → r < v → Within v (lone_rows_at t r)
lone_within {v} Nothing h = none_within v
lone_within Whole h = record { few = omega arith; below = (h, tt) }
lone_within (Partial n) h = record { few = omega arith; below = (h, tt) }

-- the type of the best node alone, which only kplib names
abbrev type_of : {A : Type 0} → A → Type 0
type_of {A} x = A

abbrev Lone : Type 0
Lone = type_of no_lone

latest_below : (v : ℕ) (best : Lone) (node : ℕ) (x : Scored) → best.row.0 < v → node ≤ v → (latest_of best node x).row.0 < v
unfolding latest_of
latest_below v best node x b h =
    let P : Lone → Type 0 = λ l. l.row.0 < v in
    either P (is_candidate x) _ best (either P (lt x.score best.scored.score) best _ b (omega arith)) b

nodes_below : (score : Total → Scored) (e : ℕ) (sizes features : List ℤ) (v : ℕ) (best : Lone) (node n : ℕ) → best.row.0 < v → node + n ≤ v + 1
    → (over_nodes (node_step score e sizes features) best node n).row.0 < v
unfolding over_nodes
nodes_below score e sizes features v best node zero b h = b
nodes_below score e sizes features v best node (suc n) b h =
    nodes_below score e sizes features v (node_step score e sizes features best node) (suc node) n
    (latest_below v best node (score (node_total e sizes features node)) b (omega arith)) (omega arith)

alone_below : {s : Settings} {t : Table} {p : Parts} → Checked s t p → (one_to_one s t p).row.0 < length t.starts
alone_below {s} {t} {p} c =
    rw (← rows_only (tables_of c))
    (nodes_below (alone_score s p) (4 ^ s.k) t.sizes t.features (length t.starts) no_lone 1 (length t.sizes) (omega (arith, c.some)) (omega (arith, c.sizes_are)))

-- ---- either way
module _ (c : Call) (e : first_fault c ≡ 0) where
  rows_inside : Within (length c.table.starts) (rows_of c)
  unfolding rows_of searched matched_alone
  rows_inside =
      let s = c.settings in
      let t = c.table in
      let p = c.parts in
      let lone = lone_within (one_to_one s t p).scored.target (alone_below (accepted c e)) in
      subst (λ (n : ℕ). Within (length t.starts) (found_after n c).rows) (sym e)
      (either (λ (f : Found). Within (length t.starts) f.rows) (in_search_mode c) (searched s t p) (matched_alone s t p) (best_within s t p) lone)

  pub rows_within : length (rows_of c) ≤ length c.table.starts
  rows_within = rows_inside.few

  pub rows_in_table : All (λ r. r < length c.table.starts) (rows_of c)
  rows_in_table = rows_inside.below
