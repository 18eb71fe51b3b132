-- The number of an answer's target is at most 65: each scoring begins with no part list and takes up none that leaves out more than all
-- parts, whichever result is kept; and an accepted call has at most 64 parts. Assumes nothing.
use mathlib.Core.Path.{◌≡◌, refl}
use mathlib.Core.Bool.{Bool, true, false, cond, not, ◌&&◌}
use mathlib.Core.List.{List, [], ◌∷◌, map}
use Prim.Native.Nat.{ℕ, zero, suc, ◌+◌, ◌-◌, ◌^◌, ◌≤◌}
use native.Mathlib.Omega.{arith}
use lib.ListN.{length}
use lib.Dec.{eqb}
use borrow.Author.Tests.{ltb-false}
use lib.Ieee.{Float, lt}
use Rattle.metrics.specs.Similarity.{whole}
use Rattle.paths.specs.Best.{best}
use Rattle.params.specs.Numbers.{Table, Parts}
use Rattle.kplib.specs.Parts.{part_lists, whole_of}
use Rattle.kplib.specs.Sums.{Total, total_of}
use Rattle.kplib.specs.Score.{sign, gap_of, score_value, sizesim_of_totals, seqsim_of_totals, start, target_of, after_list, after_lists, total_score, chain_score}
use Rattle.kplib.specs.OneToOne.{node_total, alone_score, latest_of, over_nodes, no_lone, one_to_one}
use Rattle.kplib.specs.Search.{Result, no_lower, start_result, result_of, scored_in}
use Rattle.kplib.specs.Answer.{Found, searched, matched_alone, in_search_mode, found_after}
use Rattle.dive.specs.Numbered.{Numbered, numbered_rules, numbered_fault, numbered_answer}
use Rattle.params.specs.declared.Settings.{Settings}
use Rattle.kplib.specs.declared.pathscore.Scored.{Scored}
use Rattle.params.proofs.CheckLaws.{none_given}
use Rattle.kplib.specs.Report.{target_number}
use Rattle.audit.specs.Targets.{TargetsTold}

-- a result whose target leaves out at most n parts
abbrev Within : ℕ → Scored → Type 0
Within n x = target_number x.target ≤ 1 + n

either : {A : Type 0} (P : A → Type 0) (t : Bool) (x y : A) → P x → P y → P (cond t x y)
either P true x y px py = px
either P false x y px py = py

list_within : (n left : ℕ) → left ≤ n → target_number (target_of left) ≤ 1 + n
list_within n zero h = omega arith
list_within n (suc left) h = omega arith

module _ (s : Settings) (p : Parts) (chain : Total) (b : Scored) (list : List ℕ) (w : Within (length p.sizes) b) where
  abbrev left : ℕ
  left = length p.sizes - length list

  abbrev total : Total
  total = total_of (4 ^ s.k) p.sizes p.features list

  abbrev points : Float
  points = score_value s (seqsim_of_totals s chain total) (sizesim_of_totals chain total) left (gap_of s.squish total.count chain.count)

  by_tests : (t u v x y : Bool) → (s.squish && eqb chain.count 0) ≡ t → not (eqb (sign chain.size) (sign total.size)) ≡ u →
      lt (sizesim_of_totals chain total) s.sizesim ≡ v → lt (seqsim_of_totals s chain total) s.seqsim ≡ x → lt b.score points ≡ y →
      Within (length p.sizes) (after_list s p chain b list)
  unfolding after_list
  by_tests true u v x y o q r i j = rw o w
  by_tests false true v x y o q r i j = rw (o, q) w
  by_tests false false true x y o q r i j = rw (o, q, r) w
  by_tests false false false true y o q r i j = rw (o, q, r, i) w
  by_tests false false false false true o q r i j = rw (o, q, r, i, j) (list_within (length p.sizes) left (omega arith))
  by_tests false false false false false o q r i j = rw (o, q, r, i, j) w

  after_within : Within (length p.sizes) (after_list s p chain b list)
  after_within = by_tests _ _ _ _ _ refl refl refl refl refl

lists_within : (n : ℕ) (after : Scored → List ℕ → Scored) → ((b : Scored) (list : List ℕ) → Within n b → Within n (after b list)) →
    (b : Scored) (lists : List (List ℕ)) → Within n b → Within n (after_lists after b lists)
unfolding after_lists
lists_within n after keeps b [] w = w
lists_within n after keeps b (list ∷ lists) w = lists_within n after keeps (after b list) lists (keeps b list w)

chain_within : (s : Settings) (t : Table) (p : Parts) (chain : List ℕ) → Within (length p.sizes) (chain_score s t p chain)
unfolding chain_score total_score
chain_within s t p chain =
    let total = total_of (4 ^ s.k) t.sizes t.features chain in
    lists_within (length p.sizes) (after_list s p total) (λ b list w. after_within s p total b list w)
    start (part_lists (length p.sizes) s.fnmax s.pileupmax) (omega arith)

best_keeps : {A R : Type 0} (P : R → Type 0) (le : R → R → Bool) (f : A → R) → ((a : A) → P (f a)) → (b : R) → P b → (l : List A) → P (best le b (map f l))
unfolding best
best_keeps P le f each b w [] = w
best_keeps P le f each b w (a ∷ l) =
    best_keeps P le f each (cond (le b (f a)) (f a) b) (either P (le b (f a)) (f a) b (each a) w) l

searched_within : (s : Settings) (t : Table) (p : Parts) → Within (length p.sizes) (searched s t p).scored
unfolding searched result_of
searched_within s t p =
    best_keeps (λ (r : Result). Within (length p.sizes) r.scored) no_lower (result_of s t p)
    (λ c. chain_within s t p _)
    start_result (omega arith) (scored_in s t p)

-- the type of the best node alone, which only kplib names
abbrev type_of : {A : Type 0} → A → Type 0
type_of {A} x = A

abbrev Lone : Type 0
Lone = type_of no_lone

latest_within : (n : ℕ) (b : Lone) (node : ℕ) (x : Scored) → Within n b.scored → Within n x → Within n (latest_of b node x).scored
unfolding latest_of
latest_within n b node x wb wx =
    let P : Lone → Type 0 = λ l. Within n l.scored in
    either P (lt (whole 0) x.seqsim) _ b (either P (lt x.score b.scored.score) b _ wb wx) wb

nodes_within : (n : ℕ) (step : Lone → ℕ → Lone) → ((b : Lone) (node : ℕ) → Within n b.scored → Within n (step b node).scored) →
    (b : Lone) (node more : ℕ) → Within n b.scored → Within n (over_nodes step b node more).scored
unfolding over_nodes
nodes_within n step keeps b node zero w = w
nodes_within n step keeps b node (suc more) w = nodes_within n step keeps (step b node) (suc node) more (keeps b node w)

alone_within : (s : Settings) (t : Table) (p : Parts) → Within (length p.sizes) (matched_alone s t p).scored
unfolding matched_alone one_to_one alone_score
alone_within s t p =
    let node-total = node_total (4 ^ s.k) t.sizes t.features in
    nodes_within (length p.sizes) (λ best node. latest_of best node (alone_score s p (node-total node)))
    (λ b node w. latest_within (length p.sizes) b node (alone_score s p (node-total node)) w
    (after_within s p (node-total node) start (whole_of (length p.sizes)) (omega arith)))
    no_lone 0 (length t.sizes + 2) (omega arith)

-- an accepted call passes the table's third row on lengths: at most 64 parts
few_parts : (n : Numbered) → numbered_fault n ≡ 0 → length n.call.parts.sizes ≤ 64
unfolding numbered_fault
few_parts n e = ltb-false 64 (length n.call.parts.sizes) (none_given (numbered_rules n) refl e).1.1.1.1.1.0

pub target_within : TargetsTold
unfolding numbered_answer
target_within n = go (numbered_fault n) refl
  where
    go : (fault : ℕ) → numbered_fault n ≡ fault → target_number (found_after fault n.call).scored.target ≤ 65
    go zero e =
        let few = few_parts n e in
        let c = n.call in
        let s = c.settings in
        let t = c.table in
        let p = c.parts in
        let found = either (λ (f : Found). Within (length p.sizes) f.scored) (in_search_mode c) (searched s t p) (matched_alone s t p) (searched_within s t p) (alone_within s t p) in
        omega arith
    go (suc fault) e = omega arith
