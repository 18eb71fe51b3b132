-- Demand 3 is that of the step rule (paths, proofs/Demand), read of the answer: scores are numbers, so they are in order, and none is below the scoring's start.
use mathlib.Core.Path.{◌≡◌, refl, sym, ap, ◌∙◌}
use Prim.Native.Nat.{ℕ, ◌+◌, min}
use native.Mathlib.Omega.{arith}
use mathlib.Core.Bool.{Bool, true, false, not, ◌||◌}
use mathlib.Core.List.{List, [], reverse}
use borrow.Author.Tests.{eqb-true}
use lib.Dec.{T, leb, eqb}
use lib.ListN.{length}
use lib.Ieee.{le, is_nan}
use Rattle.metrics.proofs.FloatOrder.{le_trans, le_total}
use Rattle.paths.specs.Best.{Order}
use Rattle.paths.specs.Search.{none}
use Rattle.paths.specs.Demand.{SearchDemand}
use Rattle.paths.proofs.Demand.{count_counts, demand3}
use Rattle.params.specs.Numbers.{Table, Parts, Call, first_fault}
use Rattle.kplib.specs.Graph.{edge}
use Rattle.kplib.specs.Score.{chain_score}
use Rattle.kplib.specs.Search.{Result, no_lower, start_result, follows_in, distance_in, scored_in, left_in, result_of, best_in}
use Rattle.kplib.specs.Answer.{searched, answer_with, in_search_mode, found_after, answer_of, rows_of, searches}
use Rattle.audit.specs.Demand3.{Demand3, Demand3Holds, result_in}
use Rattle.params.specs.declared.Settings.{Settings}
use Rattle.kplib.specs.declared.traverse.Answer.{Answer}
use Rattle.kplib.proofs.GraphLaws.{counts_chains}
use Rattle.paths.proofs.BooleanLaws.{and_both}
use Rattle.kplib.proofs.RoundingLaws.{holds}
use Rattle.kplib.proofs.ScoreFloorLaws.{is_true, at_least_zero, score_number}

or_right : (a b : Bool) → a ≡ false → T (a || b) → b ≡ true
or_right true b e h = let z : ◌≡◌ {A = ℕ} 0 1 = cc in absurd (omega arith)
or_right false b e h = is_true b h

abbrev Number : Result → Type 0
Number r = T (not (is_nan r.scored.score))

-- results whose score is a number are in order
in_order : Order Number no_lower
in_order = record {
  total = λ a b p q e. or_right (le a.scored.score b.scored.score) (le b.scored.score a.scored.score) e (le_total a.scored.score b.scored.score p q);
  trans = λ a b c p q r e f. is_true (le a.scored.score c.scored.score) (le_trans a.scored.score b.scored.score c.scored.score (holds _ e) (holds _ f));
}

module _ (c : Call) where
  abbrev s : Settings
  s = c.settings

  abbrev t : Table
  t = c.table

  abbrev p : Parts
  p = c.parts

  number : (x : List ℕ) → Number (result_of s t p x)
  unfolding result_of
  number x = score_number s t p (reverse x)

  first : no_lower start_result (result_of s t p []) ≡ true
  unfolding result_of
  first = at_least_zero s t p (reverse [])

  rule : SearchDemand no_lower start_result (result_of s t p) (follows_in s t p) (length t.starts) (distance_in s t p) (s.maxpaths + 1)
  rule = demand3 Number no_lower in_order start_result (result_of s t p) number first (follows_in s t p) (length t.starts) (distance_in s t p) (s.maxpaths + 1) (omega arith)

  score_of : (x : List ℕ) → (result_of s t p x).scored ≡ chain_score s t p (reverse x)
  unfolding result_of
  score_of x = refl

  module _ (mode : searches c ≡ true) where
    parts : (first_fault c ≡ 0) × (in_search_mode c ≡ true)
    unfolding searches
    parts =
        let b = and_both (eqb (first_fault c) 0) (in_search_mode c) mode in
        (eqb-true (first_fault c) 0 b.0, b.1)

    found_is : found_after (first_fault c) c ≡ searched s t p
    found_is = ap (λ (n : ℕ). found_after n c) parts.0 ∙ rw parts.1

    answer_is : answer_of c ≡ answer_with (first_fault c) (searched s t p)
    unfolding answer_of
    answer_is = ap (λ f. answer_with (first_fault c) f) found_is

    count_is : (answer_of c).scored ≡ length (scored_in s t p)
    unfolding searched
    count_is = ap (λ (x : Answer). x.scored) answer_is

    complete_is : (answer_of c).complete ≡ none (left_in s t p)
    unfolding searched
    complete_is = ap (λ (x : Answer). x.complete) answer_is

    score_is : (answer_of c).score ≡ (best_in s t p).scored.score
    unfolding searched
    score_is = ap (λ (x : Answer). x.score) answer_is

    rows_are : rows_of c ≡ (best_in s t p).rows
    unfolding rows_of searched
    rows_are = ap (λ f. f.rows) found_is

    result_is : result_in (answer_of c) (rows_of c) ≡ best_in s t p
    unfolding searched
    result_is = rw (rows_are, answer_is)

    demand : Demand3 c
    demand =
        let n = counts_chains t.starts t.ends s.full in
        record {
          only_chains = rule.only_chains;
          none_twice = rule.none_twice;
          counted = count_is;
          n_counts = count_counts (edge t.starts t.ends) (length t.starts) s.full;
          as_many = count_is ∙ rule.as_many ∙ ap (λ (k : ℕ). min k (s.maxpaths + 1)) n;
          complete_when = complete_is ∙ rule.complete_when ∙ ap (λ (k : ℕ). leb k (s.maxpaths + 1)) n;
          complete_all = λ e. rule.complete_all (sym complete_is ∙ e);
          latest_best = rw result_is rule.latest_best;
          none_higher = λ e x h. rw (score_is, ← score_of x) (rule.none_higher (sym complete_is ∙ e) x h);
        }

pub demand3_holds : Demand3Holds
demand3_holds = demand
