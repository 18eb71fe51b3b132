-- What a reader may rely on of the scoring's results: a chain's score is a number, at least 0.0, and 0.0 only at the scoring's start. Assumes nothing.
use Rattle.std.specs.Prelude.{Option, Some, None}
use mathlib.Core.Path.{◌≡◌, refl, sym, subst}
use mathlib.Core.Bool.{Bool, true, false, cond, not}
use mathlib.Core.List.{List, [], ◌∷◌}
use mathlib.Core.Logic.{◌⊎◌, inl, inr}
use Prim.Native.Nat.{ℕ, ◌-◌, ◌^◌}
use lib.Dec.{T}
use lib.ListN.{length}
use lib.Ieee.{Float, lt, le, is_nan, of_int}
use Rattle.metrics.specs.Similarity.{whole}
use Rattle.metrics.proofs.FloatOrder.{lt_le, le_lt_trans, le_number}
use Rattle.params.specs.Numbers.{Table, Parts}
use Rattle.kplib.specs.Parts.{part_lists}
use Rattle.kplib.specs.Sums.{total_of}
use Rattle.kplib.specs.Score.{start, target_of, list_score, greater_of, after_list, after_lists, total_score, chain_score}
use Rattle.params.specs.declared.Settings.{Settings}
use Rattle.kplib.specs.declared.pathscore.Scored.{Scored}
use Rattle.kplib.specs.declared.pathscore.Scores.{Scores}
use Rattle.kplib.proofs.RoundingLaws.{holds}

pub is_true : (t : Bool) → T t → t ≡ true
is_true true h = refl
is_true false h = absurd h

-- the scoring's start, or a score above 0.0
abbrev pub StartOrAbove : Scored → Type 0
StartOrAbove r = (r ≡ start) ⊎ (lt (whole 0) r.score ≡ true)

above : (best : Scored) (x : Float) → lt best.score x ≡ true → StartOrAbove best → lt (whole 0) x ≡ true
above best x t (inl e) = subst (λ (r : Scored). lt r.score x ≡ true) e t
above best x t (inr u) =
    is_true (lt (whole 0) x) (le_lt_trans (whole 0) best.score x (lt_le (whole 0) best.score (holds _ u)) (holds _ t))

replaced : (best : Scored) (partial : ℕ) (x size seq : Float) → StartOrAbove best → (t : Bool) → lt best.score x ≡ t
    → StartOrAbove (cond t (record { target = target_of partial; score = x; sizesim = size; seqsim = seq }) best)
replaced best partial x size seq b true t = inr (above best x t b)
replaced best partial x size seq b false t = b

greater_kept : (best : Scored) (partial : ℕ) (v : Option Scores) → StartOrAbove best → StartOrAbove (greater_of best partial v)
unfolding greater_of
greater_kept best partial None b = b
greater_kept best partial (Some x) b = replaced best partial x.score x.sizesim x.seqsim b (lt best.score x.score) refl

lists_kept : (f : Scored → List ℕ → Scored) → ((best : Scored) (l : List ℕ) → StartOrAbove best → StartOrAbove (f best l))
    → (best : Scored) (lists : List (List ℕ)) → StartOrAbove best → StartOrAbove (after_lists f best lists)
unfolding after_lists
lists_kept f h best [] b = b
lists_kept f h best (l ∷ lists) b = lists_kept f h (f best l) lists (h best l b)

zero_le_zero : le (whole 0) (whole 0) ≡ true
unfolding le of_int
zero_le_zero = refl

-- so it is at least 0.0, and never a NaN
zero_or_above : (r : Scored) → StartOrAbove r → le (whole 0) r.score ≡ true
zero_or_above r (inl e) = subst (λ (x : Scored). le (whole 0) x.score ≡ true) (sym e) zero_le_zero
zero_or_above r (inr t) = is_true (le (whole 0) r.score) (lt_le (whole 0) r.score (holds _ t))

module _ (s : Settings) (t : Table) (p : Parts) (chain : List ℕ) where
  -- a chain scores the start, or above 0.0
  pub start_or_above : StartOrAbove (chain_score s t p chain)
  unfolding chain_score total_score after_list
  start_or_above =
      let total = total_of (4 ^ s.k) t.sizes t.features chain in
      lists_kept (after_list s p total)
      (λ best l b. greater_kept best (length p.sizes - length l) (list_score s total (total_of (4 ^ s.k) p.sizes p.features l) (length p.sizes - length l)) b)
      start (part_lists (length p.sizes) s.fnmax s.pileupmax) (inl refl)

  -- a chain's score is at least 0.0
  pub at_least_zero : le (whole 0) (chain_score s t p chain).score ≡ true
  at_least_zero = zero_or_above (chain_score s t p chain) start_or_above

  -- and so it is never a NaN
  pub score_number : T (not (is_nan (chain_score s t p chain).score))
  score_number = (le_number (whole 0) (chain_score s t p chain).score (holds _ at_least_zero)).1
