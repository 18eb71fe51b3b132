-- Document 01, "Score of a chain".
use Rattle.std.specs.Prelude.{ℕ, zero, suc, ◌+◌, ◌-◌, ◌^◌, Bool, true, false, cond, not, ◌&&◌, List, [], ◌∷◌, eqb, ℤ, pos, negsuc, nat_abs, length, Float, Option, Some, None}
use Rattle.std.specs.Float.{binary32}
use Rattle.std.specs.Float.Ieee.{add, sub, mul, div, lt}
use Rattle.metrics.specs.Similarity.{whole, sizesim_value, seqsim_value, sum_d, sum_n}
use Rattle.params.specs.Numbers.{Table, Parts}
use Rattle.kplib.specs.Parts.{part_lists}
use Rattle.kplib.specs.Sums.{size_of, features_of, Total, total_of}
use Rattle.params.specs.declared.Settings.{Settings}
use Rattle.kplib.specs.declared.pathscore.Scored.{Scored}
use Rattle.kplib.specs.declared.pathscore.Target.{Target}
use Rattle.kplib.specs.declared.pathscore.Target.TheVariants.{Nothing, Whole, Partial}
use Rattle.kplib.specs.declared.pathscore.Scores.{Scores}

-- the sign of a size: -, 0, +
abbrev pub sign : ℤ → ℕ
sign (negsuc n) = 0
sign (pos zero) = 1
sign (pos (suc n)) = 2

-- g: |n - length|, or length - 1 with squish
abbrev pub gap_of : Bool → ℕ → ℕ → ℕ
gap_of false n len = (n - len) + (len - n)
gap_of true n len = len - 1

-- (seqsim + sizesim) / 2, minus fpenalty x partial, minus gpenalty x g, each operation rounded, in that order
abbrev pub score_value : Settings → Float → Float → ℕ → ℕ → Float
score_value s seq size partial g =
    sub binary32 (sub binary32 (div binary32 (add binary32 seq size) (whole 2)) (mul binary32 s.fpenalty (whole partial))) (mul binary32 s.gpenalty (whole g))

abbrev pub sizesim_of_totals : Total → Total → Float
sizesim_of_totals chain list = sizesim_value (nat_abs chain.size) (nat_abs list.size)

abbrev pub seqsim_of_rows : ℕ → List ℤ → List ℤ → Float
seqsim_of_rows minkfreq a b = seqsim_value (sum_d minkfreq a b) (sum_n minkfreq a b)

abbrev pub seqsim_of_totals : Settings → Total → Total → Float
seqsim_of_totals s chain list = seqsim_of_rows s.minkfreq chain.features list.features

-- what a list scored
abbrev pub scores_of : Float → Float → Float → Scores
scores_of score sizesim seqsim = record { score = score; sizesim = sizesim; seqsim = seqsim }

-- one list, with `partial` parts left out, against one chain: skipped, or score, sizesim and seqsim. Under squish an empty chain accepts no list;
-- else skip if the signs differ, or if sizesim or seqsim is below its threshold
unfoldable pub list_score : Settings → Total → Total → ℕ → Option Scores
list_score s chain list partial =
    cond (s.squish && eqb chain.count 0) None
    (cond (not (eqb (sign chain.size) (sign list.size))) None
    (cond (lt (sizesim_of_totals chain list) s.sizesim) None
    (cond (lt (seqsim_of_totals s chain list) s.seqsim) None
    (Some (scores_of
    (score_value s (seqsim_of_totals s chain list) (sizesim_of_totals chain list) partial (gap_of s.squish list.count chain.count))
    (sizesim_of_totals chain list)
    (seqsim_of_totals s chain list))))))

-- the scoring's start: 0.0 with no part list and both similarities 0.0
abbrev pub start : Scored
start = record { target = Nothing; score = whole 0; sizesim = whole 0; seqsim = whole 0 }

-- a target is the whole haplotype exactly when no part is left out
abbrev pub target_of : ℕ → Target
target_of zero = Whole
target_of (suc n) = Partial (suc n)

-- it replaces the best only if greater
unfoldable pub greater_of : Scored → ℕ → Option Scores → Scored
greater_of best partial None = best
greater_of best partial (Some new) =
    cond (lt best.score new.score) (record { target = target_of partial; score = new.score; sizesim = new.sizesim; seqsim = new.seqsim }) best

-- the best after one more part list, a list of positions among the parts
unfoldable pub after_list : Settings → Parts → Total → Scored → List ℕ → Scored
unfolding list_score greater_of size_of features_of
after_list s p chain best list =
    let partial = length p.sizes - length list in
    greater_of best partial (list_score s chain (total_of (4 ^ s.k) p.sizes p.features list) partial)

-- and after a list of them, in order
unfoldable pub after_lists : (Scored → List ℕ → Scored) → Scored → List (List ℕ) → Scored
after_lists after best [] = best
after_lists after best (list ∷ lists) = after_lists after (after best list) lists

-- a chain, by its total, against every part list
unfoldable pub total_score : Settings → Parts → Total → Scored
unfolding after_lists after_list part_lists
total_score s p chain = after_lists (after_list s p chain) start (part_lists (length p.sizes) s.fnmax s.pileupmax)

-- and by its rows
unfoldable pub chain_score : Settings → Table → Parts → List ℕ → Scored
unfolding total_score size_of features_of
chain_score s t p chain = total_score s p (total_of (4 ^ s.k) t.sizes t.features chain)
