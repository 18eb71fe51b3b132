-- Document 02, P13: a path that someone else proposes, that is rows, positions among the parts, and a score. Chain, part list and list score are the search's own.
use Rattle.std.specs.Prelude.{ℕ, suc, ◌-◌, ◌^◌, ◌≤◌, max, Bool, true, false, cond, ◌&&◌, ◌||◌, List, [], ◌∷◌, ◌++◌, reverse, leb, ltb, eqb, Float, Option, Some, None, Result, Ok, Err}
use Rattle.std.proofs.Math.ListN.{length}
use Rattle.std.specs.Float.{binary32}
use Rattle.std.specs.Float.Ieee.{to_bits, lt}
use Rattle.metrics.specs.Similarity.{whole}
use Rattle.metrics.specs.declared.refusals.Refusal.{Refusal}
use Rattle.paths.specs.Sums.{same_rows}
use Rattle.params.specs.Numbers.{Table, Parts, Rule, rule, first_of, settings_rules, length_rules, bound_rules, limit_rules}
use Rattle.kplib.specs.Graph.{is_chain_in}
use Rattle.kplib.specs.Parts.{part_lists}
use Rattle.kplib.specs.Sums.{size_of, features_of, total_of}
use Rattle.kplib.specs.Score.{list_score}
use Rattle.kplib.specs.Scoring.{Tables, AllBelow}
use Rattle.params.specs.declared.Settings.{Settings}
use Rattle.kplib.specs.declared.pathscore.Scores.{Scores}
use Rattle.metrics.specs.Refusals.{refused_or}

-- a list is one of these
abbrev pub one_of : List ℕ → List (List ℕ) → Bool
one_of list [] = false
one_of list (l ∷ lists) = same_rows list l || one_of list lists

-- every skip test is passed, and what is scored is this score, greater than 0, bit for bit
abbrev pub gives : Float → Option Scores → Bool
gives score None = false
gives score (Some scores) = lt (whole 0) score && eqb (to_bits binary32 scores.score) (to_bits binary32 score)

-- a proposal: the rows as they are sent, ascending in a good one, the positions and the score
pub record Proposal : Type 0 where
  pub rows : List ℕ
  pub positions : List ℕ
  pub score : Float

abbrev pub proposal_of : List ℕ → List ℕ → Float → Proposal
proposal_of rows positions score = record { rows = rows; positions = positions; score = score }

module _ (s : Settings) (t : Table) (p : Parts) where
  -- that list scored against that chain
  unfoldable pub pair_score : List ℕ → List ℕ → Option Scores
  unfolding list_score size_of features_of
  pair_score rows positions =
      list_score s (total_of (4 ^ s.k) t.sizes t.features rows) (total_of (4 ^ s.k) p.sizes p.features positions) (length p.sizes - length positions)

  -- yes exactly when the rows are a chain (chains are written last row first), the positions are one of the part lists, and that list scored against that chain gives that score
  unfoldable pub is_good : Proposal → Bool
  unfolding pair_score part_lists
  is_good o =
      is_chain_in t.starts t.ends s.full (reverse o.rows)
      && (one_of o.positions (part_lists (length p.sizes) s.fnmax s.pileupmax)
      && gives o.score (pair_score o.rows o.positions))

  -- 54: a proposal over 64 rows or over 64 positions
  abbrev pub long_rules : Proposal → List Rule
  long_rules o = rule 54 (ltb 64 (length o.rows)) ∷ (rule 54 (ltb 64 (length o.positions)) ∷ [])

  -- the refusals of settings, table and parts, in a call's order, and none for room; then 54
  abbrev pub proposal_rules : Proposal → List Rule
  proposal_rules o =
      settings_rules s
      ++ (length_rules (4 ^ s.k) t p
      ++ (bound_rules t.starts t.ends
      ++ (limit_rules (4 ^ s.k) t p
      ++ long_rules o)))

  unfoldable pub proposal_fault : Proposal → ℕ
  proposal_fault o = first_of (proposal_rules o)

-- the answer as a word, 0 too where it is refused; its number is what it is told as
abbrev pub check_word : Result Bool Refusal → ℕ
check_word (Ok true) = 1
check_word (Ok false) = 0
check_word (Err refusal) = 0

unfoldable pub check_of : Settings → Table → Parts → Proposal → Result Bool Refusal
unfolding is_good proposal_fault
check_of s t p o = refused_or (proposal_fault s t p o) (is_good s t p o)

-- ---- membership by its own rule, which the code asks instead of going through the lists. No public promise cites what follows; that it is membership: `by_rule` of PathChecks.

-- they rise from `next` on, all below m
abbrev pub rises_below : ℕ → ℕ → List ℕ → Bool
rises_below m next [] = true
rises_below m next (p ∷ list) = leb next p && (ltb p m && rises_below m (suc p) list)

-- how many positions a list has at least: all m where m is at least pileupmax, else the larger of 1 and m - fnmax
unfoldable pub fewest_of : ℕ → ℕ → ℕ → ℕ
fewest_of m fnmax pileupmax = cond (leb pileupmax m) m (max 1 (m - fnmax))

-- what scoring one list against one chain asks
pub record Pairable (s : Settings) (t : Table) (p : Parts) (rows positions : List ℕ) : Type 0 where
  pub k_high : s.k ≤ 6
  pub tables : Tables s t p
  pub within : AllBelow (length t.sizes) rows
  pub few : length rows ≤ 64
  pub positions_within : AllBelow (length p.sizes) positions
  pub positions_few : length positions ≤ length p.sizes
