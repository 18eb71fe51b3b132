-- Document 02, P13: what holds of every check of a proposal. The answers of our own search are among those that get a yes.
use Rattle.std.specs.Prelude.{ℕ, ◌^◌, ◌≡◌, true, false, cond, ◌&&◌, List, [], ◌∷◌, reverse, leb, length, Float, Some, Ok}
use Rattle.std.specs.Float.{binary32}
use Rattle.std.specs.Float.Ieee.{to_bits, lt}
use Rattle.metrics.specs.Similarity.{whole}
use Rattle.params.specs.Numbers.{Table, Parts, Call, first_of, settings_rules}
use Rattle.kplib.specs.Graph.{is_chain_in}
use Rattle.kplib.specs.Parts.{part_lists}
use Rattle.kplib.specs.Sums.{size_of, features_of, total_of}
use Rattle.kplib.specs.Score.{start, after_list, scores_of}
use Rattle.kplib.specs.Answer.{answer_of, rows_of, searches}
use Rattle.kplib.specs.Proposal.{Proposal, proposal_of, one_of, pair_score, proposal_fault, check_of, rises_below, fewest_of}
use Rattle.params.specs.declared.Settings.{Settings}
use Rattle.kplib.specs.declared.pathscore.Scored.{Scored}
use Rattle.metrics.specs.Refusals.{refused_or}

-- the list by which the best was last replaced, `won` where none of these replaces it
unfoldable pub won_by : (Scored → List ℕ → Scored) → Scored → List ℕ → List (List ℕ) → List ℕ
won_by after best won [] = won
won_by after best won (list ∷ lists) = won_by after (after best list) (cond (lt best.score (after best list).score) list won) lists

-- the list that won against a chain: the lists are tried in their order, as for the chain's score
unfoldable pub winning_list : Settings → Table → Parts → List ℕ → List ℕ
unfolding won_by part_lists after_list size_of features_of
winning_list s t p rows = won_by (after_list s p (total_of (4 ^ s.k) t.sizes t.features rows)) start [] (part_lists (length p.sizes) s.fnmax s.pileupmax)

-- accepted, a chain, one of the part lists, every skip test passed, and that score, greater than 0, bit for bit
pub record Good (s : Settings) (t : Table) (p : Parts) (o : Proposal) : Type 0 where
  pub accepted : proposal_fault s t p o ≡ 0
  pub chain : is_chain_in t.starts t.ends s.full (reverse o.rows) ≡ true
  pub listed : one_of o.positions (part_lists (length p.sizes) s.fnmax s.pileupmax) ≡ true
  pub score : Float
  pub sizesim : Float
  pub seqsim : Float
  pub scored : pair_score s t p o.rows o.positions ≡ Some (scores_of score sizesim seqsim)
  pub bits : to_bits binary32 score ≡ to_bits binary32 o.score
  pub above : lt (whole 0) o.score ≡ true

-- all settings but maxpaths, maxnodes and one-to-one; the letters, where there are some, are counted before
pub record SameScoring (a b : Settings) : Type 0 where
  pub k : a.k ≡ b.k
  pub squish : a.squish ≡ b.squish
  pub full : a.full ≡ b.full
  pub fnmax : a.fnmax ≡ b.fnmax
  pub pileupmax : a.pileupmax ≡ b.pileupmax
  pub minkfreq : a.minkfreq ≡ b.minkfreq
  pub sizesim : a.sizesim ≡ b.sizesim
  pub seqsim : a.seqsim ≡ b.seqsim
  pub fpenalty : a.fpenalty ≡ b.fpenalty
  pub gpenalty : a.gpenalty ≡ b.gpenalty

pub record PathChecks : Type 0 where
  -- yes exactly when
  pub yes_when : (s : Settings) (t : Table) (p : Parts) (o : Proposal) → Good s t p o → check_of s t p o ≡ Ok true
  pub only_when : (s : Settings) (t : Table) (p : Parts) (o : Proposal) → check_of s t p o ≡ Ok true → Good s t p o
  -- one of the part lists: positions that rise below m, at least as many as the shortest list has
  pub by_rule : (m fnmax pileupmax : ℕ) (positions : List ℕ) → one_of positions (part_lists m fnmax pileupmax) ≡ (leb (fewest_of m fnmax pileupmax) (length positions) && rises_below m 0 positions)
  -- every answer in search mode with a score above 0 gets a yes with the list that won
  pub own_answers : (c : Call) → searches c ≡ true → lt (whole 0) (answer_of c).score ≡ true
      → let s = c.settings in let t = c.table in let p = c.parts in
      check_of s t p (proposal_of (rows_of c) (winning_list s t p (rows_of c)) (answer_of c).score) ≡ Ok true
  -- under squish the empty chain gets a no, where it is not refused
  pub empty_chain : (s : Settings) (t : Table) (p : Parts) (positions : List ℕ) (score : Float) → s.squish ≡ true
      → let o = proposal_of [] positions score in
      check_of s t p o ≡ refused_or (proposal_fault s t p o) false
  -- and so does a score that is not greater than 0, a NaN among them
  pub not_above : (s : Settings) (t : Table) (p : Parts) (o : Proposal) → lt (whole 0) o.score ≡ false → check_of s t p o ≡ refused_or (proposal_fault s t p o) false
  -- one-to-one, maxnodes and maxpaths play no part, but that they may be refused
  pub no_part : (a b : Settings) (t : Table) (p : Parts) (o : Proposal) → SameScoring a b → first_of (settings_rules a) ≡ 0 → first_of (settings_rules b) ≡ 0 → check_of a t p o ≡ check_of b t p o
