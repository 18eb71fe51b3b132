-- The list that won gives the chain's best, once that is above 0: a list replaces the best only where it is greater, and then it is the list that won and its score the best.
-- An answer's rows are those of a chain scored, so an accepted call's answer above 0 is a good proposal. The rest reads off the definitions. Assumes nothing.
use Rattle.std.specs.Prelude.{Option, Some, None, Ok}
use mathlib.Core.Path.{◌≡◌, refl, sym, ap, ◌∙◌}
use Prim.Native.Nat.{ℕ, zero, suc, ◌-◌, ◌^◌, ◌≤◌}
use native.Mathlib.Omega.{arith}
use mathlib.Core.Bool.{Bool, true, false, cond, ◌||◌}
use mathlib.Core.List.{List, [], ◌∷◌, ◌++◌, reverse, reverse-reverse}
use lib.Dec.{leb, eqb}
use lib.ListN.{length, length-reverse}
use lib.Ieee.{Float, binary32, to_bits, lt}
use borrow.Author.Tests.{eqb-true, eq-eqb}
use Rattle.metrics.specs.Similarity.{whole}
use Rattle.metrics.proofs.FloatOrder.{lt_le, lt_not_le}
use Rattle.paths.specs.Sums.{same_rows}
use Rattle.paths.specs.Best.{All}
use Rattle.paths.specs.Chains.{is_chain}
use Rattle.paths.proofs.BooleanLaws.{clash, and_both, and_false}
use Rattle.paths.proofs.BestLaws.{all_map}
use Rattle.paths.proofs.SumLaws.{same_rows_refl}
use Rattle.paths.proofs.QueueLaws.{chain_end, chain_length}
use Rattle.params.specs.Checked.{Checked}
use Rattle.params.specs.Numbers.{Table, Parts, Call, Rule, first_of, settings_rules, length_rules, bound_rules, limit_rules, first_fault}
use Rattle.params.proofs.CheckLaws.{none_given, goes_on}
use Rattle.params.proofs.CheckedLaws.{accepted}
use Rattle.kplib.specs.Graph.{is_chain_in}
use Rattle.kplib.specs.Parts.{part_lists}
use Rattle.kplib.specs.Sums.{total_of}
use Rattle.kplib.specs.Score.{start, target_of, list_score, greater_of, after_list, after_lists, total_score, chain_score, scores_of}
use Rattle.kplib.specs.Search.{Result, rows_for, follows_in, result_of, best_in}
use Rattle.kplib.specs.Answer.{searched, in_search_mode, found_after, answer_of, rows_of, searches}
use Rattle.kplib.specs.Proposal.{Proposal, proposal_of, one_of, gives, pair_score, is_good, long_rules, proposal_fault, check_word, check_of, rises_below, fewest_of}
use Rattle.kplib.specs.OwnPaths.{won_by, winning_list, Good, SameScoring, PathChecks}
use Rattle.params.specs.declared.Settings.{Settings}
use Rattle.kplib.specs.declared.pathscore.Scored.{Scored}
use Rattle.kplib.specs.declared.pathscore.Scores.{Scores}
use Rattle.kplib.proofs.RoundingLaws.{no}
use Rattle.kplib.proofs.MemberLaws.{member, rising_length}
use Rattle.kplib.proofs.BestKeptLaws.{best_kept}
use Rattle.kplib.proofs.ProposalLaws.{no_fault}
use Rattle.metrics.specs.Refusals.{refused_or}

-- ---- the list that won
not_below_itself : (x : Float) → lt x x ≡ false
not_below_itself x = no (lt x x) (λ h. lt_not_le x x h (lt_le x x h))

or_right : (a b : Bool) → b ≡ true → (a || b) ≡ true
or_right true b e = refl
or_right false b e = e

each_listed : (lists : List (List ℕ)) → All (λ l. one_of l lists ≡ true) lists
each_listed [] = tt
each_listed (l ∷ lists) =
    (rw (same_rows_refl l), all_map (λ x. one_of x lists ≡ true) (λ x. one_of x (l ∷ lists) ≡ true) (λ x e. or_right (same_rows x l) (one_of x lists) e) lists (each_listed lists))

rows_for_lem : (n : ℕ) (rows : List ℕ) → rows_for (target_of n) rows ≡ rows
rows_for_lem zero rows = refl
rows_for_lem (suc n) rows = refl

module _ (s : Settings) (t : Table) (p : Parts) (rows : List ℕ) where
  abbrev all : List (List ℕ)
  all = part_lists (length p.sizes) s.fnmax s.pileupmax

  abbrev after : Scored → List ℕ → Scored
  after = after_list s p (total_of (4 ^ s.k) t.sizes t.features rows)

  -- a best above 0 is a list's own score, and has its chain's rows
  record Won (b : Scored) (won : List ℕ) : Type 0 where
    listed : one_of won all ≡ true
    given : gives b.score (pair_score s t p rows won) ≡ true
    kept : rows_for b.target rows ≡ rows

  abbrev Winning : Scored → List ℕ → Type 0
  Winning b won = lt (whole 0) b.score ≡ true → Won b won

  after_is : (b : Scored) (list : List ℕ) → after b list ≡ greater_of b (length p.sizes - length list) (pair_score s t p rows list)
  unfolding after_list pair_score
  after_is b list = refl

  same_best : (b : Scored) (won list : List ℕ) → Winning b won → Winning b (cond (lt b.score b.score) list won)
  same_best b won list w = rw (not_below_itself b.score) w

  one_more : (b : Scored) (won list : List ℕ) → one_of list all ≡ true → Winning b won → Winning (after b list) (cond (lt b.score (after b list).score) list won)
  unfolding greater_of
  one_more b won list m w = rw (after_is b list) (by_verdict (pair_score s t p rows list) refl)
    where
      left : ℕ
      left = length p.sizes - length list

      greater : (x size seq : Float) (u : Bool) → lt b.score x ≡ u → pair_score s t p rows list ≡ Some (scores_of x size seq)
          → let new : Scored = record { target = target_of left; score = x; sizesim = size; seqsim = seq } in
          Winning (cond u new b) (cond (lt b.score (cond u new b).score) list won)
      greater x size seq true g e = rw g (λ h. record { listed = m; given = rw (e, h, eq-eqb (to_bits binary32 x) (to_bits binary32 x) refl); kept = rows_for_lem left rows })
      greater x size seq false g e = same_best b won list w

      by_verdict : (v : Option Scores) → pair_score s t p rows list ≡ v → Winning (greater_of b left v) (cond (lt b.score (greater_of b left v).score) list won)
      by_verdict None e = same_best b won list w
      by_verdict (Some x) e = greater x.score x.sizesim x.seqsim (lt b.score x.score) refl e

  all_tried : (b : Scored) (won : List ℕ) (lists : List (List ℕ)) → All (λ l. one_of l all ≡ true) lists → Winning b won → Winning (after_lists after b lists) (won_by after b won lists)
  unfolding after_lists won_by
  all_tried b won [] m w = w
  all_tried b won (list ∷ lists) m w = all_tried (after b list) (cond (lt b.score (after b list).score) list won) lists m.1 (one_more b won list m.0 w)

  no_start : lt (whole 0) (whole 0) ≡ true → ⊥
  no_start h = clash (lt (whole 0) (whole 0)) (not_below_itself (whole 0)) h

  chain_won : Winning (chain_score s t p rows) (winning_list s t p rows)
  unfolding chain_score total_score winning_list
  chain_won = all_tried start [] all (each_listed all) (λ h. absurd (no_start h))

-- ---- the answer
module _ (s : Settings) (t : Table) (p : Parts) where
  -- a result above 0 is a chain with the list that won
  record Sound (r : Result) : Type 0 where
    chain : is_chain_in t.starts t.ends s.full (reverse r.rows) ≡ true
    listed : one_of (winning_list s t p r.rows) (part_lists (length p.sizes) s.fnmax s.pileupmax) ≡ true
    given : gives r.scored.score (pair_score s t p r.rows (winning_list s t p r.rows)) ≡ true

  abbrev Holds : Result → Type 0
  Holds r = lt (whole 0) r.scored.score ≡ true → Sound r

  chain_sound : (x : List ℕ) → is_chain (follows_in s t p) (length t.starts) x ≡ true → Holds (result_of s t p x)
  unfolding result_of
  chain_sound x e h =
      let w = chain_won s t p (reverse x) h in
      rw w.kept (record { chain = rw (reverse-reverse x) e; listed = w.listed; given = w.given })

  best_sound : Holds (best_in s t p)
  best_sound = best_kept s t p Holds (λ h. absurd (no_start s t p [] h)) chain_sound

-- ---- a check's answer
-- a no and a refusal are no yes
no_is_yes : refused_or 0 false ≡ Ok true → ⊥
no_is_yes e = let z : ◌≡◌ {A = ℕ} 0 1 = ap check_word e in omega arith

refused_is_yes : (fault : ℕ) (good : Bool) → refused_or (suc fault) good ≡ Ok true → ⊥
refused_is_yes fault good e = let z : ◌≡◌ {A = ℕ} 0 1 = ap check_word e in omega arith

module _ (s : Settings) (t : Table) (p : Parts) (o : Proposal) where
  check_is : {fault : ℕ} {good : Bool} → proposal_fault s t p o ≡ fault → is_good s t p o ≡ good → check_of s t p o ≡ refused_or fault good
  unfolding check_of
  check_is e f = rw (e, f)

  good_given : is_chain_in t.starts t.ends s.full (reverse o.rows) ≡ true → one_of o.positions (part_lists (length p.sizes) s.fnmax s.pileupmax) ≡ true
      → gives o.score (pair_score s t p o.rows o.positions) ≡ true → is_good s t p o ≡ true
  unfolding is_good
  good_given a b c = rw (a, b) c

  yes_good : check_of s t p o ≡ Ok true → (proposal_fault s t p o ≡ 0) × (is_good s t p o ≡ true)
  unfolding check_of
  yes_good h = go (proposal_fault s t p o) refl (is_good s t p o) refl h
    where
      go : (fault : ℕ) → proposal_fault s t p o ≡ fault → (good : Bool) → is_good s t p o ≡ good → refused_or fault good ≡ Ok true → (proposal_fault s t p o ≡ 0) × (is_good s t p o ≡ true)
      go zero e true f k = (e, f)
      go zero e false f k = absurd (no_is_yes k)
      go (suc fault) e good f k = absurd (refused_is_yes fault good k)

  good_yes : Good s t p o → check_of s t p o ≡ Ok true
  good_yes g = check_is g.accepted (good_given g.chain g.listed (rw (g.scored, g.above) (eq-eqb _ _ g.bits)))

  good_parts : (v : Option Scores) → pair_score s t p o.rows o.positions ≡ v → gives o.score v ≡ true → proposal_fault s t p o ≡ 0
      → is_chain_in t.starts t.ends s.full (reverse o.rows) ≡ true → one_of o.positions (part_lists (length p.sizes) s.fnmax s.pileupmax) ≡ true → Good s t p o
  good_parts None e h a c l = absurd (clash false refl h)
  good_parts (Some x) e h a c l =
      let b = and_both (lt (whole 0) o.score) (eqb (to_bits binary32 x.score) (to_bits binary32 o.score)) h in
      record { accepted = a; chain = c; listed = l; score = x.score; sizesim = x.sizesim; seqsim = x.seqsim; scored = e; bits = eqb-true _ _ b.1; above = b.0 }

  yes_only : check_of s t p o ≡ Ok true → Good s t p o
  unfolding is_good
  yes_only h =
      let y = yes_good h in
      let a = and_both (is_chain_in t.starts t.ends s.full (reverse o.rows)) _ y.1 in
      let b = and_both (one_of o.positions (part_lists (length p.sizes) s.fnmax s.pileupmax)) (gives o.score (pair_score s t p o.rows o.positions)) a.1 in
      good_parts (pair_score s t p o.rows o.positions) refl b.1 y.0 a.0 b.0

  -- what gives no score is not good
  no_score : gives o.score (pair_score s t p o.rows o.positions) ≡ false → is_good s t p o ≡ false
  unfolding is_good
  no_score h =
      rw (h, and_false (one_of o.positions (part_lists (length p.sizes) s.fnmax s.pileupmax))) (and_false (is_chain_in t.starts t.ends s.full (reverse o.rows)))

  low_score : lt (whole 0) o.score ≡ false → (v : Option Scores) → gives o.score v ≡ false
  low_score h None = refl
  low_score h (Some x) = rw h

  not_good : is_good s t p o ≡ false → check_of s t p o ≡ refused_or (proposal_fault s t p o) false
  not_good h = check_is refl h

-- under squish the empty chain accepts no list
no_list : (s : Settings) (t : Table) (p : Parts) (positions : List ℕ) → s.squish ≡ true → pair_score s t p [] positions ≡ None
unfolding pair_score list_score
no_list s t p positions e = rw e refl

-- ---- our own answers
module _ (c : Call) (mode : searches c ≡ true) (above : lt (whole 0) (answer_of c).score ≡ true) where
  abbrev s : Settings
  s = c.settings

  abbrev t : Table
  t = c.table

  abbrev p : Parts
  p = c.parts

  parts_of_lem : (first_fault c ≡ 0) × (in_search_mode c ≡ true)
  unfolding searches
  parts_of_lem =
      let b = and_both (eqb (first_fault c) 0) (in_search_mode c) mode in
      (eqb-true (first_fault c) 0 b.0, b.1)

  found_is : found_after (first_fault c) c ≡ searched s t p
  found_is = ap (λ (n : ℕ). found_after n c) parts_of_lem.0 ∙ rw parts_of_lem.1

  score_is : (answer_of c).score ≡ (best_in s t p).scored.score
  unfolding answer_of searched
  score_is = ap (λ f. f.scored.score) found_is

  rows_are : rows_of c ≡ (best_in s t p).rows
  unfolding rows_of searched
  rows_are = ap (λ f. f.rows) found_is

  abbrev own : Proposal
  own = proposal_of (rows_of c) (winning_list s t p (rows_of c)) (answer_of c).score

  sound : Sound s t p (best_in s t p)
  sound = best_sound s t p (rw score_is at above)

  checked : Checked s t p
  checked = accepted c parts_of_lem.0

  rows_few : length (rows_of c) ≤ 64
  rows_few =
      let r = (best_in s t p).rows in
      let e = sound.chain in
      rw rows_are (omega (
        arith,
        length-reverse r,
        chain_length (follows_in s t p) (length t.starts) (reverse r) e,
        chain_end (follows_in s t p) (length t.starts) (reverse r) e,
        checked.sized.few,
        checked.sizes_are,
      ))

  abbrev list : List ℕ
  list = winning_list s t p (rows_of c)

  own_listed : one_of list (part_lists (length p.sizes) s.fnmax s.pileupmax) ≡ true
  own_listed = rw rows_are sound.listed

  list_few : length list ≤ 64
  list_few =
      let rises = (and_both (leb (fewest_of (length p.sizes) s.fnmax s.pileupmax) (length list)) (rises_below (length p.sizes) 0 list)
      (sym (member (length p.sizes) s.fnmax s.pileupmax list) ∙ own_listed)).1 in
      omega (arith, rising_length (length p.sizes) list rises, checked.part_sized.few)

  own_yes : check_of s t p own ≡ Ok true
  own_yes =
      check_is s t p own (sym (no_fault s t p own c.queue_room c.answer_room (sym parts_of_lem.0) rows_few list_few))
      (good_given s t p own (rw rows_are sound.chain) own_listed (rw (rows_are, score_is) sound.given))

-- ---- settings that play no part
module _ (a b : Settings) (t : Table) (p : Parts) (o : Proposal) (h : SameScoring a b) where
  good_same : is_good a t p o ≡ is_good b t p o
  unfolding is_good pair_score list_score
  good_same = rw (h.k, h.squish, h.full, h.fnmax, h.pileupmax, h.minkfreq, h.sizesim, h.seqsim, h.fpenalty, h.gpenalty) refl

  -- what is asked once the settings are accepted
  abbrev later : Settings → List Rule
  later x = length_rules (4 ^ x.k) t p ++ (bound_rules t.starts t.ends ++ (limit_rules (4 ^ x.k) t p ++ long_rules x t p o))

  settings_passed : (x : Settings) → first_of (settings_rules x) ≡ 0 → first_of (later x) ≡ proposal_fault x t p o
  unfolding proposal_fault
  settings_passed x e = goes_on (settings_rules x) (later x) (first_of (later x)) (none_given (settings_rules x) refl e) refl

  later_same : first_of (later a) ≡ first_of (later b)
  later_same = rw h.k refl

  fault_same : first_of (settings_rules a) ≡ 0 → first_of (settings_rules b) ≡ 0 → proposal_fault a t p o ≡ proposal_fault b t p o
  fault_same x y = sym (settings_passed a x) ∙ later_same ∙ settings_passed b y

  check_same : first_of (settings_rules a) ≡ 0 → first_of (settings_rules b) ≡ 0 → check_of a t p o ≡ check_of b t p o
  unfolding check_of
  check_same x y = rw (good_same, fault_same x y) refl

pub path_checks : PathChecks
path_checks = record {
  yes_when = good_yes;
  only_when = yes_only;
  by_rule = member;
  own_answers = own_yes;
  empty_chain = λ s t p positions score e. let o = proposal_of [] positions score in not_good s t p o (no_score s t p o (ap (gives score) (no_list s t p positions e)));
  not_above = λ s t p o h. not_good s t p o (no_score s t p o (low_score s t p o h (pair_score s t p o.rows o.positions)));
  no_part = check_same;
}
