-- One list against one chain: which way each test goes, and that a list which may not win changes nothing that the search sees. Assumes nothing.
use Rattle.std.specs.Prelude.{Option, Some, None}
use mathlib.Core.Path.{◌≡◌, refl, sym, ap, ◌∙◌}
use mathlib.Core.Bool.{Bool, true, false, cond, not, ◌&&◌}
use Prim.Native.Nat.{ℕ}
use native.Mathlib.Omega.{arith}
use borrow.Author.Tests.{eq-eqb, ne_eqb}
use lib.Dec.{T, eqb}
use lib.IntN.{ℤ, nat_abs}
use lib.Ieee.{Float, lt, le, binary32, of_bits}
use mir.Syntax.{w32}
use mir.Val.{to_z, of_z}
use Rattle.std.specs.Int.{int_signum}
use Rattle.metrics.specs.Similarity.{whole, sizesim_value, sum_d, sum_n}
use Rattle.metrics.proofs.Casts.{one_is}
use Rattle.metrics.proofs.FloatOrder.{le→Le}
use Rattle.kplib.specs.Sums.{Total}
use Rattle.kplib.specs.Score.{sign, gap_of, score_value, seqsim_of_rows, list_score, greater_of, scores_of}
use Rattle.kplib.specs.Scoring.{tested_of, Testable, Comparable, StandsFor, terms_of, may_score, may_win, verdict_of, Judged, own, idle}
use Rattle.params.specs.declared.Settings.{Settings}
use Rattle.kplib.specs.declared.pathscore.Scored.{Scored}
use Rattle.kplib.specs.declared.pathscore.Terms.{Terms}
use Rattle.kplib.specs.declared.pathscore.Tested.{Tested}
use Rattle.kplib.specs.declared.pathscore.Scores.{Scores}
use Rattle.kplib.proofs.WordLaws.{back, same_sign, other_sign}
use Rattle.kplib.proofs.RoundingLaws.{Safe, kept, score_grows, score_safe}
use Rattle.kplib.proofs.StandLaws.{pass_floor, pass_best, tried}

-- ---- the sizes as the machine reads them
module _ {m : Tested} (y : Testable m) where
  pub chain_as_read : to_z w32 (of_z w32 m.chain_size) ≡ m.chain_size
  chain_as_read = back m.chain_size (omega (arith, y.chain_size))

  pub list_as_read : to_z w32 (of_z w32 m.list_size) ≡ m.list_size
  list_as_read = back m.list_size (omega (arith, y.list_size))

  module _ {a b : ℤ} (f : a ≡ int_signum (to_z w32 (of_z w32 m.chain_size))) (g : b ≡ int_signum (to_z w32 (of_z w32 m.list_size))) where
    alike : of_z w32 a ≡ of_z w32 b → eqb (sign m.chain_size) (sign m.list_size) ≡ true
    alike h = eq-eqb (sign m.chain_size) (sign m.list_size) (same_sign m.chain_size m.list_size (rw chain_as_read at f) (rw list_as_read at g) h)

    unlike : (of_z w32 a ≡ of_z w32 b → ⊥) → eqb (sign m.chain_size) (sign m.list_size) ≡ false
    unlike h = ne_eqb (sign m.chain_size) (sign m.list_size) (other_sign m.chain_size m.list_size (rw chain_as_read at f) (rw list_as_read at g) h)

  pub size_is : {z : Float} → z ≡ sizesim_value (nat_abs (to_z w32 (of_z w32 m.chain_size))) (nat_abs (to_z w32 (of_z w32 m.list_size)))
      → z ≡ sizesim_value (nat_abs m.chain_size) (nat_abs m.list_size)
  size_is e = e ∙ rw (chain_as_read, list_as_read)

-- ---- the score of a list
module _ {s : Settings} {chain list : Total} {partial : ℕ} (y : Comparable s chain list partial) {t : Bool} (te : t ≡ (s.squish && eqb chain.count 0)) where
  pub by_squish : t ≡ true → None ≡ list_score s chain list partial
  unfolding list_score
  by_squish h = rw (sym te ∙ h)

  module _ (tf : t ≡ false) {a b : ℤ} (f : a ≡ int_signum (to_z w32 (of_z w32 chain.size))) (g : b ≡ int_signum (to_z w32 (of_z w32 list.size))) where
    pub by_sign : (of_z w32 a ≡ of_z w32 b → ⊥) → None ≡ list_score s chain list partial
    unfolding list_score
    by_sign h = rw (sym te ∙ tf, unlike y.tests f g h)

    module _ (h : of_z w32 a ≡ of_z w32 b) {z : Float} (ze : z ≡ sizesim_value (nat_abs (to_z w32 (of_z w32 chain.size))) (nat_abs (to_z w32 (of_z w32 list.size)))) where
      pub by_size : lt z s.sizesim ≡ true → None ≡ list_score s chain list partial
      unfolding list_score
      by_size k = rw (sym te ∙ tf, alike y.tests f g h, rw (size_is y.tests ze) at k)

      module _ (zf : lt z s.sizesim ≡ false) {q : Float} (qe : q ≡ seqsim_of_rows s.minkfreq chain.features list.features) where
        pub by_seq : lt q s.seqsim ≡ true → None ≡ list_score s chain list partial
        unfolding list_score
        by_seq k = rw (sym te ∙ tf, alike y.tests f g h, rw (size_is y.tests ze) at zf, rw qe at k)

        pub by_score : lt q s.seqsim ≡ false → {w : ℕ} → w ≡ gap_of s.squish list.count chain.count → {x : Float} → x ≡ score_value s q z partial w
            → Some (scores_of x z q) ≡ list_score s chain list partial
        unfolding list_score
        by_score k we xe =
            rw (xe, we, size_is y.tests ze, qe, sym te ∙ tf, alike y.tests f g h, rw (size_is y.tests ze) at zf, rw qe at k)

-- ---- whether it may win
module _ (s : Settings) (floor best : Float) {m : Tested} (y : Testable m) {t : Bool} (te : t ≡ (s.squish && eqb m.chain_len 0)) where
  pub lost_by_squish : t ≡ true → false ≡ may_win s m floor best
  unfolding may_win
  lost_by_squish h = rw (sym te ∙ h)

  module _ (tf : t ≡ false) {a b : ℤ} (f : a ≡ int_signum (to_z w32 (of_z w32 m.chain_size))) (g : b ≡ int_signum (to_z w32 (of_z w32 m.list_size))) where
    pub lost_by_sign : (of_z w32 a ≡ of_z w32 b → ⊥) → false ≡ may_win s m floor best
    unfolding may_win
    lost_by_sign h = rw (sym te ∙ tf, unlike y f g h)

    module _ (h : of_z w32 a ≡ of_z w32 b) {r : Terms} (re : r ≡ terms_of s m floor best) where
      pub lost_by_size : lt r.size s.sizesim ≡ true → false ≡ may_win s m floor best
      unfolding may_win
      lost_by_size k =
          let j : lt (sizesim_value (nat_abs m.chain_size) (nat_abs m.list_size)) s.sizesim ≡ true = sym (ap (λ (x : Terms). lt x.size s.sizesim) re) ∙ k in
          rw (sym te ∙ tf, alike y f g h, j)

      pub by_bound : lt r.size s.sizesim ≡ false → {w : Bool} → w ≡ may_score s r (of_bits binary32 0x3f80_0000) → w ≡ may_win s m floor best
      unfolding may_win
      by_bound k {w} e =
          let j : lt (sizesim_value (nat_abs m.chain_size) (nat_abs m.list_size)) s.sizesim ≡ false = sym (ap (λ (x : Terms). lt x.size s.sizesim) re) ∙ k in
          rw (sym te ∙ tf, alike y f g h, j) (e ∙ rw (one_is, re))

-- ---- a list that could not win, with its own seqsim or one that is no less
module _ (s : Settings) (terms : Terms) (full best : Scored) (e : best.score ≡ terms.best) (x z q : Float) (partial : ℕ) (st : StandsFor terms.floor full best) where
  by_tests : (most : Float) → Safe x (score_value s most terms.size terms.partial terms.gap) → (low bound : Bool)
      → lt (score_value s most terms.size terms.partial terms.gap) terms.floor ≡ low → le (score_value s most terms.size terms.partial terms.gap) terms.best ≡ bound
      → (not low && not bound) ≡ false → StandsFor terms.floor (greater_of full partial (Some (scores_of x z q))) best
  by_tests most safe true bound f g h = pass_floor terms.floor full best partial x z q (score_value s most terms.size terms.partial terms.gap) safe f st
  by_tests most safe false true f g h =
      let y = score_value s most terms.size terms.partial terms.gap in
      pass_best terms.floor full best partial x z q y safe (ap (λ (b : Float). le y b) e ∙ g) st
  by_tests most safe false false f g h = let z : ◌≡◌ {A = ℕ} 0 1 = cc in absurd (omega arith)

  pub by_most : (most : Float) → Safe x (score_value s most terms.size terms.partial terms.gap) → may_score s terms most ≡ false
      → StandsFor terms.floor (greater_of full partial (Some (scores_of x z q))) best
  unfolding may_score
  by_most most safe h = by_tests most safe _ _ refl refl h

-- what a list is given up for: below the threshold it is skipped anyway
idle_stands : (s : Settings) (terms : Terms) (seq most : Float) (full best : Scored) → best.score ≡ terms.best → T (le seq most) → may_score s terms most ≡ false
    → StandsFor terms.floor full best → (t : Bool)
    → StandsFor terms.floor (greater_of full terms.partial (cond t None (Some (scores_of (score_value s seq terms.size terms.partial terms.gap) terms.size seq))))
    (greater_of best terms.partial None)
unfolding greater_of
idle_stands s terms seq most full best e h f st true = st
idle_stands s terms seq most full best e h f st false =
    by_most s terms full best e (score_value s seq terms.size terms.partial terms.gap) terms.size seq terms.partial st most
    (score_grows s seq most terms.size terms.partial terms.gap (kept (le→Le seq most h))) f

-- the verdict on a list, its own or none since it could not win, is what the definition's stands for
pub judged_stands : {s : Settings} {terms : Terms} {seq : Float} {v : Option Scores} → Judged s terms seq v → (full best : Scored) → best.score ≡ terms.best
    → StandsFor terms.floor full best → StandsFor terms.floor (greater_of full terms.partial (verdict_of s terms seq)) (greater_of best terms.partial v)
judged_stands {s} {terms} {seq} {v} (own k) full best e st = rw k (tried terms.floor full best terms.partial (verdict_of s terms seq) st)
judged_stands {s} {terms} {seq} {v} (idle most k h f) full best e st = rw k (idle_stands s terms seq most full best e h f st (lt seq s.seqsim))

-- a list that may not win is skipped, or scores no more than with seqsim 1.0, with which it could not win
module _ (s : Settings) (floor : Float) (full best : Scored) (chain list : Total) (partial : ℕ) where
  abbrev terms : Terms
  terms = terms_of s (tested_of chain.size chain.count list.size list.count partial) floor best.score

  abbrev seq : Float
  seq = seqsim_of_rows s.minkfreq chain.features list.features

  lost_with : (empty sign size win below : Bool) → StandsFor floor full best → (not empty && (sign && (not size && win))) ≡ false
      → (win ≡ false → (x z q : Float) → Safe x (score_value s (whole 1) terms.size terms.partial terms.gap) → StandsFor floor (greater_of full partial (Some (scores_of x z q))) best)
      → StandsFor floor (greater_of full partial (cond empty None (cond (not sign) None (cond size None
      (cond below None (Some (scores_of (score_value s seq terms.size partial terms.gap) terms.size seq))))))) best
  unfolding greater_of
  lost_with true sign size win below st h k = st
  lost_with false false size win below st h k = st
  lost_with false true true win below st h k = st
  lost_with false true false win true st h k = st
  lost_with false true false true false st h k = let z : ◌≡◌ {A = ℕ} 0 1 = cc in absurd (omega arith)
  lost_with false true false false false st h k =
      let d = sum_d s.minkfreq chain.features list.features in
      let n = sum_n s.minkfreq chain.features list.features in
      k refl (score_value s seq terms.size partial terms.gap) terms.size seq (score_safe s d n terms.size partial terms.gap)

  pub lost : may_win s (tested_of chain.size chain.count list.size list.count partial) floor best.score ≡ false → StandsFor floor full best
      → StandsFor floor (greater_of full partial (list_score s chain list partial)) best
  unfolding may_win list_score
  lost h st =
      lost_with (s.squish && eqb chain.count 0) (eqb (sign chain.size) (sign list.size)) (lt terms.size s.sizesim) (may_score s terms (whole 1)) (lt seq s.seqsim) st h
      (λ f x z q safe. by_most s terms full best refl x z q partial st (whole 1) safe f)

  won_with : (empty sign size win : Bool) → (not empty && (sign && (not size && win))) ≡ true → (v : Option Scores)
      → cond empty None (cond (not sign) None (cond size None v)) ≡ v
  won_with false true false win h v = refl
  won_with true sign size win h v = let z : ◌≡◌ {A = ℕ} 0 1 = cc in absurd (omega arith)
  won_with false false size win h v = let z : ◌≡◌ {A = ℕ} 0 1 = cc in absurd (omega arith)
  won_with false true true win h v = let z : ◌≡◌ {A = ℕ} 0 1 = cc in absurd (omega arith)

  -- one that may win has the verdict by its seqsim
  pub won : may_win s (tested_of chain.size chain.count list.size list.count partial) floor best.score ≡ true
      → list_score s chain list partial
      ≡ verdict_of s (terms_of s (tested_of chain.size chain.count list.size list.count partial) floor best.score) (seqsim_of_rows s.minkfreq chain.features list.features)
  unfolding may_win list_score
  won h = won_with (s.squish && eqb chain.count 0) (eqb (sign chain.size) (sign list.size)) (lt terms.size s.sizesim) (may_score s terms (whole 1)) h (verdict_of s terms seq)
