-- A list passed over because it cannot beat its chain's best, or cannot reach the search's, changes nothing that the search sees. Assumes nothing.
use Rattle.std.specs.Prelude.{Option, Some, None}
use mathlib.Core.Path.{◌≡◌, refl, sym, ap, ◌∙◌, subst}
use mathlib.Core.Bool.{Bool, true, false, cond, not}
use Prim.Native.Nat.{ℕ}
use native.Mathlib.Omega.{arith}
use lib.Dec.{T}
use lib.Ieee.{Float, nan, lt, le}
use lib.Ieee.Bits.{is_true}
use Rattle.metrics.proofs.FloatOrder.{Le→le, lt_le, lt_not_le, lt_number, not_lt_le, le_lt_trans}
use Rattle.kplib.specs.Score.{target_of, greater_of, scores_of}
use Rattle.kplib.specs.Scoring.{StandsFor, same, below}
use Rattle.kplib.specs.declared.pathscore.Scored.{Scored}
use Rattle.kplib.specs.declared.pathscore.Scores.{Scores}
use Rattle.kplib.proofs.RoundingLaws.{Safe, lost, gone, kept, holds, no, nothing_beats, beaten}

clash : (t : Bool) → t ≡ false → t ≡ true → ⊥
clash t p q = let z : ◌≡◌ {A = ℕ} 0 1 = cc in omega arith

denied : (t : Bool) → t ≡ false → T (not t)
denied t e = subst (λ (b : Bool). T (not b)) (sym e) tt

nan_low : (x : Float) → lt nan x ≡ false
unfolding lt
nan_low x = refl

-- ---- the order, in the tests' words
lt_trans : (x y z : Float) → lt x y ≡ true → lt y z ≡ true → lt x z ≡ true
lt_trans x y z h k = is_true (lt x z) (le_lt_trans x y z (lt_le x y (holds (lt x y) h)) (holds (lt y z) k))

-- what is at most a number below the floor, and beats something, is below the floor
low : (x y floor : Float) → Safe x y → lt y floor ≡ true → (a : Float) → lt a x ≡ true → lt x floor ≡ true
low nan y floor lost h a k = absurd (clash (lt a nan) (nothing_beats a) k)
low x nan floor gone h a k = absurd (clash (lt nan floor) (nan_low floor) h)
low x y floor (kept l) h a k = is_true (lt x floor) (le_lt_trans x y floor (Le→le x y l) (holds (lt y floor) h))

-- and so is what does not beat a number below the floor
unbeaten : (b x floor : Float) → lt b floor ≡ true → lt b x ≡ false → (a : Float) → lt a x ≡ true → lt x floor ≡ true
unbeaten b x floor h e a k =
    is_true (lt x floor) (le_lt_trans x b floor
    (not_lt_le x b (lt_number a x (holds (lt a x) k)).1 (lt_number b floor (holds (lt b floor) h)).0 (denied (lt b x) e)) (holds (lt b floor) h))

-- ---- one list more
module _ (floor : Float) (x b : Scored) (partial : ℕ) (score size seq : Float) where
  abbrev new : Scored
  new = record { target = target_of partial; score = score; sizesim = size; seqsim = seq }

  -- passed over: its bound is below the floor
  pub pass_floor : (y : Float) → Safe score y → lt y floor ≡ true → StandsFor floor x b → StandsFor floor (greater_of x partial (Some (scores_of score size seq))) b
  unfolding greater_of
  pass_floor y safe h s = go (lt x.score score) refl s
    where
      go : (t : Bool) → lt x.score score ≡ t → StandsFor floor x b → StandsFor floor (cond t new x) b
      go false e s = s
      go true e (same f) =
          let l = low score y floor safe h x.score e in
          below l (lt_trans b.score score floor (ap (λ (z : Scored). lt z.score score) f ∙ e) l)
      go true e (below p q) = below (low score y floor safe h x.score e) q

  -- passed over: its bound is at most the best
  pub pass_best : (y : Float) → Safe score y → le y b.score ≡ true → StandsFor floor x b → StandsFor floor (greater_of x partial (Some (scores_of score size seq))) b
  unfolding greater_of
  pass_best y safe h s = go (lt x.score score) refl s
    where
      go : (t : Bool) → lt x.score score ≡ t → StandsFor floor x b → StandsFor floor (cond t new x) b
      go false e s = s
      go true e (same f) = absurd (clash (lt b.score score) (beaten score y b.score safe h) (ap (λ (z : Scored). lt z.score score) f ∙ e))
      go true e (below p q) = below (unbeaten b.score score floor q (beaten score y b.score safe h) x.score e) q

  try_both : StandsFor floor x b → StandsFor floor (greater_of x partial (Some (scores_of score size seq))) (greater_of b partial (Some (scores_of score size seq)))
  unfolding greater_of
  try_both (same f) = same (ap (λ (z : Scored). cond (lt z.score score) new z) f)
  try_both (below p q) = go (lt x.score score) refl (lt b.score score) refl
    where
      go : (t : Bool) → lt x.score score ≡ t → (u : Bool) → lt b.score score ≡ u → StandsFor floor (cond t new x) (cond u new b)
      go true e true g = same refl
      go true e false g = below (unbeaten b.score score floor q g x.score e) q
      go false e true g = below p (unbeaten x.score score floor p e b.score g)
      go false e false g = below p q

-- tried against both
pub tried : (floor : Float) (x b : Scored) (partial : ℕ) (v : Option Scores) → StandsFor floor x b → StandsFor floor (greater_of x partial v) (greater_of b partial v)
tried floor x b partial None s = unfold greater_of in s
tried floor x b partial (Some y) s = try_both floor x b partial y.score y.sizesim y.seqsim s

-- ---- what the search keeps is the same: below its best nothing replaces it
pub later_same : {R : Type 0} (floor : Float) (x r : Scored) (f : Scored → R) (old : R) → StandsFor floor x r
    → cond (le floor r.score) (f r) old ≡ cond (le floor x.score) (f x) old
later_same floor x r f old (same e) = ap (λ (z : Scored). cond (le floor z.score) (f z) old) e
later_same floor x r f old (below p q) = rw (lower x.score p, lower r.score q)
  where
    lower : (y : Float) → lt y floor ≡ true → le floor y ≡ false
    lower y h = no (le floor y) (λ t. lt_not_le y floor (holds (lt y floor) h) t)
