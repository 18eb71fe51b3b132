-- One laid list against a chain: what each call of `try_list` asks, and that what comes out stands for the definition's, whether the list is passed over,
-- given up or scored. Assumes nothing.
use Rattle.std.specs.Prelude.{Option, Some}
use mathlib.Core.Path.{◌≡◌, refl, sym, ap, ◌∙◌}
use mathlib.Core.Bool.{Bool, true, false}
use mathlib.Core.List.{List}
use Prim.Native.Nat.{ℕ, ◌-◌, ◌/◌, ◌≤◌}
use native.Mathlib.Omega.{arith}
use lib.IntN.{ℤ}
use lib.Ieee.{Float}
use lib.ListN.{length}
use mir.Syntax.{w32}
use mir.Val.{to_z, of_z}
use Rattle.metrics.specs.Similarity.{magnitude_sum}
use Rattle.kplib.specs.Told.{Told}
use Rattle.kplib.specs.Sums.{features_of}
use Rattle.kplib.specs.Score.{seqsim_of_rows, greater_of}
use Rattle.kplib.specs.Scoring.{list_of_code, Summable, Ready, total, chain_total, tested_of, Testable, terms_of, may_win, Judgeable, Judged, after_code, Attempt, Attempted}
use Rattle.kplib.specs.declared.pathscore.Scored.{Scored}
use Rattle.kplib.specs.declared.pathscore.Scores.{Scores}
use Rattle.kplib.specs.declared.pathscore.Best.{Best}
use Rattle.kplib.specs.declared.pathscore.Terms.{Terms}
use Rattle.kplib.specs.declared.pathscore.Tested.{Tested}
use Rattle.kplib.proofs.RowSumLaws.{summable, features_length, features_sum}
use Rattle.kplib.proofs.VerdictLaws.{chain_as_read, list_as_read, judged_stands, lost, won}

module _ {q : Told} {chain : List ℕ} {chainSize : ℤ} {code : ℕ} {size : ℤ} {chosen : List ℕ} {scratch : List ℤ}
    {weight : Option ℕ} (y : Attempt q chain chainSize code size chosen scratch weight) where
  abbrev width : ℕ
  width = q.plan.width

  abbrev list : List ℕ
  list = list_of_code q.plan.m code

  abbrev partial : ℕ
  partial = q.plan.m - code / 65536

  list_few : length list ≤ 64
  list_few = omega (arith, y.listed.count_is, y.listed.most, y.planned.few)

  -- what is tested
  abbrev measured : Tested
  measured = tested_of chainSize (length chain) size (code / 65536) partial

  tests : Testable measured
  tests = record {
    chain_size = y.chain_size;
    list_size = y.listed.size_small;
    chain_few = y.chained.most;
    list_few = omega (arith, y.listed.most, y.planned.few);
    partial_few = omega (arith, y.planned.few);
  }

  pub attempt_lost : (floor : Float) (best : Best) {t : Bool}
      → t ≡ may_win q.plan.s (tested_of (to_z w32 (of_z w32 chainSize)) (length chain) (to_z w32 (of_z w32 size)) (code / 65536) (q.plan.m - code / 65536)) floor best.scored.score
      → t ≡ false → Ready best.weight scratch (features_of q.plan.width q.features chain)
      → Attempted q chain chainSize code size floor best.scored best scratch
  unfolding after_code
  attempt_lost floor best f h r = record {
    stands = λ x st.
        lost q.plan.s floor x best.scored (chain_total width q.features chain chainSize) (total size (features_of width q.part_features list) (code / 65536)) partial
        (sym (rw (chain_as_read tests, list_as_read tests) at f) ∙ h) st;
    ready = r;
  }

  -- ---- the chain's row, and the list's rows
  list_sum : Summable width q.part_features list
  list_sum = summable q.plan.m width q.part_features list y.part_rows y.listed.within list_few

  module _ {floor : Float} (best : Scored) {chainRow : List ℤ} {w : ℕ} (r : Ready (Some w) chainRow (features_of (length scratch) q.features chain))
      {list' : List ℕ} (g : list' ≡ list_of_code q.plan.m code) {terms : Terms}
      (te : (terms ≡ terms_of q.plan.s (tested_of (to_z w32 (of_z w32 chainSize)) (length chain) (to_z w32 (of_z w32 size)) (code / 65536) (q.plan.m - code / 65536)) floor best.score)
      × (terms.partial ≤ 64) × (terms.gap ≤ 64)) where
    chain_is : chainRow ≡ features_of width q.features chain
    chain_is = r.0 ∙ ap (λ (n : ℕ). features_of n q.features chain) y.scratch_is

    chain_length : length chainRow ≡ width
    chain_length = ap length chain_is ∙ features_length width q.features chain y.chained

    weight_is : w ≡ magnitude_sum chainRow
    weight_is = r.1 ∙ ap magnitude_sum (sym r.0)

    terms_are : terms ≡ terms_of q.plan.s measured floor best.score
    terms_are = rw (chain_as_read tests, list_as_read tests) at te.0

    pub judgeable : Judgeable q.plan.s q.part_features list' chainRow w terms
    judgeable = record {
      minkfreq = y.planned.minkfreq;
      summed = rw (chain_length, g) list_sum;
      weight_is = weight_is;
      limit = omega (arith, weight_is, ap magnitude_sum chain_is, features_sum width q.features chain y.chained);
      partial_few = te.1;
      gap_few = te.2;
    }

    pub attempt_scored : {t : Bool}
        → t ≡ may_win q.plan.s (tested_of (to_z w32 (of_z w32 chainSize)) (length chain) (to_z w32 (of_z w32 size)) (code / 65536) (q.plan.m - code / 65536)) floor best.score
        → t ≡ true → {scored : Scored} {v : Option Scores}
        → Judged q.plan.s terms (seqsim_of_rows q.plan.s.minkfreq chainRow (features_of (length chainRow) q.part_features list')) v → scored ≡ greater_of best (q.plan.m - code / 65536) v
        → Attempted q chain chainSize code size floor best (record { scored = scored; weight = Some w }) chainRow
    unfolding after_code
    attempt_scored f h {scored} {v} j u =
        let may : may_win q.plan.s measured floor best.score ≡ true = sym (rw (chain_as_read tests, list_as_read tests) at f) ∙ h in
        let own = won q.plan.s floor best best (chain_total width q.features chain chainSize) (total size (features_of width q.part_features list) (code / 65536)) partial may in
        let j' = rw (chain_length, g, chain_is, terms_are) at j in
        record { stands = λ x st. rw (u, own) (judged_stands j' x best refl st); ready = (chain_is, weight_is ∙ ap magnitude_sum chain_is) }
