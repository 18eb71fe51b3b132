-- The loop over the laid lists: the best so far, after the lists that are left, stands for the chain's score. Assumes nothing.
use mathlib.Core.Path.{◌≡◌, refl, sym, ap, ◌∙◌, subst}
use mathlib.Core.List.{List}
use Prim.Native.Nat.{ℕ, ◌+◌, ◌≤◌, ◌<◌}
use native.Mathlib.Omega.{arith}
use native.Mathlib.Numerals.{add-one}
use lib.IntN.{ℤ, pos}
use lib.Ieee.{Float}
use lib.ListN.{length, get_or, drop, drop_of_length-le}
use lib.Seq.{drop-cons}
use mir.Syntax.{w32}
use mir.Val.{to_z, of_z}
use Rattle.kplib.specs.Told.{Told}
use Rattle.kplib.specs.Sums.{features_of}
use Rattle.kplib.specs.Score.{start}
use Rattle.kplib.specs.Scoring.{Ready, StandsFor, same, chain_total, after_code, after_codes, coded_score, Attempted, none_tried, Scorable}
use Rattle.kplib.specs.declared.pathscore.Scored.{Scored}
use Rattle.kplib.specs.declared.pathscore.Best.{Best}
use Rattle.kplib.proofs.WordLaws.{back}

-- ---- the lists one after another
module _ (after : Scored → ℕ → ℤ → Scored) (codes : List ℕ) (sizes : List ℤ) (best : Scored) {i : ℕ} where
  codes_turn : {best' x : Scored} → length sizes ≡ length codes → i < length codes → best' ≡ after best (get_or codes i 0) (get_or sizes i (pos 0))
      → after_codes after best (drop i codes) (drop i sizes) ≡ x → after_codes after best' (drop (i + 1) codes) (drop (i + 1) sizes) ≡ x
  unfolding after_codes
  codes_turn {best'} alike h k e =
      ap (λ (b : Scored). after_codes after b (drop (i + 1) codes) (drop (i + 1) sizes)) k
      ∙ (rw (add-one i) (rw (drop-cons codes i 0 h, drop-cons sizes i (pos 0) (omega arith)) at e))

  codes_done : {x : Scored} → length codes ≤ i → after_codes after best (drop i codes) (drop i sizes) ≡ x → best ≡ x
  unfolding after_codes
  codes_done h e = rw (drop_of_length-le codes h) at e

-- after i lists: `full` is the best with no list passed over
pub record Tried (q : Told) (chain : List ℕ) (chainSize : ℤ) (floor : Float) (best : Best)
    (scratch : List ℤ) (i : ℕ) : Type 0 where
  pub ready : Ready best.weight scratch (features_of q.plan.width q.features chain)
  pub full : Scored
  pub stands : StandsFor floor full best.scored
  pub rest : after_codes (after_code q.plan q.part_features (chain_total q.plan.width q.features chain chainSize)) full (drop i q.codes) (drop i q.list_sizes)
      ≡ coded_score q.plan q.part_features q.codes q.list_sizes (chain_total q.plan.width q.features chain chainSize)

pub none_tried_lem : (q : Told) (chain : List ℕ) (chainSize : ℤ) (floor : Float) (scratch : List ℤ)
    {b : Best} → b ≡ none_tried → Tried q chain chainSize floor b scratch 0
unfolding coded_score
none_tried_lem q chain chainSize floor scratch e = record {
  ready = subst (λ (x : Best). Ready x.weight scratch (features_of q.plan.width q.features chain)) (sym e) tt;
  full = start;
  stands = same (ap (λ (x : Best). x.scored) e);
  rest = refl;
}

module _ {q : Told} {chain : List ℕ} {chainSize : ℤ} {chosen : List ℕ} {scratch : List ℤ}
    (y : Scorable q chain chainSize chosen scratch) where
  module _ {i : ℕ} (h : i < length q.codes) where
    s_back : to_z w32 (of_z w32 (get_or q.list_sizes i (pos 0))) ≡ get_or q.list_sizes i (pos 0)
    s_back = back (get_or q.list_sizes i (pos 0)) (omega (arith, (y.coded.each i h).size_small))

    pub one_more : (floor : Float) (best : Best) {r : Best} (scratch' : List ℤ) {scratch'' : List ℤ}
        → Tried q chain chainSize floor best scratch' i
        → Attempted q chain chainSize (get_or q.codes i 0) (to_z w32 (of_z w32 (get_or q.list_sizes i (pos 0)))) floor best.scored r scratch''
        → Tried q chain chainSize floor r scratch'' (i + 1)
    one_more floor best {r} scratch' v a =
        let after = after_code q.plan q.part_features (chain_total q.plan.width q.features chain chainSize) in
        record {
          ready = a.ready;
          full = after v.full (get_or q.codes i 0) (get_or q.list_sizes i (pos 0));
          stands = rw s_back at (a.stands v.full v.stands);
          rest = codes_turn after q.codes q.list_sizes v.full y.coded.alike h refl v.rest;
        }

  pub all_tried : {i : ℕ} → length q.codes ≤ i → (floor : Float) (best : Best) (scratch' : List ℤ)
      → Tried q chain chainSize floor best scratch' i
      → StandsFor floor (coded_score q.plan q.part_features q.codes q.list_sizes (chain_total q.plan.width q.features chain chainSize)) best.scored
  all_tried h floor best scratch' v =
      let after = after_code q.plan q.part_features (chain_total q.plan.width q.features chain chainSize) in
      let done = codes_done after q.codes q.list_sizes v.full h v.rest in
      rw (← done) v.stands
