-- Each return is one case of the definition. Where a row is within its limit, by the cheap test or by the exact one, the sums of the pass are right.
use Rattle.std.proofs.Common.{◌≡◌, ℕ, ◌≤◌, List, ℤ, sym, ◌∙◌, ltb-false, le-ltb, lt-ltb, ne_eqb}
use lib.Ieee.{Float}
use Rattle.metrics.specs.declared.lanes.Sums.{Sums}
use Rattle.std.specs.Prelude.{Ok}
use Rattle.metrics.specs.Similarity.{seqsim_value, seqsim_of}
use Rattle.metrics.proofs.LaneLaws.{Good, good_within, good_rows, good_low, good_is, over_is, over_is_2}
use Rattle.metrics.proofs.seqsim.Goals.{Else-a-b, Else-row_over-2, Then-surely_within, then-row_over-via-then-row_over, then-row_over-via-else-row_over+then-row_over-2}
use Rattle.metrics.proofs.seqsim.Goals as goal

-- where the sums are good the value is the answer
low : {m : ℕ} {a b : List ℤ} {s : Sums} → Good m a b s → (s.d ≤ 16777216) × (s.n ≤ 16777216)
low {m} {a} {b} {s} g = good_low m a b s g

value : (e : Else-a-b) → {s : Sums} → Good e.args.minkfreq e.args.a.now e.args.b.now s → (v : Float) → v ≡ seqsim_value s.d s.n → Ok v ≡ seqsim_of e.args.a.now e.args.b.now e.args.minkfreq
value e {s} g v ev =
    good_is e.args.minkfreq e.args.a.now e.args.b.now s g e.if-minkfreq-gt16777216.false e.if-a-b.false v ev

good_fast : (c : Then-surely_within) → let a = c.args in Good a.minkfreq a.a.now a.b.now c.sum_rows-s.result
good_fast c =
    good_within _ _ _ _ c.sum_rows-s.ensures c.if-a-b.false (c.surely_within.ensures c.if-surely_within.true).0
    (c.surely_within.ensures c.if-surely_within.true).1

good_slow : (c : Else-row_over-2) → let a = c.args in Good a.minkfreq a.a.now a.b.now c.sum_rows-s.result
good_slow c =
    good_rows _ _ _ _ c.sum_rows-s.ensures (ltb-false _ _ (sym c.row_over.ensures ∙ c.if-row_over.false))
    (ltb-false _ _ (sym c.row_over-else-row_over.ensures ∙ c.if-row_over-2.false))

pub returns-then-minkfreq-gt16777216 : goal.returns-then-minkfreq-gt16777216
unfolding seqsim_of
returns-then-minkfreq-gt16777216 c = rw (lt-ltb _ _ c.if-minkfreq-gt16777216.true)

pub returns-then-a-b : goal.returns-then-a-b
unfolding seqsim_of
returns-then-a-b c = rw (le-ltb _ _ c.if-minkfreq-gt16777216.false, ne_eqb _ _ c.if-a-b.true)

pub rounded_similarity-requires : goal.rounded_similarity-requires
rounded_similarity-requires c = low (good_fast (goal.at.rounded_similarity-requires c).Then-surely_within)

pub returns-then-surely_within : goal.returns-then-surely_within
returns-then-surely_within c = value (goal.at.returns-then-surely_within c).Else-a-b (good_fast (goal.at.returns-then-surely_within c).Then-surely_within) _ c.rounded_similarity.ensures

pub returns-then-row_over : goal.returns-then-row_over
returns-then-row_over c = elim c.then-row_over.branch [
  | then-row_over-via-then-row_over w ↦ over_is c.args.minkfreq c.args.a.now c.args.b.now c.sum_rows-s.result
      c.if-minkfreq-gt16777216.false c.if-a-b.false (sym c.row_over.ensures ∙ w.if-row_over.true)
  | then-row_over-via-else-row_over+then-row_over-2 w ↦ over_is_2 c.args.minkfreq c.args.a.now c.args.b.now c.sum_rows-s.result
      c.if-minkfreq-gt16777216.false c.if-a-b.false (sym c.row_over.ensures ∙ w.if-row_over.false)
      (sym w.row_over-else-row_over.ensures ∙ w.if-row_over-2.true)
]

pub rounded_similarity-requires-2 : goal.rounded_similarity-requires-2
rounded_similarity-requires-2 c = low (good_slow (goal.at.rounded_similarity-requires-2 c).Else-row_over-2)

pub returns : goal.returns
returns c = value (goal.at.returns c).Else-a-b (good_slow (goal.at.returns c).Else-row_over-2) _ c.rounded_similarity-2.ensures
