-- The pass over a chain's row and a list's, block by block: what is added up and what is left are the whole, so after each block n bounds seqsim, and after
-- the last one the sums are seqsim's own. Assumes nothing.
use Rattle.std.specs.Prelude.{Option, None}
use mathlib.Core.Path.{◌≡◌, refl, sym, ap, ◌∙◌}
use mathlib.Core.Bool.{Bool, true, false}
use mathlib.Core.List.{List, [], ◌∷◌, ◌++◌}
use Prim.Native.Nat.{ℕ, zero, suc, ◌+◌, ◌-◌, ◌*◌, ◌≤◌, ◌<◌, min}
use native.Mathlib.Omega.{arith}
use lib.Dec.{T}
use lib.IntN.{ℤ, pos, nat_abs}
use lib.ListN.{length, get_or, take, drop, length-drop}
use lib.Seq.{drop-drop, length-take-le, take_at}
use mir.Syntax.{w32}
use mir.Val.{to_z, of_z}
use lib.Ieee.{Float, lt, le}
use lib.Ieee.Bits.{is_true}
use Rattle.metrics.specs.Similarity.{magnitude_sum, part_d, part_n, sum_by, sum_d, sum_n, seqsim_value}
use Rattle.metrics.proofs.Rows.{sum_step, sum_none, sum_le, d_le, n_le_d}
use Rattle.metrics.proofs.FloatOrder.{le_lt_trans}
use Rattle.kplib.specs.Sums.{zeros, features_of}
use Rattle.kplib.specs.Score.{seqsim_of_rows}
use Rattle.kplib.specs.Scoring.{Summable, verdict_of, Judgeable, Judged, own, idle, may_score}
use Rattle.kplib.specs.Blocks.{parts_from, pair_on, sums_on, Addable, Passable, Blockable}
use Rattle.params.specs.declared.Settings.{Settings}
use Rattle.kplib.specs.declared.sums.Sums.{Sums}
use Rattle.kplib.specs.declared.pathscore.Terms.{Terms}
use Rattle.kplib.specs.declared.pathscore.Scores.{Scores}
use Rattle.kplib.proofs.RoundingLaws.{holds}
use Rattle.kplib.proofs.RowSumLaws.{entry_le, zeros_length, zeros_sum, features_length, features_sum}
use Rattle.kplib.proofs.WordLaws.{back}
use Rattle.kplib.proofs.PartSumLaws.{take_zeros, part_le, parts_are}
use Rattle.kplib.proofs.BoundLaws.{d_le_twice, bounded}

-- ---- a sum over two rows, cut
sum_nil : (f : ℤ → ℤ → ℕ) (a : List ℤ) → sum_by f a [] ≡ 0
unfolding sum_by
sum_nil f [] = refl
sum_nil f (x ∷ a) = refl

sum_split : (f : ℤ → ℤ → ℕ) (k : ℕ) (a b : List ℤ) → sum_by f a b ≡ sum_by f (take k a) (take k b) + sum_by f (drop k a) (drop k b)
unfolding sum_by
sum_split f zero a b = omega arith
sum_split f (suc k) [] b = refl
sum_split f (suc k) (x ∷ a) [] = omega (arith, sum_nil f (drop k a))
sum_split f (suc k) (x ∷ a) (y ∷ b) = omega (arith, sum_split f k a b)

block_sum : (f : ℤ → ℤ → ℕ) (a b : List ℤ) (i e : ℕ) → i < e
    → sum_by f (drop i a) (drop i b) ≡ sum_by f (take (e - i) (drop i a)) (take (e - i) (drop i b)) + sum_by f (drop e a) (drop e b)
block_sum f a b i e h =
    let g : i + (e - i) ≡ e = omega arith in
    let pa : drop (e - i) (drop i a) ≡ drop e a = drop-drop (e - i) i a ∙ ap (λ (k : ℕ). drop k a) g in
    let pb : drop (e - i) (drop i b) ≡ drop e b = drop-drop (e - i) i b ∙ ap (λ (k : ℕ). drop k b) g in
    rw (← pa, ← pb) (sum_split f (e - i) (drop i a) (drop i b))

-- ---- i entries are passed
pub record Passed (m : ℕ) (a b : List ℤ) (i : ℕ) (s : Sums) : Type 0 where
  pub inside : i ≤ length a
  pub some_d : s.d + sum_d m (drop i a) (drop i b) ≡ sum_d m a b
  pub some_n : s.n + sum_n m (drop i a) (drop i b) ≡ sum_n m a b

pub block_passed : {m : ℕ} {a b : List ℤ} {i e : ℕ} {s r : Sums} → Passed m a b i s → i < e → e ≤ length a
    → r ≡ sums_on m (take (e - i) (drop i a)) (take (e - i) (drop i b)) s → Passed m a b e r
block_passed {m} {a} {b} {i} {e} {s} {r} w h l t =
    let nd = ap (λ (x : Sums). x.d) t in
    let nn = ap (λ (x : Sums). x.n) t in
    record {
      inside = l;
      some_d = omega (arith, nd, w.some_d, block_sum (part_d m) a b i e h);
      some_n = omega (arith, nn, w.some_n, block_sum (part_n m) a b i e h);
    }

-- ---- the loop over the entries of two rows, from the sums z on
pub record Passing (m : ℕ) (a b : List ℤ) (z : Sums) (i : ℕ) (s : Sums) : Type 0 where
  pub some_d : s.d + sum_d m (drop i a) (drop i b) ≡ z.d + sum_d m a b
  pub some_n : s.n + sum_n m (drop i a) (drop i b) ≡ z.n + sum_n m a b

module _ {m : ℕ} {a b : List ℤ} {z s : Sums} {i : ℕ} (y : Passable z a b m) (h : i < length a) (w : Passing m a b z i s) where
  second_in : i < length b
  second_in = omega (arith, y.even)

  pub passing_ok : Addable s (to_z w32 (of_z w32 (get_or a i (pos 0)))) (to_z w32 (of_z w32 (get_or b i (pos 0)))) m
  passing_ok =
      let p : nat_abs (get_or a i (pos 0)) ≤ 8388608 = omega (arith, entry_le a i, y.first) in
      let q : nat_abs (get_or b i (pos 0)) ≤ 8388608 = omega (arith, entry_le b i, y.second) in
      rw (back (get_or a i (pos 0)) (omega arith), back (get_or b i (pos 0)) (omega arith)) (record {
        first = p;
        second = q;
        minkfreq = y.minkfreq;
        low_d = omega (arith, w.some_d, sum_le (part_d m) (d_le m) a b, y.first, y.second, y.low_d);
        low_n = omega (arith, w.some_n, n_le_d m a b, sum_le (part_d m) (d_le m) a b, y.first, y.second, y.low_n);
      })

  pub passing_turn : {r : Sums} → r ≡ pair_on m (to_z w32 (of_z w32 (get_or a i (pos 0)))) (to_z w32 (of_z w32 (get_or b i (pos 0)))) s → Passing m a b z (i + 1) r
  passing_turn {r} e =
      let p : nat_abs (get_or a i (pos 0)) ≤ 8388608 = omega (arith, entry_le a i, y.first) in
      let q : nat_abs (get_or b i (pos 0)) ≤ 8388608 = omega (arith, entry_le b i, y.second) in
      let f = rw (back (get_or a i (pos 0)) (omega arith), back (get_or b i (pos 0)) (omega arith)) at e in
      record {
        some_d = omega (arith, ap (λ (x : Sums). x.d) f, w.some_d, sum_step (part_d m) a b i h second_in);
        some_n = omega (arith, ap (λ (x : Sums). x.n) f, w.some_n, sum_step (part_n m) a b i h second_in);
      }

pub passing_done : {m : ℕ} {a b : List ℤ} {z s : Sums} {i : ℕ} → length a ≤ i → Passing m a b z i s → s ≡ sums_on m a b z
passing_done {m} {a} {b} {z} {s} {i} h w =
    let d : s.d ≡ z.d + sum_d m a b = omega (arith, w.some_d, sum_none (part_d m) a b i h) in
    let n : s.n ≡ z.n + sum_n m a b = omega (arith, w.some_n, sum_none (part_n m) a b i h) in
    rw (← d, ← n)

-- ---- a list against a summed chain
module _ {s : Settings} {table : List ℤ} {rows : List ℕ} {chainRow : List ℤ} {weight : ℕ} {terms : Terms} (y : Judgeable s table rows chainRow weight terms) where
  abbrev list : List ℤ
  list = features_of (length chainRow) table rows

  abbrev m : ℕ
  m = s.minkfreq

  d_low : sum_d m chainRow list ≤ 16777216
  d_low = omega (arith, sum_le (part_d m) (d_le m) chainRow list, y.weight_is, y.limit, features_sum (length chainRow) table rows y.summed)

  pub low_d : {i : ℕ} {z : Sums} → Passed s.minkfreq chainRow (features_of (length chainRow) table rows) i z → z.d ≤ 16777216
  low_d w = omega (arith, w.some_d, d_low)

  pub low_n : {i : ℕ} {z : Sums} → Passed s.minkfreq chainRow (features_of (length chainRow) table rows) i z → z.n ≤ 16777216
  low_n w = omega (arith, w.some_n, n_le_d m chainRow list, d_low)

  pub block_ok : {i e : ℕ} {z : Sums} → Passed s.minkfreq chainRow (features_of (length chainRow) table rows) i z → i < e → e ≤ length chainRow → e ≤ i + 128
      → Blockable z table rows chainRow i e s.minkfreq
  block_ok w h k l = record {
    summed = y.summed;
    chain = omega (arith, y.weight_is, y.limit);
    minkfreq = y.minkfreq;
    some = h;
    inside = k;
    short = l;
    low_d = low_d w;
    low_n = low_n w;
  }

  module _ {i : ℕ} {z : Sums} (w : Passed s.minkfreq chainRow (features_of (length chainRow) table rows) i z) {most : Float}
      (e : most ≡ seqsim_value (min (2 * weight + 1 + z.n) 16777216) z.n) where
    most_is : T (le (seqsim_of_rows m chainRow list) most)
    most_is =
        let n : z.n ≤ sum_n m chainRow list = omega (arith, w.some_n) in
        let far : sum_d m chainRow list ≤ 2 * weight + sum_n m chainRow list = omega (arith, d_le_twice m chainRow list, y.weight_is) in
        rw e (bounded (sum_d m chainRow list) (sum_n m chainRow list) weight z.n n (n_le_d m chainRow list) far d_low)

    -- given up: no seqsim up to the bound reaches the threshold, or none could win
    pub too_low : lt most s.seqsim ≡ true → Judged s terms (seqsim_of_rows s.minkfreq chainRow (features_of (length chainRow) table rows)) None
    too_low h =
        let q = seqsim_of_rows m chainRow list in
        let k : lt q s.seqsim ≡ true = is_true (lt q s.seqsim) (le_lt_trans q most s.seqsim most_is (holds (lt most s.seqsim) h)) in
        own {r = None} (rw k)

    pub no_gain : {t : Bool} → t ≡ may_score s terms most → t ≡ false → Judged s terms (seqsim_of_rows s.minkfreq chainRow (features_of (length chainRow) table rows)) None
    no_gain f h = idle {r = None} most refl most_is (sym f ∙ h)

  -- at the end
  pub whole_verdict : {i : ℕ} {z : Sums} → Passed s.minkfreq chainRow (features_of (length chainRow) table rows) i z → length chainRow ≤ i → {q : Float}
      → q ≡ seqsim_value (min z.d 16777216) (min z.n 16777216) → {v : Option Scores} → v ≡ verdict_of s terms q
      → Judged s terms (seqsim_of_rows s.minkfreq chainRow (features_of (length chainRow) table rows)) v
  whole_verdict {i} {z} w h {q} e {v} k =
      let d : min z.d 16777216 ≡ sum_d m chainRow list = omega (arith, low_d w, w.some_d, sum_none (part_d m) chainRow list i h) in
      let n : min z.n 16777216 ≡ sum_n m chainRow list = omega (arith, low_n w, w.some_n, sum_none (part_n m) chainRow list i h) in
      let same : q ≡ seqsim_of_rows m chainRow list = rw (d, n) at e in
      own {r = v} (k ∙ ap (λ (x : Float). verdict_of s terms x) same)

-- ---- one block: its front of a local array is a part of the list's row
module _ {z : Sums} {table : List ℤ} {rows : List ℕ} {chainRow : List ℤ} {from to m : ℕ} (y : Blockable z table rows chainRow from to m) where
  abbrev len : ℕ
  len = to - from

  abbrev part : List ℤ
  part = take (to - from) (drop from (features_of (length chainRow) table rows))

  part_long : length part ≡ len
  part_long =
      let k = features_length (length chainRow) table rows y.summed in
      let h : to - from ≤ length (drop from (features_of (length chainRow) table rows)) = omega (arith, length-drop from (features_of (length chainRow) table rows), y.some, y.inside) in
      length-take-le (to - from) (drop from (features_of (length chainRow) table rows)) h

  chain_long : length (take (to - from) (drop from chainRow)) ≡ len
  chain_long =
      let h : to - from ≤ length (drop from chainRow) = omega (arith, length-drop from chainRow, y.some, y.inside) in
      length-take-le (to - from) (drop from chainRow) h

  module _ {block : List ℤ} (e : block ≡ zeros 128) where
    cleared : take (to - from) block ≡ zeros len
    cleared = ap (λ (l : List ℤ). take (to - from) l) e ∙ take_zeros len 128 (omega (arith, y.short))

    pub cleared_long : to - from ≡ length (take (to - from) block)
    cleared_long = sym (ap length cleared ∙ zeros_length len)

    pub cleared_ok : (Summable (length chainRow) table rows) × (from + length (take (to - from) block) ≤ length chainRow) × (magnitude_sum (take (to - from) block) ≡ 0)
    cleared_ok = (y.summed, omega (arith, cleared_long, y.some, y.inside), ap magnitude_sum cleared ∙ zeros_sum len)

    pub part_is : {x : List ℤ} → x ≡ parts_from (length chainRow) from (length (take (to - from) block)) table (take (to - from) block) rows
        → x ≡ take (to - from) (drop from (features_of (length chainRow) table rows))
    part_is g = parts_are (length chainRow) from table rows (omega (arith, y.some, y.inside)) (sym cleared_long) cleared g

  module _ {x : List ℤ} (e : x ≡ take (to - from) (drop from (features_of (length chainRow) table rows))) (rest : List ℤ) where
    front_is : take (to - from) (x ++ rest) ≡ part
    front_is = take_at x rest len (ap length e ∙ part_long) ∙ e

    pub rows_pass : Passable z (take (to - from) (drop from chainRow)) (take (to - from) (x ++ rest)) m
    rows_pass = rw front_is (record {
      even = chain_long ∙ sym part_long;
      first = omega (arith, part_le len from chainRow, y.chain);
      second = omega (arith, part_le len from (features_of (length chainRow) table rows), features_sum (length chainRow) table rows y.summed);
      minkfreq = y.minkfreq;
      low_d = y.low_d;
      low_n = y.low_n;
    })

    pub block_is : {r : Sums} → r ≡ sums_on m (take (to - from) (drop from chainRow)) (take (to - from) (x ++ rest)) z
        → r ≡ sums_on m (take (to - from) (drop from chainRow)) (take (to - from) (drop from (features_of (length chainRow) table rows))) z
    block_is h = rw front_is at h
