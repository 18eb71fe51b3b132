-- One more pair of entries in the pass over two rows, and what the whole pass shows. Where the rows are within their
-- limit no sum wraps, since what is added up and what is left are the whole. Assumes nothing.
use Rattle.std.proofs.Common.{◌≡◌, ℕ, zero, suc, ◌+◌, ◌*◌, ◌%◌, ◌<◌, ◌≤◌, Bool, true, false, cond, ltb, leb, List, [], ◌∷◌, length, get_or, drop, ℤ, pos}
use Rattle.std.proofs.Common.{◌-ℤ◌, nat_abs, ap, zero-le, le_refl, add-mul, mul-le-mul, one-mul, arith, le-ltb}
use Rattle.std.proofs.Common.{eq-eqb}
use lib.Bits.{bit_or, or_add_and, and_le_l, and_le_r}
use lib.Ieee.{Float}
use Rattle.std.specs.Prelude.{Ok, Err}
use Rattle.metrics.specs.declared.refusals.Refusal.TheVariants.{BadRow}
use Rattle.metrics.specs.declared.lanes.Sums.{Sums}
use Rattle.metrics.specs.declared.lanes.RowSum.{RowSum}
use Rattle.metrics.specs.Similarity.{magnitude_sum, part_d, part_n, sum_d, sum_n, seqsim_value, seqsim_of}
use Rattle.metrics.specs.Lanes.{Added, Summed, RowSummed}
use Rattle.metrics.proofs.Ints.{apart_le}
use Rattle.metrics.proofs.Rows.{row_step, row_none, sum_step, sum_none, sum_le, d_le, n_le, left_out}

-- a sum that cannot wrap, of what is kept of v
sum_kept : (b : Bool) (s k v r : ℕ) → k ≡ cond b v 0 → r ≡ (s + k) % 4294967296 → s + v < 4294967296 → r ≡ s + cond b v 0
sum_kept true s k v r e f h = omega arith
sum_kept false s k v r e f h = omega arith

pub more : (m p q t v k s r : ℕ) → t ≡ (p + q) % 4294967296 → (t < 2147483648 → k ≡ cond (leb m t) v 0) → r ≡ (s + k) % 4294967296
    → p + q < 2147483648 → s + v < 4294967296 → r ≡ s + cond (leb m (p + q)) v 0
more m p q t v k s r et ek er h g =
    let e : t ≡ p + q = omega arith in
    let l : t < 2147483648 = omega arith in
    sum_kept (leb m (p + q)) s k v r (rw (← e) (ek l)) er g

-- or-ing loses no bit
or_l : (a b : ℕ) → a ≤ bit_or a b
or_l a b = omega (arith, or_add_and a b, and_le_r a b)

or_r : (a b : ℕ) → b ≤ bit_or a b
or_r a b = omega (arith, or_add_and a b, and_le_l a b)

pub or_0 : (a p q : ℕ) → a ≤ bit_or (bit_or a p) q
or_0 a p q = omega (arith, or_l a p, or_l (bit_or a p) q)

pub or_1 : (a p q : ℕ) → p ≤ bit_or (bit_or a p) q
or_1 a p q = omega (arith, or_r a p, or_l (bit_or a p) q)

pub or_2 : (a p q : ℕ) → q ≤ bit_or (bit_or a p) q
or_2 a p q = or_r (bit_or a p) q

pub more_t : (m p q t k s r : ℕ) → t ≡ (p + q) % 4294967296 → (t < 2147483648 → k ≡ cond (leb m t) t 0) → r ≡ (s + k) % 4294967296
    → p + q < 2147483648 → s + (p + q) < 4294967296 → r ≡ s + cond (leb m (p + q)) (p + q) 0
more_t m p q t k s r et ek er h g =
    let e : t ≡ p + q = omega arith in
    let l : t < 2147483648 = omega arith in
    rw (← e) (sum_kept (leb m t) s k t r (ek l) er (omega arith))

-- what is left of a row is at most the row, and each entry is at most what is left
pub row_drop : (i : ℕ) (a : List ℤ) → magnitude_sum (drop i a) ≤ magnitude_sum a
unfolding magnitude_sum
row_drop zero a = le_refl (magnitude_sum a)
row_drop (suc i) [] = zero-le
row_drop (suc i) (x ∷ a) = omega (arith, row_drop i a)

room_step : (i k l n rest all : ℕ) → k ≤ l → n ≤ l → all ≤ i * k + (n + rest) → all ≤ (i + 1) * l + rest
room_step i k l n rest all h g e = omega (arith, add-mul i 1 l, one-mul l, mul-le-mul (le_refl i) h)

-- i entries are passed: `most` bounds them, and what is added up and what is left are the whole
pub record Passed (m : ℕ) (a b : List ℤ) (i : ℕ) (s : Sums) : Type 0 where
  pub inside : i ≤ length a
  pub room_a : magnitude_sum a ≤ i * s.most + magnitude_sum (drop i a)
  pub room_b : magnitude_sum b ≤ i * s.most + magnitude_sum (drop i b)
  pub exact_d : magnitude_sum a + magnitude_sum b < 2147483648 → s.d + sum_d m (drop i a) (drop i b) ≡ sum_d m a b
  pub exact_n : magnitude_sum a + magnitude_sum b < 2147483648 → s.n + sum_n m (drop i a) (drop i b) ≡ sum_n m a b

module _ (m : ℕ) (a b : List ℤ) where
  pub begin : (s : Sums) → s.d ≡ 0 → s.n ≡ 0 → Passed m a b 0 s
  begin s ed en = record {
    inside = zero-le;
    room_a = omega arith;
    room_b = omega arith;
    exact_d = λ h. omega arith;
    exact_n = λ h. omega arith;
  }

  module _ (i p q z : ℕ) (s r : Sums) (v : Passed m a b i s) (ia : i < length a) (ib : i < length b)
      (ep : p ≡ nat_abs (get_or a i (pos 0))) (eq : q ≡ nat_abs (get_or b i (pos 0)))
      (ez : nat_abs (get_or a i (pos 0)) + nat_abs (get_or b i (pos 0)) < 2147483648 → z ≡ nat_abs (get_or a i (pos 0) -ℤ get_or b i (pos 0)))
      (t : Added m p q z s r) where
    -- the pair's magnitudes are within the rows' limits
    pair_low : magnitude_sum a + magnitude_sum b < 2147483648 → nat_abs (get_or a i (pos 0)) + nat_abs (get_or b i (pos 0)) < 2147483648
    pair_low h = omega (arith, row_step a i ia, row_step b i ib, row_drop i a, row_drop i b)

    next_d : magnitude_sum a + magnitude_sum b < 2147483648
        → r.d + sum_d m (drop (i + 1) a) (drop (i + 1) b) ≡ sum_d m a b
    next_d h =
        let x = get_or a i (pos 0) in
        let y = get_or b i (pos 0) in
        let w = v.exact_d h in
        let l = pair_low h in
        let bound = sum_le (part_d m) (d_le m) a b in
        let h1 : p + q < 2147483648 = omega arith in
        let h2 : s.d + (p + q) < 4294967296 = omega arith in
        let f : r.d ≡ s.d + part_d m x y = rw (ep, eq) at (t.more_d h1 h2) in
        omega (arith, sum_step (part_d m) a b i ia ib)

    next_n : magnitude_sum a + magnitude_sum b < 2147483648
        → r.n + sum_n m (drop (i + 1) a) (drop (i + 1) b) ≡ sum_n m a b
    next_n h =
        let x = get_or a i (pos 0) in
        let y = get_or b i (pos 0) in
        let w = v.exact_n h in
        let l = pair_low h in
        let bound = sum_le (part_n m) (n_le m) a b in
        let zz = ez (omega arith) in
        let far = apart_le x y in
        let h1 : p + q < 2147483648 = omega arith in
        let h2 : s.n + z < 4294967296 = omega arith in
        let f : r.n ≡ s.n + part_n m x y = rw (ep, eq, zz) at (t.more_n h1 h2) in
        omega (arith, sum_step (part_n m) a b i ia ib)

    pub next : Passed m a b (i + 1) r
    next = record {
      inside = omega arith;
      room_a = room_step i s.most r.most (nat_abs (get_or a i (pos 0))) _ _ t.grows (omega (arith, t.holds_p)) (rw (← row_step a i ia) v.room_a);
      room_b = room_step i s.most r.most (nat_abs (get_or b i (pos 0))) _ _ t.grows (omega (arith, t.holds_q)) (rw (← row_step b i ib) v.room_b);
      exact_d = next_d;
      exact_n = next_n;
    }

  pub ended : (i : ℕ) (s : Sums) → Passed m a b i s → length a ≤ i → length a ≡ length b → Summed m a b s
  ended i s v h e =
      let ia : i ≡ length a = omega (arith, v.inside) in
      let ib : i ≡ length b = omega arith in
      let za = row_none a i h in
      let zb = row_none b i (omega arith) in
      let ra = v.room_a in
      let rb = v.room_b in
      record {
        room_a = rw (← ia) (omega arith);
        room_b = rw (← ib) (omega arith);
        exact_d = λ k. let w = v.exact_d k in omega (arith, sum_none (part_d m) a b i h);
        exact_n = λ k. let w = v.exact_n k in omega (arith, sum_none (part_n m) a b i h);
      }

-- rows within their limit, with their sums
pub record Good (m : ℕ) (a b : List ℤ) (s : Sums) : Type 0 where
  pub low_a : magnitude_sum a ≤ 8388608
  pub low_b : magnitude_sum b ≤ 8388608
  pub is_d : s.d ≡ sum_d m a b
  pub is_n : s.n ≡ sum_n m a b

module _ (m : ℕ) (a b : List ℤ) (s : Sums) where
  pub good_within : Summed m a b s → length a ≡ length b → length a * s.most ≤ 536870912 → s.d + length a * m ≤ 8388608 → Good m a b s
  good_within v e w l =
      let wb : length b * s.most ≤ 536870912 = rw (← e) w in
      let h : magnitude_sum a + magnitude_sum b < 2147483648 = omega (arith, v.room_a, v.room_b) in
      let d = v.exact_d h in
      let both = left_out m a b e in
      record { low_a = omega arith; low_b = omega arith; is_d = d; is_n = v.exact_n h }

  pub good_rows : Summed m a b s → magnitude_sum a ≤ 8388608 → magnitude_sum b ≤ 8388608 → Good m a b s
  good_rows v ha hb =
      let h : magnitude_sum a + magnitude_sum b < 2147483648 = omega arith in
      record { low_a = ha; low_b = hb; is_d = v.exact_d h; is_n = v.exact_n h }

  pub good_low : Good m a b s → (s.d ≤ 16777216) × (s.n ≤ 16777216)
  good_low g = omega (arith, sum_le (part_d m) (d_le m) a b, sum_le (part_n m) (n_le m) a b)

  pub good_is : Good m a b s → m ≤ 16777216 → length a ≡ length b → (v : Float) → v ≡ seqsim_value s.d s.n → Ok v ≡ seqsim_of a b m
  unfolding seqsim_of
  good_is g h e v ev =
      rw (le-ltb 16777216 m h, eq-eqb (length a) (length b) e, le-ltb 8388608 (magnitude_sum a) g.low_a, le-ltb 8388608 (magnitude_sum b) g.low_b, ← g.is_d, ← g.is_n)
      (ap (λ (x : Float). Ok x) ev)

  pub over_is : m ≤ 16777216 → length a ≡ length b → ltb 8388608 (magnitude_sum a) ≡ true → Err BadRow ≡ seqsim_of a b m
  unfolding seqsim_of
  over_is h e t = rw (le-ltb 16777216 m h, eq-eqb (length a) (length b) e, t)

  pub over_is_2 : m ≤ 16777216 → length a ≡ length b → ltb 8388608 (magnitude_sum a) ≡ false → ltb 8388608 (magnitude_sum b) ≡ true → Err BadRow ≡ seqsim_of a b m
  unfolding seqsim_of
  over_is_2 h e t u = rw (le-ltb 16777216 m h, eq-eqb (length a) (length b) e, t, u)

-- ---- one row, summed: i entries are passed
pub record RowPassed (a : List ℤ) (i sum most : ℕ) : Type 0 where
  pub inside : i ≤ length a
  pub room : magnitude_sum a ≤ i * most + magnitude_sum (drop i a)
  pub exact : magnitude_sum a < 4294967296 → sum + magnitude_sum (drop i a) ≡ magnitude_sum a

module _ (a : List ℤ) where
  pub row_begin : RowPassed a 0 0 0
  row_begin = record { inside = zero-le; room = omega arith; exact = λ h. omega arith }

  pub row_next : (i p s r most : ℕ) → RowPassed a i s most → i < length a → p ≡ nat_abs (get_or a i (pos 0)) → r ≡ (s + p) % 4294967296
      → RowPassed a (i + 1) r (bit_or most p)
  row_next i p s r most v ia e er = record {
    inside = omega arith;
    room = room_step i most (bit_or most p) (nat_abs (get_or a i (pos 0))) _ _ (or_l most p) (omega (arith, or_r most p)) (rw (← row_step a i ia) v.room);
    exact = λ h. let w = v.exact h in omega (arith, row_step a i ia);
  }

  pub row_ended : (i s most : ℕ) → RowPassed a i s most → length a ≤ i → RowSummed a (record { sum = s; most = most })
  row_ended i s most v h =
      let e : i ≡ length a = omega (arith, v.inside) in
      let z = row_none a i h in
      let m = v.room in
      record { room = rw (← e) (omega arith); exact = λ k. let w = v.exact k in omega arith }

pub sum_exact : (a : List ℤ) (r : RowSum) → RowSummed a r → length a * r.most < 4294967296 → r.sum ≡ magnitude_sum a
sum_exact a r v h = v.exact (omega (arith, v.room))
