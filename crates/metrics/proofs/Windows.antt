-- The windows of k letters that are kept, once over k and over the test that keeps them, letter by letter: the windows of one letter more are those
-- so far and the one that ends with it, if it is kept; its number is that of all letters modulo 4 ^ k, and it counts once more in its own entry.
-- Assumes nothing.
use Rattle.std.proofs.Common.{◌≡◌, ℕ, zero, suc, ◌+◌, ◌-◌, ◌*◌, ◌/◌, ◌%◌, ◌^◌, ◌<◌, ◌≤◌, Bool, true, false, cond, ◌&&◌, eqb, leb, List, [], ◌∷◌, ◌++◌, length, get_or, take, drop}
use Rattle.std.proofs.Common.{set, replicate, ℤ, pos, nat_abs, sym, refl, ap, ◌∙◌, subst, append_assoc, append-nil, zero-le, le_refl, add-zero, add_assoc, mul-le-mul_right}
use Rattle.std.proofs.Common.{mod-eq_of_lt, mul_assoc, add-mul, div-add-mod', mul_right_comm, add-one, arith, length-append, length-drop, length-set, take-append-drop}
use Rattle.std.proofs.Common.{length-take-le, take_all, get_or-set_other, take-suc, get_or-set_same, ext_get_or, pow-add, eq-eqb, eqb-true, le-leb, leb-false, leb-true}
use native.Mathlib.Nat.{pow-succ', mul-add-mod_self_right, pow-le-pow_right}
use borrow.Author.Tests.{eqb-false, lt-leb}
use lib.IntN.{suc_ℤ, pred_ℤ}
use lib.Seq.{take-append-le}
use Rattle.metrics.proofs.Codes.{cond_le, letter_le, entry_code}
use Rattle.metrics.specs.Letters.{code_of, encoded, read_by, number_of, every_byte, all_read, first_window, windows_reading, times_in, signed, table_from, counts_reading}
use Rattle.metrics.specs.Lanes.{entry_of}

-- ---- letters as digits
number_append : (xs ys : List ℕ) → number_of (xs ++ ys) ≡ number_of xs * 4 ^ length ys + number_of ys
unfolding number_of
number_append [] ys = omega arith
number_append (x ∷ xs) ys =
    rw (number_append xs ys, length-append xs ys, pow-add 4 (length xs) (length ys), add-mul, mul_assoc, add_assoc)

-- a number of n digits is below 4 ^ n
pub number_lt : (xs : List ℕ) → number_of xs < 4 ^ length xs
unfolding number_of
number_lt [] = omega arith
number_lt (x ∷ xs) = rw (pow-succ' 4 (length xs)) (omega (arith, number_lt xs, mul-le-mul_right (4 ^ length xs) (letter_le x)))

-- the letter after the first p
pub number_more : (s : List ℕ) (p : ℕ) → p < length s → number_of (take (p + 1) s) ≡ number_of (take p s) * 4 + code_of (get_or s p 0)
unfolding number_of
number_more s p h = rw (add-one, take-suc s p 0 h, number_append) (omega arith)

-- the last k letters, and that their number is what is left of the whole modulo 4 ^ k
abbrev pub last_letters : ℕ → List ℕ → List ℕ
last_letters k s = drop (length s - k) s

pub last_length : (k : ℕ) (s : List ℕ) → k ≤ length s → length (last_letters k s) ≡ k
last_length k s h =
    let e : length s - (length s - k) ≡ k = omega arith in
    length-drop (length s - k) s ∙ e

last_lt : (k : ℕ) (s : List ℕ) → k ≤ length s → number_of (last_letters k s) < 4 ^ k
last_lt k s h = rw (last_length k s h) at (number_lt (last_letters k s))

last_is : (k : ℕ) (s : List ℕ) → k ≤ length s → number_of s % 4 ^ k ≡ number_of (last_letters k s)
last_is k s h =
    ap (λ (t : List ℕ). number_of t % 4 ^ k) (sym (take-append-drop (length s - k) s))
    ∙ rw (number_append, last_length k s h, mul-add-mod_self_right) (mod-eq_of_lt (last_lt k s h))

last_longer : (k x : ℕ) (s : List ℕ) → k ≤ length s → last_letters k (x ∷ s) ≡ last_letters k s
last_longer k x s h =
    let e : suc (length s) - k ≡ suc (length s - k) = omega arith in
    rw e

-- one digit more, of what is left of a number modulo m
pub roll : (v d m : ℕ) → (v % m * 4 + d) % m ≡ (v * 4 + d) % m
roll v d m =
    let e : v / m * 4 * m + (v % m * 4 + d) ≡ v * 4 + d = omega (arith, div-add-mod' v m, mul_right_comm (v / m) 4 m) in
    sym (mul-add-mod_self_right (v / m * 4) m (v % m * 4 + d)) ∙ ap (λ (x : ℕ). x % m) e

-- ---- windows
pub all_every : (s : List ℕ) → all_read every_byte s ≡ true
unfolding all_read
all_every [] = refl
all_every (x ∷ s) = all_every s

pub all_by_zero : (reading : ℕ) → reading ≡ 0 → (s : List ℕ) → all_read (read_by reading) s ≡ true
unfolding read_by
all_by_zero reading e s = rw e (all_every s)

module _ (reads : ℕ → Bool) (k : ℕ) where
  first_short : (s : List ℕ) → length s < k → first_window reads k s ≡ []
  unfolding first_window
  first_short s h = rw (lt-leb k (length s) h)

  first_longer : (s t : List ℕ) → k ≤ length s → first_window reads k (s ++ t) ≡ first_window reads k s
  unfolding first_window
  first_longer s t h =
      let longer : k ≤ length (s ++ t) = omega (arith, length-append s t) in
      rw (take-append-le k s t h, le-leb k (length s) h, le-leb k (length (s ++ t)) longer)

  first_one : (s : List ℕ) → length (first_window reads k s) ≤ 1
  unfolding first_window
  first_one s = go (leb k (length s) && all_read reads (take k s))
    where
      go : (t : Bool) → length (cond t (number_of (take k s) ∷ []) []) ≤ 1
      go true = omega arith
      go false = omega arith

  -- the window of the last k letters
  last_whole : (s : List ℕ) → k ≤ length s
      → first_window reads k (last_letters k s) ≡ cond (all_read reads (last_letters k s)) (number_of (last_letters k s) ∷ []) []
  unfolding first_window
  last_whole s h =
      let e = last_length k s h in
      rw (take_all k (last_letters k s) (omega arith), le-leb k (length (last_letters k s)) (omega arith))

  last_left : (s : List ℕ) → leb k (length s) && all_read reads (last_letters k s) ≡ false → first_window reads k (last_letters k s) ≡ []
  last_left s h = go (leb k (length s)) refl h
    where
      go : (t : Bool) → leb k (length s) ≡ t → t && all_read reads (last_letters k s) ≡ false → first_window reads k (last_letters k s) ≡ []
      go true e l = rw (last_whole s (leb-true k (length s) e), l)
      go false e l = first_short (last_letters k s) (omega (arith, leb-false k (length s) e, length-drop (length s - k) s))

  pub windows_fewer : (s : List ℕ) → length (windows_reading reads k s) ≤ length s
  unfolding windows_reading
  windows_fewer [] = zero-le
  windows_fewer (x ∷ s) = omega (arith, length-append (first_window reads k (x ∷ s)) (windows_reading reads k s), first_one (x ∷ s), windows_fewer s)

  windows_short : (s : List ℕ) → length s < k → windows_reading reads k s ≡ []
  unfolding windows_reading
  windows_short [] h = refl
  windows_short (x ∷ s) h = rw (first_short (x ∷ s) h, windows_short s (omega arith))

  windows_snoc : 1 ≤ k → (s : List ℕ) (y : ℕ)
      → windows_reading reads k (s ++ (y ∷ [])) ≡ windows_reading reads k s ++ first_window reads k (last_letters k (s ++ (y ∷ [])))
  unfolding windows_reading
  windows_snoc h [] y =
      let e : 1 - k ≡ 0 = omega arith in
      rw e (append-nil (first_window reads k (y ∷ [])))
  windows_snoc h (x ∷ s) y = go (windows_snoc h s y) (leb k (suc (length s))) refl
    where
      go : windows_reading reads k (s ++ (y ∷ [])) ≡ windows_reading reads k s ++ first_window reads k (last_letters k (s ++ (y ∷ [])))
          → (t : Bool) → leb k (suc (length s)) ≡ t
          → first_window reads k (x ∷ (s ++ (y ∷ []))) ++ windows_reading reads k (s ++ (y ∷ []))
          ≡ first_window reads k (x ∷ s) ++ windows_reading reads k s ++ first_window reads k (last_letters k (x ∷ (s ++ (y ∷ []))))
      go rest true e =
          let fit = leb-true k (suc (length s)) e in
          let longer : k ≤ length (s ++ (y ∷ [])) = omega (arith, length-append s (y ∷ [])) in
          rw (first_longer (x ∷ s) (y ∷ []) fit, rest, last_longer k x (s ++ (y ∷ [])) longer)
          (sym (append_assoc (first_window reads k (x ∷ s)) (windows_reading reads k s) (first_window reads k (last_letters k (s ++ (y ∷ []))))))
      go rest false e =
          let short = leb-false k (suc (length s)) e in
          let still : length (s ++ (y ∷ [])) < k = omega (arith, length-append s (y ∷ [])) in
          let none : suc (length (s ++ (y ∷ []))) - k ≡ 0 = omega arith in
          rw (first_short (x ∷ s) short, windows_short s (omega arith), windows_short (s ++ (y ∷ [])) still, none)
          (append-nil (first_window reads k (x ∷ (s ++ (y ∷ [])))))

-- ---- counts
pub table_length : (f : ℕ → ℤ) (i n : ℕ) → length (table_from f i n) ≡ n
unfolding table_from
table_length f i zero = refl
table_length f i (suc n) = ap suc (table_length f (suc i) n)

table_at : (f : ℕ → ℤ) (i n j : ℕ) (d : ℤ) → j < n → get_or (table_from f i n) j d ≡ f (i + j)
unfolding table_from
table_at f i zero j d h = absurd (none j h)
  where
    none : (j : ℕ) → j < 0 → ⊥
    none j h = omega arith
table_at f i (suc n) zero d h = rw add-zero
table_at f i (suc n) (suc j) d h = table_at f (suc i) n j d (less j n h) ∙ ap f (moved i j)
  where
    less : (j n : ℕ) → suc j < suc n → j < n
    less j n h = omega arith

    moved : (i j : ℕ) → suc i + j ≡ i + suc j
    moved i j = omega arith

table_const : (f : ℕ → ℤ) (a : ℤ) → ((i : ℕ) → f i ≡ a) → (i n : ℕ) → table_from f i n ≡ replicate n a
unfolding table_from
table_const f a h i zero = refl
table_const f a h i (suc n) = rw (h i, table_const f a h (suc i) n)

signed_zero : (negative : Bool) → signed negative 0 ≡ pos 0
signed_zero true = refl
signed_zero false = refl

pub signed_size : (negative : Bool) (n : ℕ) → nat_abs (signed negative n) ≡ n
signed_size true zero = refl
signed_size true (suc n) = refl
signed_size false n = refl

-- one window more, in the entry of its number
abbrev pub bump : Bool → ℤ → ℤ
bump negative x = cond negative (pred_ℤ x) (suc_ℤ x)

bump_suc : (negative : Bool) (n : ℕ) → bump negative (signed negative n) ≡ signed negative (suc n)
bump_suc true zero = refl
bump_suc true (suc n) = refl
bump_suc false n = refl

-- the row of a list of windows
abbrev tallied : ℕ → Bool → List ℕ → List ℤ
tallied k negative ws = table_from (λ i. signed negative (times_in i ws)) 0 (4 ^ k)

times_le : (i : ℕ) (ws : List ℕ) → times_in i ws ≤ length ws
unfolding times_in
times_le i [] = zero-le
times_le i (w ∷ ws) = omega (arith, times_le i ws, cond_le (eqb i w) 1 0 1 (le_refl 1) zero-le)

times_snoc : (i w : ℕ) (ws : List ℕ) → times_in i (ws ++ (w ∷ [])) ≡ times_in i ws + cond (eqb i w) 1 0
unfolding times_in
times_snoc i w [] = omega arith
times_snoc i w (v ∷ ws) = omega (arith, times_snoc i w ws)

module _ (k : ℕ) (negative : Bool) (ws : List ℕ) where
  tallied_length : length (tallied k negative ws) ≡ 4 ^ k
  tallied_length = table_length (λ i. signed negative (times_in i ws)) 0 (4 ^ k)

  tallied_at : (i : ℕ) → i < 4 ^ k → get_or (tallied k negative ws) i (pos 0) ≡ signed negative (times_in i ws)
  tallied_at i h = table_at (λ i. signed negative (times_in i ws)) 0 (4 ^ k) i (pos 0) h ∙ ap (λ (j : ℕ). signed negative (times_in j ws)) (first i)
    where
      first : (i : ℕ) → 0 + i ≡ i
      first i = omega arith

-- one window more
module _ (k : ℕ) (negative : Bool) (ws : List ℕ) (w : ℕ) (h : w < 4 ^ k) where
  tallied_more : set (tallied k negative ws) w (bump negative (get_or (tallied k negative ws) w (pos 0))) ≡ tallied k negative (ws ++ (w ∷ []))
  tallied_more =
      ext_get_or (pos 0) _ _ (simp length-set (tallied_length k negative ws ∙ sym (tallied_length k negative (ws ++ (w ∷ [])))))
      (λ i l. entry i (simp (length-set, tallied_length k negative ws) at l) (eqb i w) refl)
    where
      entry : (i : ℕ) → i < 4 ^ k → (t : Bool) → eqb i w ≡ t
          → get_or (set (tallied k negative ws) w (bump negative (get_or (tallied k negative ws) w (pos 0)))) i (pos 0)
          ≡ get_or (tallied k negative (ws ++ (w ∷ []))) i (pos 0)
      entry i l true e =
          let same = eqb-true i w e in
          let room : w < length (tallied k negative ws) = subst (λ (m : ℕ). w < m) (sym (tallied_length k negative ws)) h in
          let more : times_in w (ws ++ (w ∷ [])) ≡ suc (times_in w ws) = rw (times_snoc w w ws, eq-eqb w w refl) (omega arith) in
          rw (tallied_at k negative (ws ++ (w ∷ [])) i l, same, get_or-set_same, tallied_at k negative ws w h, more) (bump_suc negative _)
      entry i l false e =
          let other = eqb-false i w e in
          let same : times_in i (ws ++ (w ∷ [])) ≡ times_in i ws = rw (times_snoc i w ws, e) (omega arith) in
          rw (get_or-set_other (tallied k negative ws) w i)
          (tallied_at k negative ws i l ∙ ap (signed negative) (sym same) ∙ sym (tallied_at k negative (ws ++ (w ∷ [])) i l))

module _ (reads : ℕ → Bool) (k : ℕ) (negative : Bool) where
  pub counts_none : counts_reading reads k negative [] ≡ replicate (4 ^ k) (pos 0)
  unfolding counts_reading windows_reading times_in
  counts_none = table_const (λ i. signed negative (times_in i [])) (pos 0) (λ i. signed_zero negative) 0 (4 ^ k)

  pub counts_size : (s : List ℕ) (i : ℕ) → i < 4 ^ k → nat_abs (get_or (counts_reading reads k negative s) i (pos 0)) ≤ length s
  unfolding counts_reading
  counts_size s i h =
      rw (tallied_at k negative (windows_reading reads k s) i h, signed_size)
      (omega (arith, times_le i (windows_reading reads k s), windows_fewer reads k s))

-- ---- a turn of the counter's loop, at letter p
pub four_pos : (k : ℕ) → 0 < 4 ^ k
four_pos k = pow-le-pow_right {n = 4} (omega arith) {i = 0} {j = k} zero-le

pub turn_number : (k : ℕ) (s : List ℕ) (p v d size : ℕ) → size ≡ 4 ^ k → k ≤ 6 → p < length s → v ≡ number_of (take p s) % 4 ^ k
    → d ≡ entry_of (encoded (get_or s p 0)) → (v * 4 + d) % size ≡ number_of (take (p + 1) s) % 4 ^ k
turn_number k s p v d size es six h ev ed =
    rw (es, ev, ed) (
    entry_code k (number_of (take p s) % 4 ^ k) (get_or s p 0) six
    ∙ roll (number_of (take p s)) (code_of (get_or s p 0)) (4 ^ k)
    ∙ ap (λ (x : ℕ). x % 4 ^ k) (sym (number_more s p h))
    )

module _ (k : ℕ) (s : List ℕ) (p : ℕ) (more : p < length s) where
  pub read_length : length (take (p + 1) s) ≡ p + 1
  read_length = length-take-le (p + 1) s (omega arith)

  pub turn_window : k ≤ p + 1 → number_of (take (p + 1) s) % 4 ^ k ≡ number_of (last_letters k (take (p + 1) s))
  turn_window whole = last_is k (take (p + 1) s) (omega (arith, read_length))

  module _ (reads : ℕ → Bool) (some : 1 ≤ k) (negative : Bool) (out : List ℤ) (eo : out ≡ counts_reading reads k negative (take p s)) where
    windows_turn : windows_reading reads k (take (p + 1) s) ≡ windows_reading reads k (take p s) ++ first_window reads k (last_letters k (take (p + 1) s))
    windows_turn = rw (add-one, take-suc s p 0 more) (windows_snoc reads k some (take p s) (get_or s p 0))

    -- the window that ends here is kept where there are k letters and each of them reads
    pub turn_kept : k ≤ p + 1 → all_read reads (last_letters k (take (p + 1) s)) ≡ true → (w : ℕ) (y : ℤ) → w ≡ number_of (last_letters k (take (p + 1) s))
        → y ≡ bump negative (get_or out w (pos 0)) → set out w y ≡ counts_reading reads k negative (take (p + 1) s)
    unfolding counts_reading
    turn_kept whole all w y ew ey =
        let long : k ≤ length (take (p + 1) s) = omega (arith, read_length) in
        rw (ey, eo, ew, windows_turn, last_whole reads k (take (p + 1) s) long, all)
        (tallied_more k negative (windows_reading reads k (take p s)) (number_of (last_letters k (take (p + 1) s))) (last_lt k (take (p + 1) s) long))

    -- and left out where there are fewer, or one of them does not
    pub turn_left : leb k (p + 1) && all_read reads (last_letters k (take (p + 1) s)) ≡ false → out ≡ counts_reading reads k negative (take (p + 1) s)
    unfolding counts_reading
    turn_left left =
        let here = ap (λ (n : ℕ). leb k n && all_read reads (last_letters k (take (p + 1) s))) read_length ∙ left in
        let none = last_left reads k (take (p + 1) s) here in
        rw (eo, windows_turn, none, append-nil (windows_reading reads k (take p s)))
