-- The entries of a counted row sum to plus or minus the number of windows kept, and their magnitudes to that number. Each window adds one to one
-- entry of the row, so the sum over the entries is the length of the list of windows; document 01 keeps all length - k + 1. Assumes nothing.
use Rattle.std.proofs.Common.{◌≡◌, ℕ, zero, suc, ◌+◌, ◌-◌, ◌^◌, ◌<◌, ◌≤◌, Bool, true, false, cond, ◌&&◌, eqb, ltb, leb, List, [], ◌∷◌, ◌++◌, length, take, ℤ, pos, ◌+ℤ◌, refl, ap}
use Rattle.std.proofs.Common.{◌∙◌, ⊎_elim, zero-le, eq-or-lt_of_le, arith, length-take-le, ltb-false, le-ltb, eq-eqb, ne_eqb, le-leb, leb-false, leb-true}
use lib.IntN.{+ℤ_idl, +ℤ_idr}
use Rattle.std.specs.Prelude.{Ok}
use Rattle.metrics.specs.Refusals.{told}
use Rattle.metrics.specs.Similarity.{magnitude_sum}
use Rattle.metrics.specs.Letters.{number_of, every_byte, all_read, first_window, windows_reading, times_in, signed, table_from}
use Rattle.metrics.specs.Letters.{read_by, counts_reading, counts_of, counts_by, counter_answer, entries_of, EntriesSum, EntriesSumBy, ReadingZero, EntriesSumToLength, RowWithinLimit}
use Rattle.metrics.proofs.Windows.{signed_size, number_lt, all_every, windows_fewer}

-- g i + g (i + 1) + .., n terms
tally : (ℕ → ℕ) → ℕ → ℕ → ℕ
tally g i zero = 0
tally g i (suc n) = g i + tally g (suc i) n

magnitudes_tally : (negative : Bool) (g : ℕ → ℕ) (i n : ℕ) → magnitude_sum (table_from (λ j. signed negative (g j)) i n) ≡ tally g i n
unfolding magnitude_sum table_from tally
magnitudes_tally negative g i zero = refl
magnitudes_tally negative g i (suc n) = rw (signed_size negative (g i), magnitudes_tally negative g (suc i) n)

signed_add : (negative : Bool) (a b : ℕ) → signed negative a +ℤ signed negative b ≡ signed negative (a + b)
signed_add false a b = refl
signed_add true zero b =
    let e : 0 + b ≡ b = omega arith in
    rw e (+ℤ_idl (signed true b))
signed_add true (suc a) zero =
    let e : suc a + 0 ≡ suc a = omega arith in
    rw e (+ℤ_idr (signed true (suc a)))
signed_add true (suc a) (suc b) =
    let e : suc a + suc b ≡ suc (suc (a + b)) = omega arith in
    rw e

signed_none : (negative : Bool) → pos 0 ≡ signed negative 0
signed_none true = refl
signed_none false = refl

entries_tally : (negative : Bool) (g : ℕ → ℕ) (i n : ℕ) → entries_of (table_from (λ j. signed negative (g j)) i n) ≡ signed negative (tally g i n)
unfolding entries_of table_from tally
entries_tally negative g i zero = signed_none negative
entries_tally negative g i (suc n) = rw (entries_tally negative g (suc i) n) (signed_add negative (g i) (tally g (suc i) n))

tally_zero : (g : ℕ → ℕ) → ((j : ℕ) → g j ≡ 0) → (i n : ℕ) → tally g i n ≡ 0
unfolding tally
tally_zero g h i zero = refl
tally_zero g h i (suc n) = omega (arith, h i, tally_zero g h (suc i) n)

-- one more at w, and nowhere else
module _ (f g : ℕ → ℕ) (w : ℕ) (here : f w ≡ suc (g w)) (other : (j : ℕ) → (j ≡ w → ⊥) → f j ≡ g j) where
  past : (i n : ℕ) → w < i → tally f i n ≡ tally g i n
  unfolding tally
  past i zero h = refl
  past i (suc n) h = omega (arith, other i (λ e. clash i w h e), past (suc i) n (omega arith))
    where
      clash : (i w : ℕ) → w < i → i ≡ w → ⊥
      clash i w h e = omega arith

  one_more : (i n : ℕ) → i ≤ w → w < i + n → tally f i n ≡ suc (tally g i n)
  unfolding tally
  one_more i zero h k = absurd (none i w h k)
    where
      none : (i w : ℕ) → i ≤ w → w < i + 0 → ⊥
      none i w h k = omega arith
  one_more i (suc n) h k =
      ⊎_elim
      (λ e. omega (arith, ap f e, ap g e, past (suc i) n (omega arith)))
      (λ l. omega (arith, other i (λ e. clash i w l e), one_more (suc i) n (omega arith) (omega arith)))
      (eq-or-lt_of_le h)
    where
      clash : (i w : ℕ) → i < w → i ≡ w → ⊥
      clash i w h e = omega arith

-- every number of the list has an entry among the first n
Below : ℕ → List ℕ → Type 0
Below n [] = Unit {0}
Below n (w ∷ ws) = (w < n) × Below n ws

times_here : (w : ℕ) (ws : List ℕ) → times_in w (w ∷ ws) ≡ suc (times_in w ws)
unfolding times_in
times_here w ws = rw (eq-eqb w w refl) (omega arith)

times_other : (w : ℕ) (ws : List ℕ) (j : ℕ) → (j ≡ w → ⊥) → times_in j (w ∷ ws) ≡ times_in j ws
unfolding times_in
times_other w ws j e = rw (ne_eqb j w e) (omega arith)

times_total : (n : ℕ) (ws : List ℕ) → Below n ws → tally (λ i. times_in i ws) 0 n ≡ length ws
unfolding times_in Below
times_total n [] b = tally_zero (λ i. times_in i []) (λ j. refl) 0 n
times_total n (w ∷ ws) b =
    one_more (λ i. times_in i (w ∷ ws)) (λ i. times_in i ws) w (times_here w ws) (times_other w ws) 0 n zero-le (omega (arith, b.0))
    ∙ ap suc (times_total n ws b.1)

below_append : (n : ℕ) (us ws : List ℕ) → Below n us → Below n ws → Below n (us ++ ws)
unfolding Below
below_append n [] ws h k = k
below_append n (u ∷ us) ws h k = (h.0, below_append n us ws h.1 k)

module _ (reads : ℕ → Bool) (k : ℕ) where
  first_below : (s : List ℕ) → Below (4 ^ k) (first_window reads k s)
  unfolding first_window Below
  first_below s = go (leb k (length s)) refl (all_read reads (take k s))
    where
      go : (t : Bool) → leb k (length s) ≡ t → (r : Bool) → Below (4 ^ k) (cond (t && r) (number_of (take k s) ∷ []) [])
      go true e true = (rw (length-take-le k s (leb-true k (length s) e)) at (number_lt (take k s)), tt)
      go true e false = tt
      go false e r = tt

  windows_below : (s : List ℕ) → Below (4 ^ k) (windows_reading reads k s)
  unfolding windows_reading Below
  windows_below [] = tt
  windows_below (x ∷ s) = below_append (4 ^ k) (first_window reads k (x ∷ s)) (windows_reading reads k s) (first_below (x ∷ s)) (windows_below s)

  times_windows : (s : List ℕ) → tally (λ i. times_in i (windows_reading reads k s)) 0 (4 ^ k) ≡ length (windows_reading reads k s)
  times_windows s = times_total (4 ^ k) (windows_reading reads k s) (windows_below s)

pub entries_sum : EntriesSum
unfolding EntriesSum counts_reading
entries_sum reads k negative s =
    entries_tally negative (λ i. times_in i (windows_reading reads k s)) 0 (4 ^ k) ∙ ap (signed negative) (times_windows reads k s)

magnitudes_sum : (reads : ℕ → Bool) (k : ℕ) (negative : Bool) (s : List ℕ) → magnitude_sum (counts_reading reads k negative s) ≡ length (windows_reading reads k s)
unfolding counts_reading
magnitudes_sum reads k negative s = magnitudes_tally negative (λ i. times_in i (windows_reading reads k s)) 0 (4 ^ k) ∙ times_windows reads k s

-- where every byte reads, each place that k letters begin at has its window
every_length : (k : ℕ) → 1 ≤ k → (s : List ℕ) → length (windows_reading every_byte k s) ≡ length s + 1 - k
unfolding windows_reading first_window
every_length k h [] = omega arith
every_length k h (x ∷ s) = rw (all_every (take k (x ∷ s))) (go (every_length k h s) (leb k (suc (length s))) refl)
  where
    go : length (windows_reading every_byte k s) ≡ length s + 1 - k → (t : Bool) → leb k (suc (length s)) ≡ t
        → length (cond (t && true) (number_of (take k (x ∷ s)) ∷ []) [] ++ windows_reading every_byte k s) ≡ suc (length s) + 1 - k
    go rest true e = omega (arith, leb-true k (suc (length s)) e)
    go rest false e = omega (arith, leb-false k (suc (length s)) e)

pub entries_sum_to_length : EntriesSumToLength
unfolding EntriesSumToLength EntriesSum counts_of
entries_sum_to_length k negative s h = entries_sum every_byte k negative s ∙ ap (signed negative) (every_length k h s)

pub entries_sum_by : EntriesSumBy
unfolding EntriesSumBy EntriesSum counts_by
entries_sum_by reading k negative s = entries_sum (read_by reading) k negative s

-- for the crates above: reading 0 is document 01's, since it reads every byte
pub reading_zero : ReadingZero
unfolding ReadingZero counts_by counts_of read_by
reading_zero k negative s = refl

-- which calls are accepted, and what is known of one that is
pub counter_done : (k reading : ℕ) (s : List ℕ) (row : List ℤ) → 1 ≤ k → k ≤ 6 → reading ≤ 1 → length row ≡ 4 ^ k → length s ≤ 131072
    → counter_answer k reading s row ≡ Ok tt
unfolding counter_answer
counter_done k reading s row h h' r e l =
    rw (le-leb 1 k h, le-leb k 6 h', le-ltb 1 reading r, eq-eqb (length row) (4 ^ k) e, le-ltb 131072 (length s) l)

-- a test that fails gives a number other than 0, in whichever order the tests are tried
passed_tests : (k reading : ℕ) (s : List ℕ) (row : List ℤ) (low high other room long : Bool)
    → leb 1 k ≡ low → leb k 6 ≡ high → ltb 1 reading ≡ other → eqb (length row) (4 ^ k) ≡ room → ltb 131072 (length s) ≡ long
    → counter_answer k reading s row ≡ Ok tt → long ≡ false
unfolding counter_answer
passed_tests k reading s row low high other room false a b o c d e = refl
passed_tests k reading s row false high other room true a b o c d e =
    let z = ap told (simp (a, d) at e) in
    absurd (omega arith)
passed_tests k reading s row true false other room true a b o c d e =
    let z = ap told (simp (a, b, d) at e) in
    absurd (omega arith)
passed_tests k reading s row true true true false true a b o c d e =
    let z = ap told (simp (a, b, o, c, d) at e) in
    absurd (omega arith)
passed_tests k reading s row true true true true true a b o c d e =
    let z = ap told (simp (a, b, o, c, d) at e) in
    absurd (omega arith)
passed_tests k reading s row true true false false true a b o c d e =
    let z = ap told (simp (a, b, o, c, d) at e) in
    absurd (omega arith)
passed_tests k reading s row true true false true true a b o c d e =
    let z = ap told (simp (a, b, o, c, d) at e) in
    absurd (omega arith)

accepted_letters : (k reading : ℕ) (s : List ℕ) (row : List ℤ) → counter_answer k reading s row ≡ Ok tt → length s ≤ 131072
accepted_letters k reading s row e =
    ltb-false 131072 (length s)
    (passed_tests k reading s row (leb 1 k) (leb k 6) (ltb 1 reading) (eqb (length row) (4 ^ k)) (ltb 131072 (length s)) refl refl refl refl refl e)

pub row_within_limit : RowWithinLimit
unfolding RowWithinLimit
row_within_limit reads k reading negative s row e =
    omega (arith, accepted_letters k reading s row e, magnitudes_sum reads k negative s, windows_fewer reads k s)
