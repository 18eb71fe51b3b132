-- Sums of feature rows: a turn of each loop, and how long and how large a sum grows. Assumes nothing.
use mathlib.Core.Path.{◌≡◌, refl, sym, ap, ◌∙◌, subst}
use mathlib.Core.List.{List, [], ◌∷◌}
use Prim.Native.Nat.{ℕ, zero, suc, ◌+◌, ◌-◌, ◌*◌, ◌≤◌, ◌<◌, zero-le}
use native.Mathlib.Omega.{arith}
use native.Mathlib.Nat.{not-suc-le-zero, le_of_suc-le-suc, suc-mul, mul-le-mul_right}
use native.Mathlib.Numerals.{add-one}
use lib.IntN.{ℤ, pos, nat_abs, ◌+ℤ◌}
use lib.ListN.{length, get_or, take, drop, set, replicate, length-take, length-drop, length-replicate}
use mir.Syntax.{w32}
use mir.Val.{to_z, of_z, SFits}
use Rattle.metrics.specs.Similarity.{magnitude_sum}
use Rattle.metrics.proofs.Ints.{add_le}
use Rattle.params.specs.Checked.{Flat}
use Rattle.params.specs.Numbers.{row_at}
use Rattle.kplib.specs.Sums.{row_plus, features_from, features_of, zeros}
use Rattle.kplib.specs.Scoring.{AllBelow, Inside, Summable}
use Rattle.kplib.proofs.WordLaws.{add_fits, add_back}

-- a row with another added to its first i entries
unfoldable pub mixed : ℕ → List ℤ → List ℤ → List ℤ
mixed zero a r = a
mixed (suc i) [] r = []
mixed (suc i) (x ∷ a) [] = []
mixed (suc i) (x ∷ a) (y ∷ r) = (x +ℤ y) ∷ mixed i a r

pub mixed_at : (i : ℕ) (a r : List ℤ) → length r ≡ length a → get_or (mixed i a r) i (pos 0) ≡ get_or a i (pos 0)
unfolding mixed
mixed_at zero a r e = refl
mixed_at (suc i) [] r e = refl
mixed_at (suc i) (x ∷ a) [] e = let z : ⊥ = omega arith in absurd z
mixed_at (suc i) (x ∷ a) (y ∷ r) e = mixed_at i a r (omega arith)

mixed_suc : (i : ℕ) (a r : List ℤ) → length r ≡ length a → i < length a → set (mixed i a r) i (get_or a i (pos 0) +ℤ get_or r i (pos 0)) ≡ mixed (suc i) a r
unfolding mixed
mixed_suc i [] r e h = absurd (not-suc-le-zero h)
mixed_suc i (x ∷ a) [] e h = let z : ⊥ = omega arith in absurd z
mixed_suc zero (x ∷ a) (y ∷ r) e h = refl
mixed_suc (suc i) (x ∷ a) (y ∷ r) e h = ap (λ (l : List ℤ). (x +ℤ y) ∷ l) (mixed_suc i a r (omega arith) (le_of_suc-le-suc h))

pub mixed_more : (i : ℕ) (a r : List ℤ) → length r ≡ length a → i < length a → set (mixed i a r) i (get_or a i (pos 0) +ℤ get_or r i (pos 0)) ≡ mixed (i + 1) a r
mixed_more i a r e h = rw add-one (mixed_suc i a r e h)

pub mixed_all : (i : ℕ) (a r : List ℤ) → length r ≡ length a → length a ≤ i → mixed i a r ≡ row_plus a r
unfolding mixed row_plus
mixed_all zero [] r e h = refl
mixed_all zero (x ∷ a) r e h = let z : ⊥ = omega arith in absurd z
mixed_all (suc i) [] r e h = refl
mixed_all (suc i) (x ∷ a) [] e h = refl
mixed_all (suc i) (x ∷ a) (y ∷ r) e h = ap (λ (l : List ℤ). (x +ℤ y) ∷ l) (mixed_all i a r (omega arith) (le_of_suc-le-suc h))

pub entry_le : (a : List ℤ) (i : ℕ) → nat_abs (get_or a i (pos 0)) ≤ magnitude_sum a
unfolding magnitude_sum
entry_le [] i = zero-le
entry_le (x ∷ a) zero = omega arith
entry_le (x ∷ a) (suc i) = omega (arith, entry_le a i)

-- a turn of the loop that adds a row
pub added_fits : (acc a r : List ℤ) (i : ℕ) → acc ≡ mixed i a r → length r ≡ length a → magnitude_sum a ≤ 8388608 → magnitude_sum r ≤ 131072
    → SFits w32 (to_z w32 (of_z w32 (get_or acc i (pos 0))) +ℤ to_z w32 (of_z w32 (get_or r i (pos 0))))
added_fits acc a r i e l h k =
    let f : get_or acc i (pos 0) ≡ get_or a i (pos 0) = ap (λ (x : List ℤ). get_or x i (pos 0)) e ∙ mixed_at i a r l in
    rw f (add_fits (get_or a i (pos 0)) (get_or r i (pos 0)) (omega (arith, entry_le a i)) (omega (arith, entry_le r i)))

pub added : (acc a r : List ℤ) (i : ℕ) → acc ≡ mixed i a r → length r ≡ length a → i < length a → magnitude_sum a ≤ 8388608 → magnitude_sum r ≤ 131072
    → set acc i (to_z w32 (of_z w32 (to_z w32 (of_z w32 (get_or acc i (pos 0))) +ℤ to_z w32 (of_z w32 (get_or r i (pos 0)))))) ≡ mixed (i + 1) a r
added acc a r i e l b h k =
    let f : get_or acc i (pos 0) ≡ get_or a i (pos 0) = ap (λ (x : List ℤ). get_or x i (pos 0)) e ∙ mixed_at i a r l in
    rw (f, add_back (get_or a i (pos 0)) (get_or r i (pos 0)) (omega (arith, entry_le a i)) (omega (arith, entry_le r i)), e) (mixed_more i a r l b)

pub plus_length : (a b : List ℤ) → length b ≡ length a → length (row_plus a b) ≡ length a
unfolding row_plus
plus_length [] b e = refl
plus_length (x ∷ a) [] e = let z : ⊥ = omega arith in absurd z
plus_length (x ∷ a) (y ∷ b) e = ap suc (plus_length a b (omega arith))

pub plus_sum : (a b : List ℤ) → magnitude_sum (row_plus a b) ≤ magnitude_sum a + magnitude_sum b
unfolding row_plus magnitude_sum
plus_sum [] b = zero-le
plus_sum (x ∷ a) [] = zero-le
plus_sum (x ∷ a) (y ∷ b) = omega (arith, add_le x y, plus_sum a b)

pub zeros_length : (e : ℕ) → length (zeros e) ≡ e
unfolding zeros
zeros_length e = length-replicate e (pos 0)

nought_sum : (e : ℕ) → magnitude_sum (replicate e (pos 0)) ≡ 0
unfolding magnitude_sum
nought_sum zero = refl
nought_sum (suc e) = omega (arith, nought_sum e)

pub zeros_sum : (e : ℕ) → magnitude_sum (zeros e) ≡ 0
unfolding zeros
zeros_sum e = nought_sum e

-- a row that is named lies within the table
pub row_fits : (n e r : ℕ) → r < n → r * e + e ≤ n * e
row_fits n e r h = omega (arith, mul-le-mul_right e h, suc-mul r e)

pub row_length : (e : ℕ) (table : List ℤ) (r : ℕ) → r * e + e ≤ length table → length (row_at e table r) ≡ e
row_length e table r h = simp (length-take, length-drop) (omega arith)

inside_of : (n e : ℕ) (rows : List ℕ) → AllBelow n rows → Inside (n * e) e rows
inside_of n e [] b = tt
inside_of n e (r ∷ rows) b = (row_fits n e r b.0, inside_of n e rows b.1)

pub summable : (n e : ℕ) (table : List ℤ) (rows : List ℕ) → Flat n e table → AllBelow n rows → length rows ≤ 64 → Summable e table rows
summable n e table rows f b h = record {
  entries = omega (arith, f.flat, mul-le-mul_right e f.few, f.short);
  inside = subst (λ (x : ℕ). Inside x e rows) (sym f.flat) (inside_of n e rows b);
  rowed = f.rowed;
  most = h;
}

-- the i-th of rows that all lie within the table
inside_at : (entries e : ℕ) (rows : List ℕ) (i : ℕ) → Inside entries e rows → i < length rows → get_or rows i 0 * e + e ≤ entries
inside_at entries e [] i b h = absurd (not-suc-le-zero h)
inside_at entries e (r ∷ rows) zero b h = b.0
inside_at entries e (r ∷ rows) (suc i) b h = inside_at entries e rows i b.1 (le_of_suc-le-suc h)

-- how long and how large a sum of rows is
features_from_length : (e : ℕ) (table x : List ℤ) (rows : List ℕ) → Inside (length table) e rows → length x ≡ e → length (features_from e table x rows) ≡ e
unfolding features_from
features_from_length e table x [] b h = h
features_from_length e table x (r ∷ rows) b h =
    let k = row_length e table r b.0 in
    features_from_length e table (row_plus x (row_at e table r)) rows b.1 (plus_length x (row_at e table r) (k ∙ sym h) ∙ h)

features_from_sum : (e : ℕ) (table x : List ℤ) (rows : List ℕ) → ((r : ℕ) → magnitude_sum (row_at e table r) ≤ 131072)
    → magnitude_sum (features_from e table x rows) ≤ magnitude_sum x + length rows * 131072
unfolding features_from
features_from_sum e table x [] b = omega arith
features_from_sum e table x (r ∷ rows) b = omega (arith, features_from_sum e table (row_plus x (row_at e table r)) rows b, plus_sum x (row_at e table r), b r)

pub features_length : (e : ℕ) (table : List ℤ) (rows : List ℕ) → Summable e table rows → length (features_of e table rows) ≡ e
unfolding features_of
features_length e table rows s = features_from_length e table (zeros e) rows s.inside (zeros_length e)

pub features_sum : (e : ℕ) (table : List ℤ) (rows : List ℕ) → Summable e table rows → magnitude_sum (features_of e table rows) ≤ 8388608
unfolding features_of
features_sum e table rows s = omega (arith, features_from_sum e table (zeros e) rows s.rowed, zeros_sum e, s.most)

-- a slice that ends where it should
pub slice_is : (a e : ℕ) (t : List ℤ) → take (a + e - a) (drop a t) ≡ take e (drop a t)
slice_is a e t = let h : a + e - a ≡ e = omega arith in rw h

pub row_place : {e : ℕ} {table : List ℤ} {rows : List ℕ} → Summable e table rows → {i : ℕ} → i < length rows
    → (get_or rows i 0 * e + e ≤ length table) × (length table ≤ 262144)
row_place {e} {table} {rows} s {i} h = (inside_at (length table) e rows i s.inside h, s.entries)

pub cleared_sum : (e : ℕ) (x : List ℤ) → x ≡ zeros e → magnitude_sum x ≡ 0
cleared_sum e x g = ap magnitude_sum g ∙ zeros_sum e
