-- A part of a sum of feature rows is the sum of the rows' parts, so a list's row can be summed a block at a time. Assumes nothing.
use mathlib.Core.Path.{◌≡◌, refl, sym, ap, ◌∙◌}
use mathlib.Core.List.{List, [], ◌∷◌}
use Prim.Native.Nat.{ℕ, zero, suc, ◌+◌, ◌-◌, ◌*◌, ◌≤◌, ◌<◌, zero-le}
use native.Mathlib.Omega.{arith}
use native.Mathlib.Numerals.{add-one}
use lib.IntN.{ℤ, pos, ◌+ℤ◌}
use lib.ListN.{length, get_or, take, drop, drop_of_length-le, length-take, length-drop}
use lib.Seq.{drop-cons, drop-drop, take-take, take-nil, take_all}
use Rattle.metrics.specs.Similarity.{magnitude_sum}
use Rattle.metrics.proofs.LaneLaws.{row_drop}
use Rattle.params.specs.Numbers.{row_at}
use Rattle.kplib.specs.Sums.{row_plus, features_from, features_of, zeros}
use Rattle.kplib.specs.Scoring.{Summable}
use Rattle.kplib.specs.Blocks.{parts_from}
use Rattle.kplib.proofs.RowSumLaws.{slice_is, row_place, plus_length, plus_sum, features_length}

-- ---- a part of a row
drop_plus : (i : ℕ) (x y : List ℤ) → drop i (row_plus x y) ≡ row_plus (drop i x) (drop i y)
unfolding row_plus
drop_plus zero x y = refl
drop_plus (suc i) [] y = refl
drop_plus (suc i) (a ∷ x) [] = sym (none (drop i x))
  where
    none : (z : List ℤ) → row_plus z [] ≡ []
    none [] = unfold row_plus in refl
    none (a ∷ z) = unfold row_plus in refl
drop_plus (suc i) (a ∷ x) (b ∷ y) = drop_plus i x y

take_plus : (l : ℕ) (x y : List ℤ) → take l (row_plus x y) ≡ row_plus (take l x) (take l y)
unfolding row_plus
take_plus zero x y = refl
take_plus (suc l) [] y = refl
take_plus (suc l) (a ∷ x) [] = refl
take_plus (suc l) (a ∷ x) (b ∷ y) = ap (λ (z : List ℤ). (a +ℤ b) ∷ z) (take_plus l x y)

drop_take : (i e : ℕ) (t : List ℤ) → drop i (take e t) ≡ take (e - i) (drop i t)
drop_take zero e t = let z : e - 0 ≡ e = omega arith in rw z
drop_take (suc i) zero t = let z : 0 - suc i ≡ 0 = omega arith in rw z
drop_take (suc i) (suc e) [] = sym (take-nil (suc e - suc i))
drop_take (suc i) (suc e) (x ∷ t) = let z : suc e - suc i ≡ e - i = omega arith in rw z (drop_take i e t)

cut_row : (e i l : ℕ) (table : List ℤ) (r : ℕ) → i + l ≤ e → take l (drop i (row_at e table r)) ≡ take l (drop (r * e + i) table)
cut_row e i l table r h =
    ap (λ (z : List ℤ). take l z) (drop_take i e (drop (r * e) table)) ∙ take-take l (e - i) (drop i (drop (r * e) table)) (omega arith)
    ∙ ap (λ (z : List ℤ). take l z) (drop-drop i (r * e) table)

pub take_zeros : (l e : ℕ) → l ≤ e → take l (zeros e) ≡ zeros l
unfolding zeros
take_zeros zero e h = refl
take_zeros (suc l) zero h = let z : ⊥ = omega arith in absurd z
take_zeros (suc l) (suc e) h = ap (λ (z : List ℤ). pos 0 ∷ z) (take_zeros l e (omega arith))

drop_zeros : (i e : ℕ) → drop i (zeros e) ≡ zeros (e - i)
unfolding zeros
drop_zeros zero e = let z : e - 0 ≡ e = omega arith in rw z
drop_zeros (suc i) zero = let z : 0 - suc i ≡ 0 = omega arith in rw z
drop_zeros (suc i) (suc e) = let z : suc e - suc i ≡ e - i = omega arith in rw z (drop_zeros i e)

cut_zeros : (e i l : ℕ) → i + l ≤ e → take l (drop i (zeros e)) ≡ zeros l
cut_zeros e i l h = ap (λ (z : List ℤ). take l z) (drop_zeros i e) ∙ take_zeros l (e - i) (omega arith)

cut_features : (e i l : ℕ) (table x : List ℤ) (rows : List ℕ) → i + l ≤ e
    → take l (drop i (features_from e table x rows)) ≡ parts_from e i l table (take l (drop i x)) rows
unfolding features_from parts_from
cut_features e i l table x [] h = refl
cut_features e i l table x (r ∷ rows) h =
    cut_features e i l table (row_plus x (row_at e table r)) rows h
    ∙ ap (λ (z : List ℤ). parts_from e i l table z rows)
    (ap (λ (z : List ℤ). take l z) (drop_plus i x (row_at e table r)) ∙ take_plus l (drop i x) (drop i (row_at e table r))
    ∙ ap (λ (z : List ℤ). row_plus (take l (drop i x)) z) (cut_row e i l table r h))

-- zeros with the rows' parts added are a part of the whole sum
pub parts_are : (e i : ℕ) {l l' : ℕ} (table : List ℤ) {x y : List ℤ} (rows : List ℕ) → i + l ≤ e → l' ≡ l → x ≡ zeros l → y ≡ parts_from e i l' table x rows
    → y ≡ take l (drop i (features_of e table rows))
unfolding features_of
parts_are e i {l} table rows h k f g =
    g ∙ rw (k, f) (ap (λ (z : List ℤ). parts_from e i l table z rows) (sym (cut_zeros e i l h)) ∙ sym (cut_features e i l table (zeros e) rows h))

-- and of all entries, the whole
pub parts_all : {e l' : ℕ} {table : List ℤ} {x y : List ℤ} {rows : List ℕ} → Summable e table rows → l' ≡ e → x ≡ zeros e → y ≡ parts_from e 0 l' table x rows
    → y ≡ features_of e table rows
parts_all {e} {l'} {table} {x} {y} {rows} s k f g =
    parts_are e 0 table rows (omega arith) k f g ∙ take_all e (features_of e table rows) (omega (arith, features_length e table rows s))

-- ---- a turn of the loop that adds parts
parts_step : (e i l : ℕ) (table x : List ℤ) (rows : List ℕ) (j : ℕ) → j < length rows
    → parts_from e i l table x (drop j rows) ≡ parts_from e i l table (row_plus x (take l (drop (get_or rows j 0 * e + i) table))) (drop (j + 1) rows)
unfolding parts_from
parts_step e i l table x rows j h = rw (add-one, drop-cons rows j 0 h)

parts_done : (e i l : ℕ) (table x : List ℤ) (rows : List ℕ) (j : ℕ) → length rows ≤ j → parts_from e i l table x (drop j rows) ≡ x
unfolding parts_from
parts_done e i l table x rows j h = rw (drop_of_length-le rows h)

pub part_end : (a i l : ℕ) {e n : ℕ} → i + l ≤ e → a + e ≤ n → a + i + l ≤ n
part_end a i l h k = omega arith

-- x with the parts of the first j rows added is `out`: the rest added to it gives the whole sum
abbrev pub Adding : ℕ → ℕ → ℕ → List ℤ → List ℕ → List ℤ → List ℤ → ℕ → Type 0
Adding e i l table rows x out j =
    (j ≤ length rows) × (length out ≡ l) × (magnitude_sum out ≤ j * 131072) × (parts_from e i l table out (drop j rows) ≡ parts_from e i l table x rows)

take_le : (k : ℕ) (a : List ℤ) → magnitude_sum (take k a) ≤ magnitude_sum a
unfolding magnitude_sum
take_le zero a = zero-le
take_le (suc k) [] = zero-le
take_le (suc k) (x ∷ a) = omega (arith, take_le k a)

-- a part of a row is no larger than the row
pub part_le : (k i : ℕ) (a : List ℤ) → magnitude_sum (take k (drop i a)) ≤ magnitude_sum a
part_le k i a = omega (arith, take_le k (drop i a), row_drop i a)

module _ {e : ℕ} (i l : ℕ) {table : List ℤ} {rows : List ℕ} (s : Summable e table rows) (room : i + l ≤ e) (x out : List ℤ) {j : ℕ} (h : j < length rows)
    (v : Adding e i l table rows x out j) where
  abbrev at : ℕ
  at = get_or rows j 0 * e + i

  slice : take (at + l - at) (drop at table) ≡ take l (drop at table)
  slice = slice_is at l table

  part_length : length (take l (drop at table)) ≡ l
  part_length =
      let k = row_place s h in
      simp (length-take, length-drop) (omega arith)

  part_sum : magnitude_sum (take l (drop at table)) ≤ 131072
  part_sum =
      let r = get_or rows j 0 in
      omega (arith, ap magnitude_sum (cut_row e i l table r room), part_le l i (row_at e table r), s.rowed r)

  pub adding_ok : (length (take (get_or rows j 0 * e + i + l - (get_or rows j 0 * e + i)) (drop (get_or rows j 0 * e + i) table)) ≡ length out)
      × (magnitude_sum out ≤ 8388608) × (magnitude_sum (take (get_or rows j 0 * e + i + l - (get_or rows j 0 * e + i)) (drop (get_or rows j 0 * e + i) table)) ≤ 131072)
  adding_ok = rw slice (part_length ∙ sym v.1, omega (arith, s.most), part_sum)

  pub adding_turn : {out' : List ℤ} → out' ≡ row_plus out (take (get_or rows j 0 * e + i + l - (get_or rows j 0 * e + i)) (drop (get_or rows j 0 * e + i) table))
      → Adding e i l table rows x out' (j + 1)
  adding_turn {out'} g =
      let p = take l (drop at table) in
      let f : out' ≡ row_plus out p = g ∙ ap (λ (y : List ℤ). row_plus out y) slice in
      let k : length out' ≡ l = ap length f ∙ plus_length out p (part_length ∙ sym v.1) ∙ v.1 in
      let b : magnitude_sum out' ≤ (j + 1) * 131072 = omega (arith, ap magnitude_sum f, plus_sum out p, part_sum) in
      (omega arith, k, b, ap (λ (y : List ℤ). parts_from e i l table y (drop (j + 1) rows)) f ∙ sym (parts_step e i l table out rows j h) ∙ v.3)

pub adding_done : (e i l : ℕ) (table : List ℤ) (rows : List ℕ) (x out : List ℤ) {j : ℕ} → length rows ≤ j → Adding e i l table rows x out j → out ≡ parts_from e i l table x rows
adding_done e i l table rows x out {j} h v = sym (parts_done e i l table out rows j h) ∙ v.3
