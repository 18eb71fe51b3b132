-- Stretches of a text by the places of a loop, the first line of the lines, and the value of digits. Assumes nothing.
use Prim.Native.Nat.{ℕ, zero, suc, ◌+◌, ◌-◌, ◌*◌, ◌≤◌, ◌<◌}
use native.Mathlib.Omega.{arith}
use native.Mathlib.Numerals.{add-one}
use mathlib.Core.Path.{◌≡◌, refl, sym, ap, ◌∙◌}
use mathlib.Core.Bool.{Bool, true, false, cond}
use mathlib.Core.List.{List, [], ◌∷◌}
use lib.Dec.{eqb}
use lib.ListN.{length, get_or, take, drop, length-take, length-drop}
use lib.Seq.{drop-cons, take_all}
use Rattle.std.specs.List.{position_or_len}
use Rattle.std.proofs.lemmas.List.Recursion.{is_position_or_len}
use Rattle.std.proofs.lemmas.List.Sums.{position_or_len_is}
use lib.ListN.{drop_of_length-le}
use borrow.Author.Tests.{eq-eqb, ne_eqb}
use Rattle.bed.specs.Bed.{newline}
use Rattle.bed.specs.Reading.{up_to, behind_first, value_from, value_of, onto, lines_of}
use Rattle.bed.specs.Steps.{first_line, Reads64}

-- ---- up to the first byte b

pub up_within : (b : ℕ) (s : List ℕ) → length (up_to b s) ≤ length s
unfolding up_to
up_within b [] = omega arith
up_within b (x ∷ s) = go (eqb x b) (up_within b s)
  where
    go : (t : Bool) → length (up_to b s) ≤ length s → length (cond t [] (x ∷ up_to b s)) ≤ suc (length s)
    go true h = omega arith
    go false h = omega arith

pub up_take : (b : ℕ) (s : List ℕ) → take (length (up_to b s)) s ≡ up_to b s
unfolding up_to
up_take b [] = refl
up_take b (x ∷ s) = go (eqb x b) (up_take b s)
  where
    go : (t : Bool) → take (length (up_to b s)) s ≡ up_to b s → take (length (cond t [] (x ∷ up_to b s))) (x ∷ s) ≡ cond t [] (x ∷ up_to b s)
    go true h = refl
    go false h = ap (λ (l : List ℕ). x ∷ l) h

-- they are as many as the place of the first b, or all
up_place : (b : ℕ) (s : List ℕ) → length (up_to b s) ≡ position_or_len (λ x. eqb x b) s
unfolding up_to
up_place b s = is_position_or_len (λ l. length (up_to b l)) (λ x. eqb x b) refl (λ x l. go (eqb x b) x (up_to b l)) s
  where
    go : (t : Bool) (x : ℕ) (l : List ℕ) → length (cond t [] (x ∷ l)) ≡ cond t 0 (1 + length l)
    go true x l = refl
    go false x l = omega arith

pub up_is : (b : ℕ) (s : List ℕ) (i : ℕ) → i ≤ length s → ((k : ℕ) → k < i → get_or s k 0 ≡ b → ⊥) → (i < length s → get_or s i 0 ≡ b)
    → i ≡ length (up_to b s)
up_is b s i l before here =
    sym (up_place b s ∙ position_or_len_is (λ x. eqb x b) s i 0 l (λ k m. ne_eqb (get_or s k 0) b (before k m)) (λ m. eq-eqb (get_or s i 0) b (here m)))

-- what stands behind: past the end nothing
pub behind_part : (b : ℕ) (s : List ℕ) (n : ℕ) → n ≡ length (up_to b s) → n < length s → take (length s - (n + 1)) (drop (n + 1) s) ≡ behind_first b s
unfolding behind_first
behind_part b s n e h =
    let m : length (drop (n + 1) s) ≤ length s - (n + 1) = simp length-drop (omega arith) in
    take_all (length s - (n + 1)) (drop (n + 1) s) m ∙ rw (add-one n, e)

pub behind_none : (b : ℕ) (s : List ℕ) (n : ℕ) → n ≡ length (up_to b s) → length s ≤ n → [] ≡ behind_first b s
unfolding behind_first
behind_none b s n e h = let past : length s ≤ suc (length (up_to b s)) = omega arith in sym (drop_of_length-le s past)

-- ---- the first line

-- the line is as long as it is
pub first_taken : (s : List ℕ) → take (length (first_line s)) s ≡ first_line s
unfolding first_line
first_taken s = go (suc (length (up_to newline s))) s
  where
    go : (n : ℕ) (s : List ℕ) → take (length (take n s)) s ≡ take n s
    go zero s = refl
    go (suc n) [] = refl
    go (suc n) (x ∷ s) = ap (λ (l : List ℕ). x ∷ l) (go n s)

pub first_dropped : (s : List ℕ) → drop (length (first_line s)) s ≡ behind_first newline s
unfolding first_line behind_first
first_dropped s = go (suc (length (up_to newline s))) s
  where
    go : (n : ℕ) (s : List ℕ) → drop (length (take n s)) s ≡ drop n s
    go zero s = refl
    go (suc n) [] = refl
    go (suc n) (x ∷ s) = go n s

pub first_within : (s : List ℕ) → length (first_line s) ≤ length s
unfolding first_line
first_within s = simp length-take (omega arith)

pub first_some : (s : List ℕ) → 0 < length s → 0 < length (first_line s)
unfolding first_line
first_some [] h = h
first_some (x ∷ s) h = omega arith

-- the lines of a text are its first line and the lines behind it
pub lines_step : (s : List ℕ) → 0 < length s → lines_of s ≡ first_line s ∷ lines_of (behind_first newline s)
unfolding lines_of first_line behind_first up_to
lines_step [] h = absurd (omega arith)
lines_step (x ∷ s) h = go (eqb x newline) s (lines_step s)
  where
    go : (t : Bool) (s : List ℕ) → (0 < length s → lines_of s ≡ take (suc (length (up_to newline s))) s ∷ lines_of (drop (suc (length (up_to newline s))) s))
        → cond t ((x ∷ []) ∷ lines_of s) (onto x (lines_of s))
        ≡ take (suc (length (cond t [] (x ∷ up_to newline s)))) (x ∷ s) ∷ lines_of (drop (suc (length (cond t [] (x ∷ up_to newline s)))) (x ∷ s))
    go true s k = refl
    go false [] k = refl
    go false (y ∷ s) k = ap (onto x) (k (omega arith))

pub lines_none : lines_of [] ≡ []
unfolding lines_of
lines_none = refl

-- ---- the value of digits

pub value_grows : (v : ℕ) (s : List ℕ) → v ≤ value_from v s
unfolding value_from
value_grows v [] = omega arith
value_grows v (x ∷ s) = let h = value_grows (v * 10 + (x - 48)) s in omega arith

pub value_start : (s : List ℕ) → Reads64 (value_of s) (value_from 0 (drop 0 s))
value_start s h = refl

-- a turn of the loop: a number that fits has fitted all along
pub value_on : (s : List ℕ) (i v v' : ℕ) → i < length s → Reads64 (value_of s) (value_from v (drop i s))
    → Reads64 (v * 10 + (get_or s i 0 - 48)) v' → Reads64 (value_of s) (value_from v' (drop (i + 1) s))
unfolding value_from
value_on s i v v' l inv more h =
    let whole = inv h in
    let w = v * 10 + (get_or s i 0 - 48) in
    let step : value_from v (drop i s) ≡ value_from w (drop (suc i) s) = ap (value_from v) (drop-cons s i 0 l) in
    let up = value_grows w (drop (suc i) s) in
    let same : v' ≡ w = more (omega arith) in
    rw (add-one i, same) (sym step ∙ whole)

pub value_end : (s : List ℕ) (i v : ℕ) → length s ≤ i → Reads64 (value_of s) (value_from v (drop i s)) → Reads64 (value_of s) v
unfolding value_from
value_end s i v l inv h = sym (ap (value_from v) (drop_of_length-le s l)) ∙ inv h
