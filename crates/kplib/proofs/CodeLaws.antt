-- Codes of part lists: the positions of one bit more, the loops that write positions out, and that they stay below m. Assumes nothing.
use mathlib.Core.Path.{◌≡◌, refl, sym, ap, ◌∙◌}
use mathlib.Core.Bool.{Bool, true, false}
use mathlib.Core.List.{List, [], ◌∷◌, ◌++◌, append_assoc, append-nil}
use Prim.Native.Nat.{ℕ, zero, suc, ◌+◌, ◌-◌, ◌*◌, ◌/◌, ◌%◌, ◌^◌, ◌≤◌, ◌<◌, zero-le}
use native.Mathlib.Nat.{not-suc-le-zero, le_of_suc-le-suc, pow-suc}
use native.Mathlib.Numerals.{add-one}
use native.Mathlib.Omega.{arith}
use borrow.Author.Tests.{eq-eqb, ne_eqb, eqb-true, eqb-false}
use lib.Dec.{eqb}
use lib.ListN.{length, get_or, take, set}
use lib.Seq.{take-suc-set, take-set-le}
use Rattle.kplib.specs.Parts.{positions_from, whole_of}
use Rattle.kplib.specs.Scoring.{AllBelow, keep_if, positions_of_bits, list_of_code}

pub bits_zero : (i k : ℕ) → positions_of_bits i k 0 ≡ []
unfolding positions_of_bits
bits_zero i zero = refl
bits_zero i (suc k) = bits_zero (suc i) k

keep_append : (t : Bool) (i : ℕ) (l r : List ℕ) → keep_if t i (l ++ r) ≡ keep_if t i l ++ r
keep_append true i l r = refl
keep_append false i l r = refl

pub bits_more : (p k i v : ℕ) → v < 2 ^ p → p < k → positions_of_bits i k (v + 2 ^ p) ≡ positions_of_bits i k v ++ ((i + p) ∷ [])
unfolding positions_of_bits
bits_more p zero i v h l = absurd (not-suc-le-zero l)
bits_more zero (suc k) i v h l =
    let z : v ≡ 0 = omega arith in
    let w : i + 0 ≡ i = omega arith in
    rw (z, w, bits_zero (suc i) k)
bits_more (suc q) (suc k) i v h l =
    let x = 2 ^ q in
    let e : 2 ^ suc q ≡ 2 * x = omega (arith, pow-suc 2 q) in
    let a : (v + 2 ^ suc q) % 2 ≡ v % 2 = omega arith in
    let b : (v + 2 ^ suc q) / 2 ≡ v / 2 + x = omega arith in
    let c : v / 2 < x = omega arith in
    let s : suc i + q ≡ i + suc q = omega arith in
    rw (a, b, bits_more q k (suc i) (v / 2) c (le_of_suc-le-suc l), keep_append (eqb (v % 2) 1) i (positions_of_bits (suc i) k (v / 2)) ((suc i + q) ∷ []), s)

-- ---- positions written out at the front of a slice
keep_turn : (t : Bool) (d i v : ℕ) (chosen rest : List ℕ) → eqb (v % 2) 1 ≡ t → d < length chosen → take (d + v % 2) (set chosen d i) ++ rest ≡ take d chosen ++ keep_if t i rest
keep_turn true d i v chosen rest e h =
    let k = eqb-true (v % 2) 1 e in
    let n : d + v % 2 ≡ suc d = omega arith in
    rw (n, take-suc-set chosen d i h) (append_assoc (take d chosen) (i ∷ []) rest)
keep_turn false d i v chosen rest e h =
    let k = eqb-false (v % 2) 1 e in
    let n : d + v % 2 ≡ d = omega (arith, k) in
    rw (n, take-set-le d chosen d i (omega arith))

bits_step : (i k k' v : ℕ) → k ≡ suc k' → positions_of_bits i k v ≡ keep_if (eqb (v % 2) 1) i (positions_of_bits (i + 1) k' (v / 2))
unfolding positions_of_bits
bits_step i k k' v e = rw (add-one, e)

bits_none : (i k v : ℕ) → k ≡ 0 → positions_of_bits i k v ≡ []
unfolding positions_of_bits
bits_none i k v e = rw e

pub place_turn : (m d i v : ℕ) (chosen all : List ℕ) → i < m → d < length chosen → take d chosen ++ positions_of_bits i (m - i) v ≡ all
    → take (d + v % 2) (set chosen d i) ++ positions_of_bits (i + 1) (m - (i + 1)) (v / 2) ≡ all
place_turn m d i v chosen all h k e =
    keep_turn (eqb (v % 2) 1) d i v chosen (positions_of_bits (i + 1) (m - (i + 1)) (v / 2)) refl k
    ∙ ap (λ (l : List ℕ). take d chosen ++ l) (sym (bits_step i (m - i) (m - (i + 1)) v (omega arith))) ∙ e

pub place_done : (m d i v : ℕ) (chosen all : List ℕ) → m ≤ i → take d chosen ++ positions_of_bits i (m - i) v ≡ all → take d chosen ≡ all
place_done m d i v chosen all h e = sym (append-nil (take d chosen)) ∙ ap (λ (l : List ℕ). take d chosen ++ l) (sym (bits_none i (m - i) v (omega arith))) ∙ e

positions_step : (p n n' : ℕ) → n ≡ suc n' → positions_from p n ≡ p ∷ positions_from (p + 1) n'
unfolding positions_from
positions_step p n n' e = rw (add-one, e)

positions_none : (p n : ℕ) → n ≡ 0 → positions_from p n ≡ []
unfolding positions_from
positions_none p n e = rw e

pub all_turn : (m i : ℕ) (chosen all : List ℕ) → i < m → i < length chosen → take i chosen ++ positions_from i (m - i) ≡ all
    → take (i + 1) (set chosen i i) ++ positions_from (i + 1) (m - (i + 1)) ≡ all
all_turn m i chosen all h k e =
    rw (add-one i, take-suc-set chosen i i k)
    (append_assoc (take i chosen) (i ∷ []) (positions_from (suc i) (m - suc i)))
    ∙ ap (λ (l : List ℕ). take i chosen ++ l) (sym (positions_step i (m - i) (m - (i + 1)) (omega arith))) ∙ e

pub all_done : (m i : ℕ) (chosen all : List ℕ) → i ≡ m → take i chosen ++ positions_from i (m - i) ≡ all → take m chosen ≡ all
all_done m i chosen all h e =
    ap (λ (k : ℕ). take k chosen) (sym h) ∙ sym (append-nil (take i chosen)) ∙ ap (λ (l : List ℕ). take i chosen ++ l) (sym (positions_none i (m - i) (omega arith))) ∙ e

-- ---- which of the two a code is
pub code_whole : (m code : ℕ) → code % 65536 ≡ 0 → list_of_code m code ≡ whole_of (code / 65536)
unfolding list_of_code
code_whole m code h = rw (eq-eqb (code % 65536) 0 h)

pub code_bits : (m code : ℕ) → (code % 65536 ≡ 0 → ⊥) → list_of_code m code ≡ positions_of_bits 0 m (code % 65536)
unfolding list_of_code
code_bits m code h = rw (ne_eqb (code % 65536) 0 h)

-- ---- positions stay below m, and there are at most m
keep_below : (t : Bool) (n i : ℕ) (l : List ℕ) → i < n → AllBelow n l → AllBelow n (keep_if t i l)
keep_below true n i l h b = (h, b)
keep_below false n i l h b = b

pub bits_below : (n k i v : ℕ) → i + k ≤ n → AllBelow n (positions_of_bits i k v)
unfolding positions_of_bits
bits_below n zero i v h = tt
bits_below n (suc k) i v h = keep_below (eqb (v % 2) 1) n i (positions_of_bits (suc i) k (v / 2)) (omega arith) (bits_below n k (suc i) (v / 2) (omega arith))

keep_length : (t : Bool) (i : ℕ) (l : List ℕ) → length (keep_if t i l) ≤ suc (length l)
keep_length true i l = omega arith
keep_length false i l = omega arith

pub bits_length : (k i v : ℕ) → length (positions_of_bits i k v) ≤ k
unfolding positions_of_bits
bits_length zero i v = zero-le
bits_length (suc k) i v = omega (arith, keep_length (eqb (v % 2) 1) i (positions_of_bits (suc i) k (v / 2)), bits_length k (suc i) (v / 2))

positions_below : (m p n : ℕ) → p + n ≤ m → AllBelow m (positions_from p n)
unfolding positions_from
positions_below m p zero h = tt
positions_below m p (suc n) h = (omega arith, positions_below m (suc p) n (omega arith))

pub whole_below : (m : ℕ) → AllBelow m (whole_of m)
whole_below m = positions_below m 0 m (omega arith)

positions_at : (p n i : ℕ) → i < n → get_or (positions_from p n) i 0 ≡ p + i
unfolding positions_from
positions_at p zero i h = absurd (omega arith)
positions_at p (suc n) zero h = omega arith
positions_at p (suc n) (suc i) h = omega (arith, positions_at (suc p) n i (omega arith))

pub whole_at : (m i : ℕ) → i < m → get_or (whole_of m) i 0 ≡ i
whole_at m i h = omega (arith, positions_at 0 m i h)

pub positions_length : (p n : ℕ) → length (positions_from p n) ≡ n
unfolding positions_from
positions_length p zero = refl
positions_length p (suc n) = ap suc (positions_length (suc p) n)

pub whole_length : (m : ℕ) → length (whole_of m) ≡ m
whole_length m = positions_length 0 m
