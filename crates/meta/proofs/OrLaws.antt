-- Joining flags is associative, digit by digit: the half of two joined is their halves joined, and the lowest digit the larger of theirs. Assumes nothing.
use Prim.Native.Nat.{ℕ, zero, suc, ◌+◌, ◌*◌, ◌/◌, ◌%◌, ◌≤◌, ◌<◌, max}
use native.Mathlib.Omega.{arith}
use native.Mathlib.Nat.{mod-lt, max-le, max-zero, zero-max, suc-max-suc, zero-lt-suc}
use mathlib.Core.Path.{◌≡◌, sym, ap, ap₂, ◌∙◌}
use lib.Arith.{bin_ind, digits_div, digits_mod}
use lib.Bits.{bit_or, or_step, or_zero_l}

larger_either_way : (a b c : ℕ) → max (max a b) c ≡ max a (max b c)
larger_either_way zero b c = ap (λ (x : ℕ). max x c) (zero-max b) ∙ sym (zero-max (max b c))
larger_either_way (suc a) zero c = ap (λ (x : ℕ). max x c) (max-zero (suc a)) ∙ ap (max (suc a)) (sym (zero-max c))
larger_either_way (suc a) (suc b) zero = max-zero (max (suc a) (suc b)) ∙ ap (max (suc a)) (sym (max-zero (suc b)))
larger_either_way (suc a) (suc b) (suc c) =
    ap (λ (x : ℕ). max x (suc c)) (suc-max-suc a b) ∙ suc-max-suc (max a b) c ∙ ap suc (larger_either_way a b c)
    ∙ sym (suc-max-suc a (max b c)) ∙ ap (max (suc a)) (sym (suc-max-suc b c))

larger_digit : (a b : ℕ) → max (a % 2) (b % 2) < 2
larger_digit a b =
    let p : a % 2 < 2 = mod-lt a (zero-lt-suc 1) in
    let q : b % 2 < 2 = mod-lt b (zero-lt-suc 1) in
    let p' : a % 2 ≤ 1 = omega (arith, p) in
    let q' : b % 2 ≤ 1 = omega (arith, q) in
    let h = max-le p' q' in
    omega arith

or_half : (a b : ℕ) → bit_or a b / 2 ≡ bit_or (a / 2) (b / 2)
or_half a b = ap (λ (x : ℕ). x / 2) (or_step a b) ∙ digits_div (bit_or (a / 2) (b / 2)) (larger_digit a b)

or_digit : (a b : ℕ) → bit_or a b % 2 ≡ max (a % 2) (b % 2)
or_digit a b = ap (λ (x : ℕ). x % 2) (or_step a b) ∙ digits_mod (bit_or (a / 2) (b / 2)) (larger_digit a b)

join : {r r' c c' : ℕ} → r ≡ r' → c ≡ c' → r * 2 + c ≡ r' * 2 + c'
join p q = ap₂ (λ (x y : ℕ). x * 2 + y) p q

pub or_either_way : (a b c : ℕ) → bit_or (bit_or a b) c ≡ bit_or a (bit_or b c)
or_either_way = bin_ind (λ (a : ℕ). (b c : ℕ) → bit_or (bit_or a b) c ≡ bit_or a (bit_or b c)) base step
  where
    base : (b c : ℕ) → bit_or (bit_or zero b) c ≡ bit_or zero (bit_or b c)
    base b c = ap (λ (x : ℕ). bit_or x c) (or_zero_l b) ∙ sym (or_zero_l (bit_or b c))

    step : (a : ℕ) → ((b c : ℕ) → bit_or (bit_or (a / 2) b) c ≡ bit_or (a / 2) (bit_or b c)) → (b c : ℕ) → bit_or (bit_or a b) c ≡ bit_or a (bit_or b c)
    step a ih b c =
        or_step (bit_or a b) c
        ∙ join (ap (λ (x : ℕ). bit_or x (c / 2)) (or_half a b) ∙ ih (b / 2) (c / 2) ∙ ap (bit_or (a / 2)) (sym (or_half b c)))
        (ap (λ (x : ℕ). max x (c % 2)) (or_digit a b) ∙ larger_either_way (a % 2) (b % 2) (c % 2) ∙ ap (max (a % 2)) (sym (or_digit b c)))
        ∙ sym (or_step a (bit_or b c))
