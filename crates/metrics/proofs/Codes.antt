-- The letters' codes, the table that has them, and the mask in place of a division. A code is a digit in base 4, and a letter without one counts as 0
-- in document 01. The table's mark is 4 ^ 6, a multiple of every row's size, so that it falls away under the mask. Assumes nothing.
use Rattle.std.proofs.Common.{◌≡◌, ℕ, zero, suc, ◌+◌, ◌-◌, ◌*◌, ◌%◌, ◌^◌, ◌<◌, ◌≤◌, Bool, true, false, cond, ◌||◌, eqb, List, length, get_or, set, sym, refl, ap, ◌∙◌, arith}
use Rattle.std.proofs.Common.{get_or-set_other, get_or-set_same, pow-add, ne_eqb, eqb-true}
use native.Mathlib.Nat.{pow-succ', mul-add-mod_self_right}
use lib.Bits.{bit_and, and_mask}
use borrow.Author.Tests.{eqb-false}
use Rattle.std.specs.Prelude.{Some, None}
use Rattle.metrics.specs.Letters.{code_of, has_code, encoded, read_by}
use Rattle.metrics.specs.Lanes.{entry_of}

pub cond_le : (t : Bool) (p q r : ℕ) → p ≤ r → q ≤ r → cond t p q ≤ r
cond_le true p q r h k = h
cond_le false p q r h k = k

-- a letter is a digit in base 4
pub letter_le : (b : ℕ) → code_of b ≤ 3
unfolding code_of
letter_le b =
    cond_le (eqb b 65) _ _ 3 (omega arith) (cond_le (eqb b 97) _ _ 3 (omega arith) (cond_le (eqb b 71) _ _ 3 (omega arith)
    (cond_le (eqb b 103) _ _ 3 (omega arith) (cond_le (eqb b 67) _ _ 3 (omega arith) (cond_le (eqb b 99) _ _ 3 (omega arith)
    (cond_le (eqb b 84) _ _ 3 (omega arith) (cond_le (eqb b 116) _ _ 3 (omega arith) (omega arith))))))))

-- ---- letters without a code
-- one test more that fails
none_of : (t r : Bool) (p q : ℕ) → t || r ≡ false → (r ≡ false → q ≡ 0) → cond t p q ≡ 0
none_of true r p q h k =
    let z : ◌≡◌ {A = ℕ} 0 1 = cc in
    absurd (omega arith)
none_of false r p q h k = k h

uncoded_zero : (b : ℕ) → has_code b ≡ false → code_of b ≡ 0
unfolding code_of has_code
uncoded_zero b h =
    none_of (eqb b 65) _ _ _ h (λ h. none_of (eqb b 97) _ _ _ h (λ h. none_of (eqb b 71) _ _ _ h (λ h. none_of (eqb b 103) _ _ _ h (λ h.
    none_of (eqb b 67) _ _ _ h (λ h. none_of (eqb b 99) _ _ _ h (λ h. none_of (eqb b 84) _ _ _ h (λ h. rw h)))))))

-- the codes lie from A, 65, to t, 116
pub outside : (b : ℕ) → ((x : ℕ) → 65 ≤ x → x ≤ 116 → b ≡ x → ⊥) → 0 ≡ entry_of (encoded b)
unfolding encoded has_code
outside b out =
    rw (
      ne_eqb b 65 (out 65 (omega arith) (omega arith)),
      ne_eqb b 97 (out 97 (omega arith) (omega arith)),
      ne_eqb b 71 (out 71 (omega arith) (omega arith)),
      ne_eqb b 103 (out 103 (omega arith) (omega arith)),
      ne_eqb b 67 (out 67 (omega arith) (omega arith)),
      ne_eqb b 99 (out 99 (omega arith) (omega arith)),
      ne_eqb b 84 (out 84 (omega arith) (omega arith)),
      ne_eqb b 116 (out 116 (omega arith) (omega arith)),
    )

-- a reading other than 0 reads what has a code
pub read_coded : (reading b : ℕ) → (reading ≡ 0 → ⊥) → read_by reading b ≡ has_code b
unfolding read_by
read_coded reading b h = rw (ne_eqb reading 0 h)

-- ---- the table's entries
pub entry_le : (b : ℕ) → entry_of (encoded b) ≤ 8192
unfolding encoded
entry_le b = go (has_code b)
  where
    go : (t : Bool) → entry_of (cond t (Some (code_of b)) None) ≤ 8192
    go true = omega (arith, letter_le b)
    go false = omega arith

-- a run goes on where there is a mark
pub entry_read : (b n : ℕ) → cond (eqb (entry_of (encoded b)) 0) 0 (n + 1) ≡ cond (has_code b) (n + 1) 0
unfolding encoded
entry_read b n = go (has_code b)
  where
    go : (t : Bool) → cond (eqb (entry_of (cond t (Some (code_of b)) None)) 0) 0 (n + 1) ≡ cond t (n + 1) 0
    go true = rw (ne_eqb (code_of b + 4096) 0 (λ e. marked (code_of b) e))
      where
        marked : (c : ℕ) → c + 4096 ≡ 0 → ⊥
        marked c e = omega arith
    go false = refl

-- under the mask an entry is its letter's code
pub entry_code : (k v b : ℕ) → k ≤ 6 → (v * 4 + entry_of (encoded b)) % 4 ^ k ≡ (v * 4 + code_of b) % 4 ^ k
unfolding encoded
entry_code k v b h = go (has_code b) refl
  where
    go : (t : Bool) → has_code b ≡ t → (v * 4 + entry_of (cond t (Some (code_of b)) None)) % 4 ^ k ≡ (v * 4 + code_of b) % 4 ^ k
    go true e =
        let six : 6 - k + k ≡ 6 = omega arith in
        let mark : 4096 ≡ 4 ^ (6 - k) * 4 ^ k = ap (λ (n : ℕ). 4 ^ n) (sym six) ∙ pow-add 4 (6 - k) k in
        let split : v * 4 + (code_of b + 4096) ≡ 4 ^ (6 - k) * 4 ^ k + (v * 4 + code_of b) = omega arith in
        ap (λ (n : ℕ). n % 4 ^ k) split ∙ mul-add-mod_self_right (4 ^ (6 - k)) (4 ^ k) (v * 4 + code_of b)
    go false e = rw (uncoded_zero b e)

-- one entry more: those below i are laid, and the i-th takes its own
pub coded_more : (t : List ℕ) (i v : ℕ) → i < length t → v ≡ entry_of (encoded i) → ((b : ℕ) → b < i → get_or t b 0 ≡ entry_of (encoded b))
    → (b : ℕ) → b < i + 1 → get_or (set t i v) b 0 ≡ entry_of (encoded b)
coded_more t i v room e below b h = go (eqb b i) refl
  where
    go : (same : Bool) → eqb b i ≡ same → get_or (set t i v) b 0 ≡ entry_of (encoded b)
    go true s = rw (eqb-true b i s) (get_or-set_same t i v 0 room ∙ e)
    go false s =
        let other = eqb-false b i s in
        get_or-set_other t i b v 0 other ∙ below b (omega (arith, other))

-- ---- the mask
four : (k : ℕ) → 4 ^ k ≡ 2 ^ (2 * k)
four zero = refl
four (suc k) =
    let e : 2 * suc k ≡ suc (suc (2 * k)) = omega arith in
    rw (e, pow-succ' 4 k, pow-succ' 2 (suc (2 * k)), pow-succ' 2 (2 * k), four k) (omega arith)

pub masked : (n k size : ℕ) → size ≡ 4 ^ k → bit_and n (size - 1) ≡ n % size
masked n k size e = rw (e, four k) (and_mask n (2 * k))
