-- What the writer's steps store and count: costs are taken away one by one, and records are stored one behind the other. Assumes nothing.
use Prim.Native.Nat.{ℕ, zero, suc, ◌+◌, ◌-◌, ◌*◌, ◌/◌, ◌≤◌, ◌<◌}
use native.Mathlib.Omega.{arith}
use native.Mathlib.Numerals.{add-one}
use native.Mathlib.Nat.{add-zero}
use mathlib.Core.Path.{◌≡◌, refl, sym, ap, ◌∙◌}
use mathlib.Core.Bool.{Bool, true, false}
use mathlib.Core.List.{List, [], ◌∷◌, ◌++◌}
use mathlib.Core.Logic.{◌⊎◌, inl, inr, ⊎_elim}
use lib.IntN.{ℤ}
use lib.Dec.{leb, eqb}
use lib.ListN.{length, get_or, take, drop, set, replicate, length-append, length-take, length-replicate, drop_of_length-le}
use lib.Seq.{sets, slice, drop-cons, drop-drop, get_or-take, get_or-drop, length-slice}
use mir.Val.{bool_byte}
use borrow.Author.Tests.{eq-eqb, ne_eqb, le-leb, lt-leb, leb-true, leb-false}
use Rattle.std.specs.Option.{option_eq}
use Rattle.std.specs.declared.option.Option.{Option}
use Rattle.std.specs.declared.option.Option.TheVariants.{None, Some}
use Rattle.fields.specs.Fields.{bytes4, word_of}
use Rattle.form.specs.Settings40.{flag}
use Rattle.form.specs.Form.{kind_of, body_len}
use Rattle.form.specs.Job.{padded, letters_records, records_for, sequence_bytes, part_body}
use Rattle.form.specs.Lent.{sum}
use Rattle.writer.specs.Steps.{cost_of, total, left_of, Put}
use Rattle.fields.proofs.FieldLaws.{sets_append, join, join4}
use Rattle.form.proofs.FormLaws.{split}

-- ---- costs
pub cost_letters : (kind n : ℕ) → kind ≡ 4 → n ≡ cost_of kind n
unfolding cost_of
cost_letters kind n h = sym (rw (eq-eqb kind 4 h))

pub cost_bytes : (kind n m : ℕ) → (kind ≡ 4 → ⊥) → m ≡ body_len (kind_of kind) → 1 + m + 17 * ((n + 15) / 16) ≡ cost_of kind n
unfolding cost_of
cost_bytes kind n m h e = sym (rw (ne_eqb kind 4 h, sym e))

pub total_letters : (ns : List ℕ) → total 4 ns ≡ sum ns
unfolding total sum cost_of
total_letters [] = refl
total_letters (n ∷ ns) = ap (λ (m : ℕ). n + m) (total_letters ns)

module _ (c r left : ℕ) where
  pub left_less : left < c → None ≡ left_of (c + r) left
  unfolding left_of
  left_less h = let g : left < c + r = omega arith in sym (rw (lt-leb _ _ g))

  pub left_take : c ≤ left → left_of r (left - c) ≡ left_of (c + r) left
  unfolding left_of
  left_take h = ⊎_elim
      (λ (t : leb r (left - c) ≡ true).
      let g : r ≤ left - c = leb-true _ _ t in
      let g' : c + r ≤ left = omega arith in
      let e : left - c - r ≡ left - (c + r) = omega arith in
      rw (t, le-leb _ _ g', e))
      (λ (t : leb r (left - c) ≡ false).
      let g : left - c < r = leb-false r (left - c) t in
      let g' : left < c + r = omega arith in
      rw (t, lt-leb _ _ g'))
      (split (leb r (left - c)))

left_zero : (left : ℕ) → Some left ≡ left_of 0 left
unfolding left_of
left_zero left =
    let h : 0 ≤ left = omega arith in
    let e : left - 0 ≡ left = omega arith in
    sym (rw (le-leb _ _ h, e))

-- what an answer says
pub record Had (c have n : ℕ) : Type 0 where
  pub fits : c ≤ have
  pub is : n ≡ have - c

pub enough_had : (c have n : ℕ) → Some n ≡ left_of c have → Had c have n
unfolding left_of
enough_had c have n e = ⊎_elim
    (λ (t : leb c have ≡ true). let w : Some n ≡ Some (have - c) = simp t at e in record { fits = leb-true _ _ t; is = cc })
    (λ (t : leb c have ≡ false). let w : Some n ≡ None = simp t at e in let z : ◌≡◌ {A = ℕ} 1 0 = cc in absurd (no z))
    (split (leb c have))
  where
    no : {n : ℕ} → suc n ≡ 0 → ⊥
    no e = omega arith

pub short_had : (c have : ℕ) → None ≡ left_of c have → have < c
unfolding left_of
short_had c have e = ⊎_elim
    (λ (t : leb c have ≡ true). let w : None ≡ Some (have - c) = simp t at e in let z : ◌≡◌ {A = ℕ} 1 0 = cc in omega arith)
    (λ (t : leb c have ≡ false). leb-false c have t)
    (split (leb c have))

module _ (kind : ℕ) (counts : List ℕ) (i left : ℕ) where
  pub left_done : length counts ≤ i → Some left ≡ left_of (total kind (drop i counts)) left
  unfolding total
  left_done h = rw (drop_of_length-le counts {i = i} h) (left_zero left)

  module _ (inside : i < length counts) (c : ℕ) (c-is : c ≡ cost_of kind (get_or counts i 0)) where
    total_next : total kind (drop i counts) ≡ c + total kind (drop (suc i) counts)
    unfolding total
    total_next = ap (total kind) (drop-cons counts i 0 inside) ∙ ap (λ (n : ℕ). n + total kind (drop (suc i) counts)) (sym c-is)

    pub left_short : left < c → None ≡ left_of (total kind (drop i counts)) left
    left_short h = left_less c (total kind (drop (suc i) counts)) left h ∙ ap (λ (n : ℕ). left_of n left) (sym total_next)

    pub left_more : c ≤ left → left_of (total kind (drop (i + 1) counts)) (left - c) ≡ left_of (total kind (drop i counts)) left
    left_more h = rw (add-one i) (left_take c (total kind (drop (suc i) counts)) left h ∙ ap (λ (n : ℕ). left_of n left) (sym total_next))

-- ---- two sums against one number
module _ (xs ys : List ℕ) (have : ℕ) where
  pub agree_short : None ≡ left_of (total 4 xs) have → false ≡ eqb (sum xs + sum ys) have
  agree_short e =
      let h = short_had _ _ e in let t = total_letters xs in
      sym (ne_eqb _ _ (λ (g : sum xs + sum ys ≡ have). omega (arith, h, t, g)))

  module _ (n : ℕ) (first : Some n ≡ left_of (total 4 xs) have) where
    pub agree_short_2 : None ≡ left_of (total 4 ys) n → false ≡ eqb (sum xs + sum ys) have
    agree_short_2 e =
        let f = enough_had _ _ _ first in let h = short_had _ _ e in let t = total_letters xs in let u = total_letters ys in
        sym (ne_eqb _ _ (λ (g : sum xs + sum ys ≡ have). omega (arith, f.fits, f.is, h, t, u, g)))

    pub agree_enough : (m : ℕ) → Some m ≡ left_of (total 4 ys) n → eqb m 0 ≡ eqb (sum xs + sum ys) have
    agree_enough m e =
        let f = enough_had _ _ _ first in let h = enough_had _ _ _ e in let t = total_letters xs in let u = total_letters ys in
        ⊎_elim
        (λ (g : m ≡ 0). let w : sum xs + sum ys ≡ have = omega (arith, f.fits, f.is, h.fits, h.is, t, u, g) in rw (eq-eqb _ _ g, eq-eqb _ _ w))
        (λ (g : 0 < m). rw (ne_eqb _ _ (λ (z : m ≡ 0). omega (arith, g, z)), ne_eqb _ _ (λ (w : sum xs + sum ys ≡ have). omega (arith, f.fits, f.is, h.fits, h.is, t, u, g, w))))
        (zero_or m)
      where
        zero_or : (m : ℕ) → (m ≡ 0) ⊎ (0 < m)
        zero_or zero = inl refl
        zero_or (suc m) = inr (omega arith)

    pub agree_rest : (r : Option ℕ) → r ≡ left_of (total 4 ys) n → option_eq eqb r (Some 0) ≡ eqb (sum xs + sum ys) have
    agree_rest None e = agree_short_2 e
    agree_rest (Some m) e = agree_enough m e

-- ---- the room behind variants and parts, and the least that a job takes without them
module _ (least a b room : ℕ) where
  pub spare_none : room < least → None ≡ left_of (least + (a + b)) room
  spare_none h = left_less least (a + b) room h

  module _ (h : least ≤ room) where
    pub spare_short : None ≡ left_of a (room - least) → None ≡ left_of (least + (a + b)) room
    spare_short e = left_less a b (room - least) (short_had _ _ e) ∙ left_take least (a + b) room h

    pub spare_enough : (n : ℕ) (r : Option ℕ) → Some n ≡ left_of a (room - least) → r ≡ left_of b n → r ≡ left_of (least + (a + b)) room
    spare_enough n r e g =
        let f = enough_had _ _ _ e in
        g ∙ ap (left_of b) f.is ∙ left_take a b (room - least) f.fits ∙ left_take least (a + b) room h

-- ---- a letters record
pub long_padded : (l : List ℕ) → length (padded l) ≡ 16
unfolding padded
long_padded l = simp (length-take, length-append, length-replicate) (omega arith)

zeros_behind : (l : List ℕ) (n j : ℕ) → get_or (l ++ replicate n 0) j 0 ≡ get_or l j 0
zeros_behind [] zero j = refl
zeros_behind [] (suc n) zero = refl
zeros_behind [] (suc n) (suc j) = zeros_behind [] n j
zeros_behind (x ∷ l) n zero = refl
zeros_behind (x ∷ l) n (suc j) = zeros_behind l n j

pub padded_at : (l : List ℕ) (j : ℕ) → j < 16 → get_or (padded l) j 0 ≡ get_or l j 0
unfolding padded
padded_at l j h = get_or-take 16 (l ++ replicate 16 0) j 0 h ∙ zeros_behind l 16 j

module _ (letters : List ℕ) (end : ℕ) where
  module _ (from at : ℕ) (out : List ℕ) where
    pub pad_start : sets out (at + 0) (drop 0 (padded (slice from end letters))) ≡ sets out at (padded (slice from end letters))
    pad_start = rw (add-zero at)

    pub pad_more : (j x : ℕ) → j < 16 → x ≡ get_or (take end letters) (from + j) 0
        → sets (set out (at + j) x) (at + (j + 1)) (drop (j + 1) (padded (slice from end letters))) ≡ sets out (at + j) (drop j (padded (slice from end letters)))
    pad_more j x h e =
        let l : List ℕ = padded (slice from end letters) in
        let g : j < length l = rw (long_padded (slice from end letters)) h in
        let y : get_or l j 0 ≡ x = padded_at (slice from end letters) j h ∙ get_or-drop from (take end letters) j 0 ∙ sym e in
        let f : at + suc j ≡ suc (at + j) = omega arith in
        rw (add-one j, f) (ap (λ (n : ℕ). sets (set out (at + j) n) (suc (at + j)) (drop (suc j) l)) (sym y) ∙ ap (sets out (at + j)) (sym (drop-cons l j 0 g)))

    pub pad_done : (j : ℕ) → 16 ≤ j → sets out (at + j) (drop j (padded (slice from end letters))) ≡ out
    pad_done j h = rw (drop_of_length-le (padded (slice from end letters)) {i = j} (rw (long_padded (slice from end letters)) h))

-- ---- the records of a sequence
pub long_records : (n : ℕ) (l : List ℕ) → length (letters_records n l) ≡ 17 * n
unfolding letters_records
long_records zero l = refl
long_records (suc n) l =
    let e = length-append (padded l) (letters_records n (drop 16 l)) in let f = long_padded l in let g = long_records n (drop 16 l) in
    omega (arith, e, f, g)

module _ (letters : List ℕ) (end : ℕ) where
  abbrev pub records_at : ℕ → List ℕ
  records_at p = letters_records (records_for (end - p)) (slice p end letters)

  pub records_more : (out m : List ℕ) (a p : ℕ) → p < end → m ≡ sets out a (4 ∷ padded (slice p end letters)) → sets m (a + 17) (records_at (p + 16)) ≡ sets out a (records_at p)
  unfolding letters_records
  records_more out m a p h e =
      let l : List ℕ = slice p end letters in
      let n : (end - p + 15) / 16 ≡ suc ((end - (p + 16) + 15) / 16) = omega arith in
      let k : a + length (4 ∷ padded l) ≡ a + 17 = let f = long_padded l in omega (arith, f) in
      rw (n, e, drop-drop 16 p (take end letters)) (sym (sets_append out a (4 ∷ padded l) (records_at (p + 16)) ∙ ap (λ (i : ℕ). sets (sets out a (4 ∷ padded l)) i (records_at (p + 16))) k))

  pub records_none : (p : ℕ) → end ≤ p → records_at p ≡ []
  unfolding letters_records
  records_none p h = let n : (end - p + 15) / 16 ≡ 0 = omega arith in rw n

  pub records_fewer : (p : ℕ) → p < end → 17 * records_for (end - p) ≡ 17 + 17 * records_for (end - (p + 16))
  records_fewer p h = let n : (end - p + 15) / 16 ≡ suc ((end - (p + 16) + 15) / 16) = omega arith in omega (arith, n)

  pub sequence_put : (from at r : ℕ) (t u : List ℕ) → end ≤ length letters → u ≡ sets t at (records_at from) → r ≡ at + 17 * records_for (end - from)
      → Put t u at r (sequence_bytes (slice from end letters))
  unfolding sequence_bytes
  sequence_put from at r t u h e f =
      let n : length (slice from end letters) ≡ end - from = length-slice from end letters h in
      rw n (record { is = e; next = f ∙ ap (λ (k : ℕ). at + k) (sym (long_records (records_for (end - from)) (slice from end letters))) })

-- ---- a part's body
pub flag_byte : (t : Bool) → bool_byte t ≡ flag t
flag_byte true = refl
flag_byte false = refl

pub body_stored : (l a b c : List ℕ) (at : ℕ) (size : ℤ) (negative : Bool) (count w x : ℕ) → w ≡ word_of size → x ≡ flag negative
    → a ≡ sets l at (bytes4 w) → b ≡ sets a (at + 4) (x ∷ []) → c ≡ sets b (at + 5) (bytes4 count) → c ≡ sets l at (part_body size negative count)
unfolding part_body
body_stored l a b c at size negative count w x hw hx p q r =
    join4 l a c at (at + 4) (word_of size) w (flag negative ∷ bytes4 count) refl hw p
    (join a b c (at + 4) (at + 5) (flag negative ∷ []) (bytes4 count) (omega arith) (q ∙ ap (λ (n : ℕ). sets a (at + 4) (n ∷ [])) hx) r)
