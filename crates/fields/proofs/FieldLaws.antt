-- Fields stored one behind the other, and read back: a number is put together from halves, so each law is about two of them. Assumes nothing.
use Prim.Native.Nat.{ℕ, zero, suc, ◌+◌, ◌-◌, ◌*◌, ◌/◌, ◌%◌, ◌≤◌, ◌<◌}
use native.Mathlib.Omega.{arith}
use native.Mathlib.Nat.{add-zero, add-suc, suc-add}
use mathlib.Core.Path.{◌≡◌, refl, sym, ap, subst, ◌∙◌}
use mathlib.Core.List.{List, [], ◌∷◌, ◌++◌}
use lib.IntN.{ℤ, pos, negsuc}
use lib.ListN.{length, get_or, set, drop, length-drop, drop_of_length-le}
use lib.Seq.{take-length}
use denote.Ref.{Bor}
use mathlib.Core.Logic.{inl, inr}
use Rattle.std.specs.Option.{unwrap_or}
use Rattle.std.specs.Slice.{IsGetRangeResult}
use Rattle.std.proofs.Common.{Option, Some, None}
use lib.Seq.{sets, set_out}
use borrow.Author.Tests.{lt-ltb, le-ltb}
use mir.Val.{SFits}
use mir.Syntax.{w32, w64}
use Rattle.std.specs.Int.{to_le_bytes, from_le_bytes}
use Rattle.std.specs.Fn.{Called}
use Rattle.std.specs.Array.{IsFromFnResultFrom}
use denote.Param.Members.{Mut}
use Rattle.fields.specs.Fields.{le2, le4, le8, signed_of, bytes2, bytes4, bytes8, word_of}

pub sets_append : (l : List ℕ) (i : ℕ) (xs ys : List ℕ) → sets l i (xs ++ ys) ≡ sets (sets l i xs) (i + length xs) ys
sets_append l i [] ys = rw (add-zero i)
sets_append l i (x ∷ xs) ys = sets_append (set l i x) (suc i) xs ys ∙ ap (λ (n : ℕ). sets (sets (set l i x) (suc i) xs) n ys) (suc-add i (length xs) ∙ sym (add-suc i (length xs)))

-- ---- the round trip
two_back : (x : ℕ) → x < 65536 → x % 256 + 256 * (x / 256 % 256) ≡ x
two_back x h = omega arith

-- the sum that `le4` makes of the bytes of x
pub four_back : (x : ℕ) → x < 4294967296
    → (x % 65536 % 256 + 256 * (x % 65536 / 256 % 256)) + 65536 * (x / 65536 % 256 + 256 * (x / 65536 / 256 % 256)) ≡ x
four_back x h =
    let lo : x % 65536 < 65536 = omega arith in
    let hi : x / 65536 < 65536 = omega arith in
    rw (two_back (x % 65536) lo, two_back (x / 65536) hi) (omega arith)

pub bits_fit : (z : ℤ) → SFits w32 z → word_of z < 4294967296
unfolding word_of
bits_fit (pos n) f = let h : n < 2147483648 = f.sfits in omega arith
bits_fit (negsuc n) f = omega arith

pub signed_back : (z : ℤ) → SFits w32 z → signed_of (word_of z) ≡ z
unfolding signed_of word_of
signed_back (pos n) f = simp (lt-ltb n 2147483648 f.sfits)
signed_back (negsuc n) f =
    let h : n < 2147483648 = f.sfits in
    let g : 2147483648 ≤ 4294967295 - n = omega arith in
    let e : 4294967295 - (4294967295 - n) ≡ n = omega arith in
    simp (le-ltb _ _ g) (ap negsuc e)

pub eight_back : (x a c : ℕ) → x < 18446744073709551616 → a ≡ x % 4294967296 → c ≡ x / 4294967296 → a + 4294967296 * c ≡ x
eight_back x a c h p q = omega arith

pub long4 : (x : ℕ) → length (bytes4 x) ≡ 4
unfolding bytes4 bytes2
long4 x = refl

pub long8 : (x : ℕ) → length (bytes8 x) ≡ 8
unfolding bytes8 bytes4 bytes2
long8 x = refl

-- ---- stores one behind the other
pub join : (l m n : List ℕ) (i j : ℕ) (xs ys : List ℕ) → i + length xs ≡ j → m ≡ sets l i xs → n ≡ sets m j ys → n ≡ sets l i (xs ++ ys)
join l m n i j xs ys e p q = q ∙ rw (p, sym e) (sym (sets_append l i xs ys))

-- behind a field of four bytes
pub join4 : (l m n : List ℕ) (i j x w : ℕ) (ys : List ℕ) → i + 4 ≡ j → w ≡ x → m ≡ sets l i (bytes4 w) → n ≡ sets m j ys → n ≡ sets l i (bytes4 x ++ ys)
join4 l m n i j x w ys e h p q = join l m n i j (bytes4 x) ys (rw (long4 x) e) (p ∙ ap (λ (v : ℕ). sets l i (bytes4 v)) h) q

-- ---- past the end
pub past : {A : Type 0} (l : List A) (i : ℕ) (d : A) → length l ≤ i → d ≡ get_or l i d
past [] i d h = refl
past (x ∷ l) zero d h = let z : ⊥ = omega arith in absurd z
past (x ∷ l) (suc i) d h = past l i d (omega arith)

pub sets_past : (l : List ℕ) (i : ℕ) (xs : List ℕ) → length l ≤ i → l ≡ sets l i xs
sets_past l i [] h = refl
sets_past l i (x ∷ xs) h = rw (set_out l i x h) (sets_past l (suc i) xs (omega arith))

-- ---- std's bytes of a number, lowest first
pub four_bytes : (x : ℕ) → to_le_bytes w32 x ≡ bytes4 x
unfolding bytes4 bytes2
four_bytes x =
    let a : x % 256 ≡ x % 65536 % 256 = omega arith in
    let b : x / 256 % 256 ≡ x % 65536 / 256 % 256 = omega arith in
    let d : x / 16777216 % 256 ≡ x / 65536 / 256 % 256 = omega arith in
    rw (a, b, d)

pub eight_bytes : (x : ℕ) → to_le_bytes w64 x ≡ bytes8 x
unfolding bytes8 bytes4 bytes2
eight_bytes x =
    let a : x % 256 ≡ x % 4294967296 % 65536 % 256 = omega arith in
    let b : x / 256 % 256 ≡ x % 4294967296 % 65536 / 256 % 256 = omega arith in
    let c : x / 65536 % 256 ≡ x % 4294967296 / 65536 % 256 = omega arith in
    let d : x / 16777216 % 256 ≡ x % 4294967296 / 65536 / 256 % 256 = omega arith in
    let e : x / 4294967296 % 256 ≡ x / 4294967296 % 65536 % 256 = omega arith in
    let f : x / 1099511627776 % 256 ≡ x / 4294967296 % 65536 / 256 % 256 = omega arith in
    let g : x / 281474976710656 % 256 ≡ x / 4294967296 / 65536 % 256 = omega arith in
    let h : x / 72057594037927936 % 256 ≡ x / 4294967296 / 65536 / 256 % 256 = omega arith in
    rw (a, b, c, d, e, f, g, h)

-- ---- a number of bytes that were read one by one
module _ (s bytes : List ℕ) (at : ℕ) where
  abbrev Read : ℕ → Type 0
  Read n = (i : ℕ) → i < n → get_or bytes i 0 ≡ get_or s (at + i) 0

  two_read : (i : ℕ) → get_or bytes i 0 ≡ get_or s (at + i) 0 → get_or bytes (i + 1) 0 ≡ get_or s (at + (i + 1)) 0 → get_or bytes i 0 + 256 * get_or bytes (i + 1) 0 ≡ le2 s (at + i)
  unfolding le2
  two_read i a b = let e : at + i + 1 ≡ at + (i + 1) = omega arith in rw (e, a, b)

  pub four_read : Read 4 → from_le_bytes w32 bytes ≡ le4 s at
  unfolding le4
  four_read read =
      let low = two_read 0 (read 0 (omega arith)) (read 1 (omega arith)) in
      let high = two_read 2 (read 2 (omega arith)) (read 3 (omega arith)) in
      let zero : at + 0 ≡ at = omega arith in
      omega (arith, rw zero at low, high)

  pub eight_read : Read 8 → from_le_bytes w64 bytes ≡ le8 s at
  unfolding le8 le4
  eight_read read =
      let a = two_read 0 (read 0 (omega arith)) (read 1 (omega arith)) in
      let b = two_read 2 (read 2 (omega arith)) (read 3 (omega arith)) in
      let d = two_read 4 (read 4 (omega arith)) (read 5 (omega arith)) in
      let e = two_read 6 (read 6 (omega arith)) (read 7 (omega arith)) in
      let zero : at + 0 ≡ at = omega arith in
      let six : at + 4 + 2 ≡ at + 6 = omega arith in
      rw six (omega (arith, rw zero at a, b, d, e))

-- ---- what calls that leave the closure as it was gave
module _ {F B : Type 0} (g : Mut F (ℕ × Unit {0}) B) (f : F) (value : ℕ → B) (call : (i : ℕ) (y : B) (q : F) → Called g f (i, tt) y q → (q ≡ f) × (y ≡ value i)) where
  pub each_given : (ys : List B) (none : B) (i n : ℕ) → IsFromFnResultFrom g f ys i n → (k : ℕ) → k < n → get_or ys (i + k) none ≡ value (i + k)
  each_given ys none i zero made k h = absurd (omega arith)
  each_given ys none i (suc n) made zero h =
      let here : i + 0 ≡ i = omega arith in
      rw here (made.2.1 none ∙ (call i made.1 made.0 made.3).1)
  each_given ys none i (suc n) made (suc k) h =
      let on : i + suc k ≡ i + 1 + k = omega arith in
      let same = (call i made.1 made.0 made.3).0 in
      rw on (each_given ys none (i + 1) n (subst (λ (q : F). IsFromFnResultFrom g q ys (i + 1) n) same made.4) k (omega arith))

  pub all_given : (ys : List B) (none : B) (n : ℕ) → IsFromFnResultFrom g f ys 0 n → (k : ℕ) → k < n → get_or ys k none ≡ value k
  all_given ys none n made k h = let from : 0 + k ≡ k = omega arith in rw from at (each_given ys none 0 n made k h)

-- ---- what is left from a place on, none where the slice has ended
pub left_is : (s : List ℕ) (at : ℕ) (found : Option (Bor (List ℕ))) (none : Bor (List ℕ)) → none.now ≡ [] → IsGetRangeResult s at (length s) found → (unwrap_or found none).now ≡ drop at s
left_is s at None none e h = elim h.0 [ inl low ↦ e ∙ sym (drop_of_length-le s (omega arith)) | inr low ↦ absurd (omega arith) ]
left_is s at (Some x) none e h =
    let all : length s - at ≡ length (drop at s) = omega (arith, length-drop at s) in
    h.0.2 ∙ rw all (take-length (drop at s))
