-- Text that is stored piece by piece: two pieces one behind the other are one piece, whether or not they fit, and each number's digits are a piece.
use Prim.Native.Nat.{ℕ, zero, suc, ◌+◌, ◌-◌, ◌/◌, ◌%◌, ◌≤◌, ◌<◌}
use native.Mathlib.Omega.{arith}
use native.Mathlib.Numerals.{add-one}
use mathlib.Core.Path.{◌≡◌, refl, sym, ap, subst, ◌∙◌}
use mathlib.Core.Bool.{Bool, true, false}
use mathlib.Core.List.{List, [], ◌∷◌, ◌++◌, append-nil, append_assoc}
use lib.Dec.{ltb}
use lib.ListN.{length, get_or, take, set, length-append}
use lib.Seq.{sets, take-suc, set_out, length-sets}
use borrow.Author.Tests.{lt-ltb, le-ltb, ltb-true, ltb-false}
use Rattle.fields.proofs.FieldLaws.{sets_append}
use Rattle.text.specs.Text.{hex_digit, hex2, digits_within, entry_text, entries_text}
use Rattle.text.specs.Written.{behind, Written}

-- what is stored past the end
sets_past : (l : List ℕ) (i : ℕ) (xs : List ℕ) → length l ≤ i → sets l i xs ≡ l
sets_past l i [] h = refl
sets_past l i (x ∷ xs) h = ap (λ (m : List ℕ). sets m (suc i) xs) (set_out l i x h) ∙ sets_past l (suc i) xs (omega arith)

-- the second piece stands behind the first, or both places are past the end
stored_behind : (l : List ℕ) (i r : ℕ) (xs ys : List ℕ) → r ≡ behind l i xs → sets (sets l i xs) r ys ≡ sets l i (xs ++ ys)
stored_behind l i r xs ys e = go (ltb (length l) (i + length xs)) refl
  where
    go : (t : Bool) → ltb (length l) (i + length xs) ≡ t → sets (sets l i xs) r ys ≡ sets l i (xs ++ ys)
    go false f =
        let h = ltb-false (length l) (i + length xs) f in
        let n : r ≡ i + length xs = omega arith in
        rw n (sym (sets_append l i xs ys))
    go true f =
        let h = ltb-true (length l) (i + length xs) f in
        let k = length-sets l i xs in
        sets_past (sets l i xs) r ys (omega arith) ∙ sym (sets_append l i xs ys ∙ sets_past (sets l i xs) (i + length xs) ys (omega arith))

-- one piece and then another
pub written_then : {t u w : List ℕ} {i r q : ℕ} {xs ys : List ℕ} → Written t i xs u r → Written u r ys w q → Written t i (xs ++ ys) w q
written_then {t} {u} {w} {i} {r} {q} {xs} {ys} p s =
    let k : length u ≡ length t = ap length p.is ∙ length-sets t i xs in
    let a = length-append xs ys in
    let n = p.next in
    let m = s.next in
    record {
      next = omega arith;
      is = s.is ∙ ap (λ (l : List ℕ). sets l r ys) p.is ∙ stored_behind t i r xs ys p.next;
    }

-- the same bytes under another name
pub written_as : {t u : List ℕ} {i r : ℕ} {xs ys : List ℕ} → Written t i xs u r → xs ≡ ys → Written t i ys u r
written_as {t} {u} {i} {r} {xs} {ys} p e = subst (λ (l : List ℕ). Written t i l u r) e p

pub written_none : (t : List ℕ) (i : ℕ) → Written t i [] t i
written_none t i = record { next = omega arith; is = refl }

-- a slice keeps its length
pub written_kept : {t u : List ℕ} {i r : ℕ} {xs : List ℕ} → Written t i xs u r → length u ≡ length t
written_kept {t} {u} {i} {r} {xs} p = ap length p.is ∙ length-sets t i xs

-- one byte, where there is room for it and where there is none
pub written_byte : (t : List ℕ) (i x : ℕ) → i < length t → Written t i (x ∷ []) (set t i x) (i + 1)
written_byte t i x h = record { next = omega arith; is = refl }

pub written_past : (t : List ℕ) (i x : ℕ) → length t ≤ i → Written t i (x ∷ []) t i
written_past t i x h = record { next = omega arith; is = sym (set_out t i x h) }

-- the first i of some elements are a piece, and one more makes a longer one
pub written_more : {t u w : List ℕ} {at end r : ℕ} (i : ℕ) (src : List ℕ) → i < length src →
    Written t at (take i src) u end → Written u end (get_or src i 0 ∷ []) w r → Written t at (take (i + 1) src) w r
written_more i src h p q =
    let e : take (i + 1) src ≡ take i src ++ (get_or src i 0 ∷ []) = rw (add-one i) (take-suc src i 0 h) in
    written_as (written_then p q) (sym e)

pub written_hex2 : {t u w : List ℕ} {i r q a b : ℕ} (x : ℕ) → a ≡ hex_digit (x / 16) → b ≡ hex_digit (x % 16)
    → Written t i (a ∷ []) u r → Written u r (b ∷ []) w q → Written t i (hex2 x) w q
unfolding hex2
written_hex2 x d e p s = rw (sym d, sym e) (written_then p s)

-- the decimal digits: none left, the only one, and one behind the others
pub no_digit : (t : List ℕ) (i n left : ℕ) → left ≡ 0 → Written t i (digits_within left n) t i
unfolding digits_within
no_digit t i n left e = rw e (written_none t i)

pub only_digit : {t u : List ℕ} {i r : ℕ} (n left : ℕ) → 0 < left → n < 10 → Written t i ((48 + n) ∷ []) u r → Written t i (digits_within left n) u r
unfolding digits_within
only_digit n zero l h p = let z : ⊥ = omega arith in absurd z
only_digit n (suc left) l h p = rw (lt-ltb n 10 h) p

pub last_digit : {t u w : List ℕ} {i r q : ℕ} (n left : ℕ) → 0 < left → 10 ≤ n
    → Written t i (digits_within (left - 1) (n / 10)) u r → Written u r ((48 + n % 10) ∷ []) w q → Written t i (digits_within left n) w q
unfolding digits_within
last_digit n zero l h p s = let z : ⊥ = omega arith in absurd z
last_digit {t} {u} {w} {i} {r} {q} n (suc left) l h p s =
    let e : suc left - 1 ≡ left = omega arith in
    let f : Written t i (digits_within left (n / 10)) u r = rw e at p in
    rw (le-ltb n 10 h) (written_then f s)

-- rows or records one behind the other
entries_snoc : (entries : List ℕ) (entry : ℕ) → entries_text (entries ++ (entry ∷ [])) ≡ entries_text entries ++ entry_text entry
unfolding entries_text
entries_snoc [] entry = append-nil (entry_text entry)
entries_snoc (e ∷ entries) entry =
    ap (λ (l : List ℕ). entry_text e ++ l) (entries_snoc entries entry) ∙ sym (append_assoc (entry_text e) (entries_text entries) (entry_text entry))

pub no_entries : (t : List ℕ) (i : ℕ) (entries : List ℕ) → Written t i (entries_text (take 0 entries)) t i
unfolding entries_text
no_entries t i entries = written_none t i

pub next_entry : {t u w : List ℕ} {at end r : ℕ} (i : ℕ) (entries : List ℕ) → i < length entries →
    Written t at (entries_text (take i entries)) u end → Written u end (entry_text (get_or entries i 0)) w r → Written t at (entries_text (take (i + 1) entries)) w r
next_entry i entries h p q =
    let e : take (i + 1) entries ≡ take i entries ++ (get_or entries i 0 ∷ []) = rw (add-one i) (take-suc entries i 0 h) in
    written_as (written_then p q) (sym (ap entries_text e ∙ entries_snoc (take i entries) (get_or entries i 0)))
