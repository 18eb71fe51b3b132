-- Rows written one behind the other: a row's record and letters, then the rest, are the bytes of the rows from there on. Assumes nothing.
use Prim.Native.Nat.{ℕ, suc, ◌+◌, ◌-◌, ◌*◌, ◌≤◌, ◌<◌}
use native.Mathlib.Omega.{arith}
use native.Mathlib.Numerals.{add-one}
use mathlib.Core.Path.{◌≡◌, refl, sym, ap, subst, ◌∙◌}
use mathlib.Core.Bool.{Bool, false}
use mathlib.Core.List.{List, [], ◌∷◌, ◌++◌}
use lib.IntN.{ℤ, pos}
use lib.ListN.{length, get_or, drop, length-append}
use lib.Seq.{sets, slice, length-slice, get_or-drop, drop-drop}
use Rattle.fields.specs.Fields.{bytes2, bytes4}
use Rattle.form.specs.Job.{records_for, sequence_bytes, part_body, variant_record, variant_bytes, part_bytes, variants_bytes, parts_bytes}
use Rattle.form.specs.Lent.{sum}
use Rattle.writer.specs.Writing.{variants_from, parts_from}
use Rattle.form.specs.declared.records.Edition.{Edition}
use Rattle.writer.specs.Steps.{variant_size, Put, VariantsFit, PartsFit}
use Rattle.fields.proofs.FieldLaws.{sets_append, join}
use Rattle.form.proofs.GatherLaws.{sum_next}
use Rattle.writer.proofs.WriteLaws.{long_records}
use Rattle.writer.proofs.EditionLaws.{long_variant}

pub long_sequence : (letters : List ℕ) (p c : ℕ) → p + c ≤ length letters → length (sequence_bytes (slice p (p + c) letters)) ≡ 17 * records_for c
unfolding sequence_bytes
long_sequence letters p c h =
    let e : p + c - p ≡ c = omega arith in
    long_records (records_for (length (slice p (p + c) letters))) (slice p (p + c) letters) ∙ ap (λ (n : ℕ). 17 * records_for n) (length-slice p (p + c) letters h ∙ e)

-- a record and its letters are stored, and the rest will be
module _ (out m u : List ℕ) (a b h : ℕ) (xs ys rest : List ℕ) (long : length xs ≡ h) (head : m ≡ sets out a xs) (tail : Put m u (a + h) b ys) where
  stored : u ≡ sets out a (xs ++ ys)
  stored = join out m u a (a + h) xs ys (ap (λ (n : ℕ). a + n) long) head tail.is

  behind : b ≡ a + length (xs ++ ys)
  behind = let e = length-append xs ys in omega (arith, e, long, tail.next)

  item_more : sets u b rest ≡ sets out a ((xs ++ ys) ++ rest)
  item_more = rw (stored, behind) (sym (sets_append out a (xs ++ ys) rest))

  item_long : b + length rest ≡ a + length ((xs ++ ys) ++ rest)
  item_long = let e = length-append (xs ++ ys) rest in omega (arith, e, behind)

-- what holds before a row is written
pub record Turn (counts letters : List ℕ) (room a p r whole h : ℕ) : Type 0 where
  pub letters_there : p + get_or counts r 0 ≤ length letters
  pub room_there : a + h + 17 * records_for (get_or counts r 0) ≤ room
  pub room_again : a + h + 17 * records_for (p + get_or counts r 0 - p) ≤ room
  pub sums_are : p + get_or counts r 0 + sum (drop (r + 1) counts) ≡ whole

module _ (e : Edition) (numbers starts ends : List ℕ) (sizes : List ℤ) (negatives : List Bool) (counts letters : List ℕ) where
  abbrev pub variants_at : ℕ → ℕ → List ℕ
  variants_at r p = variants_bytes e (drop r numbers) (variants_from starts ends sizes negatives counts letters r p (length starts - r))

  pub variants_whole : variants_at 0 0 ≡ variants_bytes e numbers (variants_from starts ends sizes negatives counts letters 0 0 (length starts))
  variants_whole = let n : length starts - 0 ≡ length starts = omega arith in rw n

  pub variants_none : (r p : ℕ) → length starts ≤ r → variants_at r p ≡ []
  unfolding variants_bytes variants_from
  variants_none r p h = let n : length starts - r ≡ 0 = omega arith in rw n

  abbrev head_at : ℕ → List ℕ
  head_at r = variant_record e (get_or numbers r 0) (get_or starts r 0) (get_or ends r 0) (get_or sizes r (pos 0)) (get_or negatives r false) (get_or counts r 0)

  long_head : (r : ℕ) → length (head_at r) ≡ variant_size e
  long_head r = long_variant e (get_or numbers r 0) (get_or starts r 0) (get_or ends r 0) (get_or sizes r (pos 0)) (get_or negatives r false) (get_or counts r 0)

  -- a row has the record number in its place
  number_here_lem : (r : ℕ) → get_or (drop r numbers) 0 0 ≡ get_or numbers r 0
  number_here_lem r = let z : r + 0 ≡ r = omega arith in get_or-drop r numbers 0 0 ∙ ap (λ (i : ℕ). get_or numbers i 0) z

  module _ (r p : ℕ) (inside : r < length starts) (fits : p + get_or counts r 0 ≤ length letters) where
    step : variants_at r p ≡ (head_at r ++ sequence_bytes (slice p (p + get_or counts r 0) letters)) ++ variants_at (r + 1) (p + get_or counts r 0)
    unfolding variants_bytes variants_from variant_bytes
    step =
        let n : length starts - r ≡ suc (length starts - suc r) = omega arith in
        let d : p + get_or counts r 0 - p ≡ get_or counts r 0 = omega arith in
        let l : length (slice p (p + get_or counts r 0) letters) ≡ get_or counts r 0 = length-slice p (p + get_or counts r 0) letters fits ∙ d in
        rw (sym (drop-drop 1 r numbers), add-one r, n, l, number_here_lem r)

    pub variants_more : (out m u : List ℕ) (a b number head : ℕ) (z : ℤ) → number ≡ get_or numbers r 0 → head ≡ variant_size e → z ≡ get_or sizes r (pos 0)
        → m ≡ sets out a (variant_record e number (get_or starts r 0) (get_or ends r 0) z (get_or negatives r false) (get_or counts r 0))
        → Put m u (a + head) b (sequence_bytes (slice p (p + get_or counts r 0) letters))
        → (sets u b (variants_at (r + 1) (p + get_or counts r 0)) ≡ sets out a (variants_at r p))
        × (b + length (variants_at (r + 1) (p + get_or counts r 0)) ≡ a + length (variants_at r p))
    variants_more out m u a b number head z same_number size same f g =
        let f' : m ≡ sets out a (head_at r) = f ∙ (λ i. sets out a (variant_record e (same_number i) (get_or starts r 0) (get_or ends r 0) (same i) (get_or negatives r false) (get_or counts r 0))) in
        let long : length (head_at r) ≡ head = long_head r ∙ sym size in (
          item_more out m u a b head (head_at r) _ (variants_at (r + 1) (p + get_or counts r 0)) long f' g ∙ ap (sets out a) (sym step),
          item_long out m u a b head (head_at r) _ (variants_at (r + 1) (p + get_or counts r 0)) long f' g ∙ ap (λ (l : List ℕ). a + length l) (sym step),
        )

  pub variants_turn : (at room a p r head : ℕ) → head ≡ variant_size e → VariantsFit e numbers starts ends sizes negatives counts letters at room → r < length starts
      → a + length (variants_at r p) ≡ at + length (variants_at 0 0) → p + sum (drop r counts) ≡ sum counts
      → Turn counts letters room a p r (sum counts) head
  variants_turn at room a p r head size fit h long sums =
      let c : ℕ = get_or counts r 0 in
      let g : r < length counts = omega (arith, fit.counts_are, h) in
      let s = sum_next counts r g in
      let l : p + c ≤ length letters = omega (arith, s, sums, fit.letters_are) in
      let x = ap length (step r p h l) in
      let y = length-append (head_at r ++ sequence_bytes (slice p (p + c) letters)) (variants_at (r + 1) (p + c)) in
      let z = length-append (head_at r) (sequence_bytes (slice p (p + c) letters)) in
      let w = long_sequence letters p c l in
      let v = long_head r in
      let q = ap length variants_whole in
      let d : p + c - p ≡ c = omega arith in
      let k : a + head + 17 * records_for c ≤ room = omega (arith, x, y, z, w, v, q, long, size, fit.fits) in
      record { letters_there = l; room_there = k; room_again = subst (λ (n : ℕ). a + head + 17 * records_for n ≤ room) (sym d) k; sums_are = omega (arith, s, sums) }

-- the parts of the rows up to `end`
module _ (sizes : List ℤ) (negatives : List Bool) (counts letters : List ℕ) (end : ℕ) where
  abbrev pub parts_at : ℕ → ℕ → List ℕ
  parts_at r p = parts_bytes (parts_from sizes negatives counts letters r p (end - r))

  pub parts_none : (r p : ℕ) → end ≤ r → parts_at r p ≡ []
  unfolding parts_bytes parts_from
  parts_none r p h = let e : end - r ≡ 0 = omega arith in rw e

  abbrev part_at : ℕ → List ℕ
  part_at r = 3 ∷ part_body (get_or sizes r (pos 0)) (get_or negatives r false) (get_or counts r 0)

  long_part : (r : ℕ) → length (part_at r) ≡ 10
  unfolding part_body bytes4 bytes2
  long_part r = refl

  module _ (r p : ℕ) (inside : r < end) (fits : p + get_or counts r 0 ≤ length letters) where
    part_step : parts_at r p ≡ (part_at r ++ sequence_bytes (slice p (p + get_or counts r 0) letters)) ++ parts_at (r + 1) (p + get_or counts r 0)
    unfolding parts_bytes parts_from part_bytes
    part_step =
        let n : end - r ≡ suc (end - suc r) = omega arith in
        let e : p + get_or counts r 0 - p ≡ get_or counts r 0 = omega arith in
        let l : length (slice p (p + get_or counts r 0) letters) ≡ get_or counts r 0 = length-slice p (p + get_or counts r 0) letters fits ∙ e in
        rw (add-one r, n, l)

    pub parts_more : (out m u : List ℕ) (a b : ℕ) (z : ℤ) → z ≡ get_or sizes r (pos 0)
        → m ≡ sets out a (3 ∷ part_body z (get_or negatives r false) (get_or counts r 0))
        → Put m u (a + 10) b (sequence_bytes (slice p (p + get_or counts r 0) letters))
        → (sets u b (parts_at (r + 1) (p + get_or counts r 0)) ≡ sets out a (parts_at r p))
        × (b + length (parts_at (r + 1) (p + get_or counts r 0)) ≡ a + length (parts_at r p))
    parts_more out m u a b z e f g =
        let f' : m ≡ sets out a (part_at r) = f ∙ ap (λ (y : ℤ). sets out a (3 ∷ part_body y (get_or negatives r false) (get_or counts r 0))) e in (
          item_more out m u a b 10 (part_at r) _ (parts_at (r + 1) (p + get_or counts r 0)) (long_part r) f' g ∙ ap (sets out a) (sym part_step),
          item_long out m u a b 10 (part_at r) _ (parts_at (r + 1) (p + get_or counts r 0)) (long_part r) f' g ∙ ap (λ (l : List ℕ). a + length l) (sym part_step),
        )

  pub parts_turn : (from first at room a p r : ℕ) → PartsFit sizes negatives counts letters from first end at room → r < end
      → a + length (parts_at r p) ≡ at + length (parts_at first from) → p + sum (drop r counts) ≡ length letters
      → Turn counts letters room a p r (length letters) 10
  parts_turn from first at room a p r fit h long sums =
      let c : ℕ = get_or counts r 0 in
      let g : r < length counts = omega (arith, fit.counts_are, fit.end_in, h) in
      let s = sum_next counts r g in
      let l : p + c ≤ length letters = omega (arith, s, sums) in
      let x = ap length (part_step r p h l) in
      let y = length-append (part_at r ++ sequence_bytes (slice p (p + c) letters)) (parts_at (r + 1) (p + c)) in
      let z = length-append (part_at r) (sequence_bytes (slice p (p + c) letters)) in
      let w = long_sequence letters p c l in
      let v = long_part r in
      let e : p + c - p ≡ c = omega arith in
      let k : a + 10 + 17 * records_for c ≤ room = omega (arith, x, y, z, w, v, long, fit.fits) in
      record { letters_there = l; room_there = k; room_again = subst (λ (n : ℕ). a + 10 + 17 * records_for n ≤ room) (sym e) k; sums_are = omega (arith, s, sums) }
