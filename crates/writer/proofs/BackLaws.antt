-- Reading back what was written, piece by piece: the settings, a variant's and a part's body, and the letters of a sequence. What both editions have is read back once;
-- edition 2's `letters` and record number stand behind it. Assumes nothing.
use Prim.Native.Nat.{ℕ, zero, suc, ◌+◌, ◌-◌, ◌*◌, ◌/◌, ◌%◌, ◌≤◌, ◌<◌}
use native.Mathlib.Omega.{arith}
use mathlib.Core.Path.{◌≡◌, refl, sym, ap, ◌∙◌}
use mathlib.Core.Bool.{true, false}
use mathlib.Core.List.{List, [], ◌∷◌, ◌++◌, append_assoc}
use mathlib.Core.Logic.{⊎_elim}
use lib.Dec.{T, ltb, eqb}
use lib.ListN.{length, get_or, drop, length-drop}
use lib.Seq.{get_or-append-add, get_or-drop, drop_at}
use lib.Ieee.{Float, binary32, fits, to_bits}
use lib.Ieee.Bits.{of_bits-to_bits, to_bits-lt}
use borrow.Author.Tests.{ltb-true, ltb-false}
use Rattle.params.specs.declared.Settings.{Settings}
use Rattle.fields.specs.Fields.{le2, le4, le8, signed_of, word_of, bytes2, bytes4, bytes8}
use Rattle.form.specs.Settings40.{settings_in, settings_bytes, number_bytes, float_bytes}
use Rattle.form.specs.Settings41.{settings41_in, settings41_bytes}
use Rattle.form.specs.Form.{body_len, count_of}
use Rattle.form.specs.Job.{Variant, Part, letters_in, letters_after, settings_by, variant_of, part_of, padded, letters_records, records_for, sequence_bytes, part_body, variant_body}
use Rattle.form.specs.declared.records.Edition.{Edition}
use Rattle.form.specs.declared.records.Edition.TheVariants.{One, Two}
use Rattle.writer.specs.Steps.{number_tail}
use Rattle.writer.specs.Holds.{SettingsHold, LettersHold, VariantHolds, PartHolds}
use Rattle.fields.proofs.FieldLaws.{four_back, eight_back, bits_fit, signed_back}
use Rattle.form.proofs.SettingsLaws.{flag_back}
use Rattle.form.proofs.FormLaws.{split}
use Rattle.writer.proofs.WriteLaws.{long_padded, padded_at}
use Rattle.writer.proofs.EditionLaws.{settings_body, variant_record_by, numbered_body, long_variant_body, variant_count}

-- ---- the settings
float_lt : (x : Float) → T (fits binary32 x) → to_bits binary32 x < 4294967296
float_lt x h = to_bits-lt binary32 x h

-- the same settings with another `letters`
abbrev with_letters : ℕ → Settings → Settings
with_letters n s = record {
  k = s.k;
  squish = s.squish;
  one_to_one = s.one_to_one;
  full = s.full;
  maxpaths = s.maxpaths;
  maxnodes = s.maxnodes;
  fnmax = s.fnmax;
  pileupmax = s.pileupmax;
  minkfreq = s.minkfreq;
  letters = n;
  sizesim = s.sizesim;
  seqsim = s.seqsim;
  fpenalty = s.fpenalty;
  gpenalty = s.gpenalty;
}

old_back : (s : Settings) → SettingsHold s → (r : List ℕ) → settings_in (settings_bytes s ++ r) ≡ with_letters 0 s
unfolding settings_in settings_bytes number_bytes float_bytes le4 le2 bytes4 bytes2
old_back s h r = rw (
  flag_back s.squish,
  flag_back s.one_to_one,
  flag_back s.full,
  four_back s.maxpaths h.maxpaths,
  four_back s.maxnodes h.maxnodes,
  four_back s.fnmax h.fnmax,
  four_back s.pileupmax h.pileupmax,
  four_back s.minkfreq h.minkfreq,
  four_back (to_bits binary32 s.sizesim) (float_lt s.sizesim h.sizesim),
  four_back (to_bits binary32 s.seqsim) (float_lt s.seqsim h.seqsim),
  four_back (to_bits binary32 s.fpenalty) (float_lt s.fpenalty h.fpenalty),
  four_back (to_bits binary32 s.gpenalty) (float_lt s.gpenalty h.gpenalty),
  of_bits-to_bits binary32 s.sizesim h.sizesim,
  of_bits-to_bits binary32 s.seqsim h.seqsim,
  of_bits-to_bits binary32 s.fpenalty h.fpenalty,
  of_bits-to_bits binary32 s.gpenalty h.gpenalty,
)

letters_there : (s : Settings) (r : List ℕ) → get_or (settings_bytes s ++ (s.letters ∷ r)) 40 0 ≡ s.letters
unfolding settings_bytes number_bytes float_bytes bytes4 bytes2
letters_there s r = refl

pub settings_back : (e : Edition) (s : Settings) → SettingsHold s → LettersHold e s.letters → (r : List ℕ) → settings_by e (settings_body e s ++ r) ≡ s
unfolding settings_by settings41_in settings41_bytes
settings_back One s h none r = old_back s h r ∙ ap (λ (n : ℕ). with_letters n s) (sym none)
settings_back Two s h flag r =
    ap settings41_in (append_assoc (settings_bytes s) (s.letters ∷ []) r)
    ∙ (λ i. with_letters (letters_there s r i) (old_back s h (s.letters ∷ r) i))

-- ---- letters
left_at : (xs ys : List ℕ) (i : ℕ) → i < length xs → get_or (xs ++ ys) i 0 ≡ get_or xs i 0
left_at [] ys i h = let z : ⊥ = omega arith in absurd z
left_at (x ∷ xs) ys zero h = refl
left_at (x ∷ xs) ys (suc i) h = left_at xs ys i (omega arith)

letter_back : (n : ℕ) (l r : List ℕ) (j : ℕ) → length l ≤ 16 * n → j < length l → get_or (letters_records n l ++ r) (1 + j + j / 16) 0 ≡ get_or l j 0
unfolding letters_records
letter_back zero l r j h g = let z : ⊥ = omega arith in absurd z
letter_back (suc n) l r j h g = ⊎_elim
    (λ (t : ltb j 16 ≡ true).
    let k : j < 16 = ltb-true _ _ t in
    let e : 1 + j + j / 16 ≡ suc j = omega arith in
    let k' : j < length (padded l) = rw (long_padded l) k in
    ap (λ (i : ℕ). get_or (4 ∷ ((padded l ++ letters_records n (drop 16 l)) ++ r)) i 0) e
    ∙ ap (λ (q : List ℕ). get_or q j 0) (append_assoc (padded l) (letters_records n (drop 16 l)) r)
    ∙ left_at (padded l) (letters_records n (drop 16 l) ++ r) j k' ∙ padded_at l j k)
    (λ (t : ltb j 16 ≡ false).
    let k : 16 ≤ j = ltb-false _ _ t in
    let i : ℕ = j - 16 in
    let e : 1 + j + j / 16 ≡ suc (16 + (1 + i + i / 16)) = omega arith in
    let f : 16 + i ≡ j = omega arith in
    let d = length-drop 16 l in
    ap (λ (m : ℕ). get_or (4 ∷ ((padded l ++ letters_records n (drop 16 l)) ++ r)) m 0) e
    ∙ ap (λ (q : List ℕ). get_or q (16 + (1 + i + i / 16)) 0) (append_assoc (padded l) (letters_records n (drop 16 l)) r)
    ∙ ap (λ (m : ℕ). get_or (padded l ++ (letters_records n (drop 16 l) ++ r)) (m + (1 + i + i / 16)) 0) (sym (long_padded l))
    ∙ get_or-append-add (padded l) (letters_records n (drop 16 l) ++ r) (1 + i + i / 16) 0
    ∙ letter_back n (drop 16 l) r i (omega (arith, d)) (omega (arith, d))
    ∙ get_or-drop 16 l i 0 ∙ ap (λ (m : ℕ). get_or l m 0) f)
    (split (ltb j 16))

letters_from : (b l : List ℕ) (i : ℕ) → ((j : ℕ) → j < length l → get_or b (1 + (i + j) + (i + j) / 16) 0 ≡ get_or l j 0) → letters_in b i (length l) ≡ l
unfolding letters_in
letters_from b [] i h = refl
letters_from b (x ∷ l) i h =
    let z : i + 0 ≡ i = omega arith in
    let first : get_or b (1 + i + i / 16) 0 ≡ x = ap (λ (m : ℕ). get_or b (1 + m + m / 16) 0) (sym z) ∙ h 0 (omega arith) in
    let rest : letters_in b (suc i) (length l) ≡ l = letters_from b l (suc i) (λ (j : ℕ) (g : j < length l).
    let e : suc i + j ≡ i + suc j = omega arith in
    ap (λ (m : ℕ). get_or b (1 + m + m / 16) 0) e ∙ h (suc j) (omega arith)) in
    rw (first, rest)

pub letters_back : (l r : List ℕ) → letters_in (sequence_bytes l ++ r) 0 (length l) ≡ l
unfolding sequence_bytes
letters_back l r = letters_from (letters_records (records_for (length l)) l ++ r) l 0 (λ (j : ℕ) (g : j < length l).
    let e : 0 + j ≡ j = omega arith in
    ap (λ (m : ℕ). get_or (letters_records (records_for (length l)) l ++ r) (1 + m + m / 16) 0) e
    ∙ letter_back (records_for (length l)) l r j (let k : length l ≤ 16 * ((length l + 15) / 16) = omega arith in k) g)

-- ---- a variant and a part
variant_letters_lem : (e : Edition) (number : ℕ) (x : Variant) → VariantHolds x → (r : List ℕ)
    → letters_after (variant_record_by e) (numbered_body e number x.start x.end x.size x.negative (length x.letters) ++ (sequence_bytes x.letters ++ r)) ≡ x.letters
unfolding letters_after
variant_letters_lem e number x h r =
    let body : List ℕ = numbered_body e number x.start x.end x.size x.negative (length x.letters) in
    let n : length x.letters < 4294967296 = omega (arith, h.letters) in
    rw (
      variant_count e number x.start x.end x.size x.negative (length x.letters) (sequence_bytes x.letters ++ r) n,
      drop_at body (sequence_bytes x.letters ++ r) (body_len (variant_record_by e)) (long_variant_body e number x.start x.end x.size x.negative (length x.letters)),
    ) (letters_back x.letters r)

-- the fields that stand where edition 1 has them, with whatever behind them
old_fields : (x : Variant) → VariantHolds x → (l r : List ℕ) → l ≡ x.letters
    → let b = variant_body x.start x.end x.size x.negative (length x.letters) ++ r in
    ◌≡◌ {A = Variant} (record { start = le8 b 0; end = le8 b 8; size = signed_of (le4 b 16); negative = eqb (get_or b 20 0) 1; letters = l }) x
unfolding variant_body part_body le8 le4 le2 bytes8 bytes4 bytes2
old_fields x h l r same =
    let lo : x.start % 4294967296 < 4294967296 = omega arith in
    let hi : x.start / 4294967296 < 4294967296 = omega (arith, h.start) in
    let lo' : x.end % 4294967296 < 4294967296 = omega arith in
    let hi' : x.end / 4294967296 < 4294967296 = omega (arith, h.end) in
    rw (
      four_back (x.start % 4294967296) lo,
      four_back (x.start / 4294967296) hi,
      eight_back x.start _ _ h.start refl refl,
      four_back (x.end % 4294967296) lo',
      four_back (x.end / 4294967296) hi',
      eight_back x.end _ _ h.end refl refl,
      four_back (word_of x.size) (bits_fit x.size h.size),
      signed_back x.size h.size,
      flag_back x.negative,
      same,
    )

pub variant_back : (e : Edition) (number : ℕ) (x : Variant) → VariantHolds x → (r : List ℕ)
    → variant_of (variant_record_by e) (numbered_body e number x.start x.end x.size x.negative (length x.letters) ++ (sequence_bytes x.letters ++ r)) ≡ x
unfolding variant_of variant_body part_body bytes8 bytes4 bytes2
variant_back e number x h r = old_fields x h _ (number_tail e number ++ (sequence_bytes x.letters ++ r)) (variant_letters_lem e number x h r)

pub part_back : (x : Part) → PartHolds x → (r : List ℕ)
    → part_of (part_body x.size x.negative (length x.letters) ++ (sequence_bytes x.letters ++ r)) ≡ x
unfolding part_of letters_after count_of body_len part_body le4 le2 bytes4 bytes2
part_back x h r =
    let n : length x.letters < 4294967296 = omega (arith, h.letters) in
    rw (
      four_back (word_of x.size) (bits_fit x.size h.size),
      signed_back x.size h.size,
      flag_back x.negative,
      four_back (length x.letters) n,
      letters_back x.letters r,
    )
