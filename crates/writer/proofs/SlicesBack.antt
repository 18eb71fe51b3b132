-- The job that lent slices hold gives them back: row r of it has what stands at r in each slice, and the letters of its rows, one behind
-- the other, are all the letters, since the counts sum to their number; where its haplotypes begin is where the parts were cut. Assumes nothing.
use Prim.Native.Nat.{ℕ, zero, suc, ◌+◌, ◌-◌, ◌≤◌, ◌<◌}
use native.Mathlib.Omega.{arith}
use native.Mathlib.Numerals.{add-one}
use mathlib.Core.Path.{◌≡◌, refl, sym, ap, ◌∙◌}
use mathlib.Core.Bool.{true, false}
use mathlib.Core.List.{List, [], ◌∷◌, ◌++◌, map, flatten, append_assoc, append-nil}
use lib.IntN.{pos}
use lib.ListN.{length, get_or, drop, take-append-drop, drop_of_length-le}
use lib.Seq.{slice, drop-cons, drop-length, length-slice}
use Rattle.params.specs.declared.Settings.{Settings}
use Rattle.form.specs.Job.{Variant, Part}
use Rattle.form.specs.Lent.{Lent, variant_letters, part_letters, breaks_of, job_counts}
use Rattle.metrics.specs.Placed.{placed}
use Rattle.reader.specs.Reading.{lent_with}
use Rattle.form.specs.Lent.{sum}
use Rattle.writer.specs.Writing.{agree, variants_from, parts_from, cut_at, job_from}
use Rattle.writer.specs.RoundTrip.{laid_over, lent_counts}
use Rattle.form.proofs.GatherLaws.{sum_next}
use Rattle.writer.proofs.CutLaws.{flat_cut, breaks_back}
use Rattle.writer.proofs.JobLaws.{Agreed, agreed}

slice_rest : (p q : ℕ) (l : List ℕ) → p ≤ q → slice p q l ++ drop q l ≡ drop p l
slice_rest zero q l h = take-append-drop q l
slice_rest (suc p) zero l h = let z : ⊥ = omega arith in absurd z
slice_rest (suc p) (suc q) [] h = refl
slice_rest (suc p) (suc q) (x ∷ l) h = slice_rest p q l (omega arith)

-- ---- What n rows from row r on, whose letters begin at p, have in one field: `column r p n`. Variants and parts alike.
module _ (counts : List ℕ) where
  field_back : {B : Type 0} (d : B) (xs : List B) (column : ℕ → ℕ → ℕ → List B) → ((r p : ℕ) → column r p 0 ≡ [])
      → ((r p n : ℕ) → column r p (suc n) ≡ get_or xs r d ∷ column (suc r) (p + get_or counts r 0) n)
      → (n r p : ℕ) → r + n ≡ length xs → column r p n ≡ drop r xs
  field_back d xs column none more zero r p e = let h : length xs ≤ r = omega arith in none r p ∙ sym (drop_of_length-le xs h)
  field_back {B} d xs column none more (suc n) r p e =
      let h : r < length xs = omega arith in
      more r p n ∙ ap (λ (l : List B). get_or xs r d ∷ l) (field_back d xs column none more n (suc r) (p + get_or counts r 0) (omega arith)) ∙ sym (drop-cons xs r d h)

  module _ (letters : List ℕ) (column : ℕ → ℕ → ℕ → List ℕ) (none : (r p : ℕ) → column r p 0 ≡ []) where
    lengths_back : ((r p n : ℕ) → column r p (suc n) ≡ length (slice p (p + get_or counts r 0) letters) ∷ column (suc r) (p + get_or counts r 0) n)
        → (n r p : ℕ) → r + n ≡ length counts → p + sum (drop r counts) ≤ length letters → column r p n ≡ drop r counts
    lengths_back more zero r p e f = let h : length counts ≤ r = omega arith in none r p ∙ sym (drop_of_length-le counts h)
    lengths_back more (suc n) r p e f =
        let h : r < length counts = omega arith in
        let s = rw (add-one r) at (sum_next counts r h) in
        let c : ℕ = get_or counts r 0 in
        let l : p + c ≤ length letters = omega arith in
        let k : p + c - p ≡ c = omega arith in
        more r p n ∙ rw (length-slice p (p + c) letters l, k)
        (ap (λ (ns : List ℕ). c ∷ ns) (lengths_back more n (suc r) (p + c) (omega arith) (omega arith)) ∙ sym (drop-cons counts r 0 h))

    -- the letters of the rows, and those behind them, are all from p on
    letters_and_rest : ((r p n : ℕ) → column r p (suc n) ≡ slice p (p + get_or counts r 0) letters ++ column (suc r) (p + get_or counts r 0) n)
        → (n r p : ℕ) → r + n ≡ length counts → column r p n ++ drop (p + sum (drop r counts)) letters ≡ drop p letters
    unfolding sum
    letters_and_rest more zero r p e =
        let h : length counts ≤ r = omega arith in
        let z : p + 0 ≡ p = omega arith in
        rw (none r p, drop_of_length-le counts h, z)
    letters_and_rest more (suc n) r p e =
        let h : r < length counts = omega arith in
        let c : ℕ = get_or counts r 0 in
        let s : p + sum (drop r counts) ≡ p + c + sum (drop (suc r) counts) = omega (arith, rw (add-one r) at (sum_next counts r h)) in
        rw (more r p n, s)
        (append_assoc (slice p (p + c) letters) (column (suc r) (p + c) n) (drop (p + c + sum (drop (suc r) counts)) letters)
        ∙ ap (λ (l : List ℕ). slice p (p + c) letters ++ l) (letters_and_rest more n (suc r) (p + c) (omega arith))
        ∙ slice_rest p (p + c) letters (omega arith))

-- ---- the ten slices
module _ (t : Lent) (a : Agreed t) where
  abbrev variants_on : ℕ → ℕ → ℕ → List Variant
  variants_on r p n = variants_from t.starts t.ends t.sizes t.negatives t.counts t.letters r p n

  abbrev parts_on : ℕ → ℕ → ℕ → List Part
  parts_on r p n = parts_from t.part_sizes t.part_negatives t.part_counts t.letters r p n

  abbrev vs : List Variant
  vs = variants_on 0 0 (length t.starts)

  abbrev ps : List Part
  ps = parts_on 0 (sum t.counts) (length t.part_sizes)

  abbrev hs : List (List Part)
  hs = cut_at 0 t.breaks ps

  -- the haplotypes, one behind the other, are the parts
  all_parts_lem : flatten hs ≡ ps
  all_parts_lem = flat_cut 0 t.breaks ps

  long_variants : (n r p : ℕ) → length (variants_on r p n) ≡ n
  unfolding variants_from
  long_variants zero r p = refl
  long_variants (suc n) r p = ap suc (long_variants n (suc r) (p + get_or t.counts r 0))

  long_parts : (n r p : ℕ) → length (parts_on r p n) ≡ n
  unfolding parts_from
  long_parts zero r p = refl
  long_parts (suc n) r p = ap suc (long_parts n (suc r) (p + get_or t.part_counts r 0))

  breaks_are : breaks_of hs ≡ t.breaks
  breaks_are = breaks_back t.breaks ps (rw (long_parts (length t.part_sizes) 0 (sum t.counts)) a.breaks)

  starts_back : map (λ (x : Variant). x.start) vs ≡ t.starts
  unfolding variants_from
  starts_back = field_back t.counts 0 t.starts (λ r p n. map (λ (x : Variant). x.start) (variants_on r p n)) (λ r p. refl) (λ r p n. refl)
      (length t.starts) 0 0 (omega arith)

  ends_back : map (λ (x : Variant). x.end) vs ≡ t.ends
  unfolding variants_from
  ends_back = field_back t.counts 0 t.ends (λ r p n. map (λ (x : Variant). x.end) (variants_on r p n)) (λ r p. refl) (λ r p n. refl)
      (length t.starts) 0 0 (let e = a.ends in omega arith)

  sizes_back : map (λ (x : Variant). x.size) vs ≡ t.sizes
  unfolding variants_from
  sizes_back = field_back t.counts (pos 0) t.sizes (λ r p n. map (λ (x : Variant). x.size) (variants_on r p n)) (λ r p. refl) (λ r p n. refl)
      (length t.starts) 0 0 (let e = a.sizes in omega arith)

  negatives_back : map (λ (x : Variant). x.negative) vs ≡ t.negatives
  unfolding variants_from
  negatives_back = field_back t.counts false t.negatives (λ r p n. map (λ (x : Variant). x.negative) (variants_on r p n)) (λ r p. refl) (λ r p n. refl)
      (length t.starts) 0 0 (let e = a.negatives in omega arith)

  letter_counts_back : map (λ (x : Variant). length x.letters) vs ≡ t.counts
  unfolding variants_from
  letter_counts_back = lengths_back t.counts t.letters (λ r p n. map (λ (x : Variant). length x.letters) (variants_on r p n)) (λ r p. refl) (λ r p n. refl)
      (length t.starts) 0 0 (let e = a.counts in omega arith) (let e = a.letters in omega arith)

  part_sizes_back : map (λ (x : Part). x.size) (flatten hs) ≡ t.part_sizes
  unfolding parts_from
  part_sizes_back = ap (map (λ (x : Part). x.size)) all_parts_lem
      ∙ field_back t.part_counts (pos 0) t.part_sizes (λ r p n. map (λ (x : Part). x.size) (parts_on r p n)) (λ r p. refl) (λ r p n. refl)
      (length t.part_sizes) 0 (sum t.counts) (omega arith)

  part_negatives_back : map (λ (x : Part). x.negative) (flatten hs) ≡ t.part_negatives
  unfolding parts_from
  part_negatives_back = ap (map (λ (x : Part). x.negative)) all_parts_lem
      ∙ field_back t.part_counts false t.part_negatives (λ r p n. map (λ (x : Part). x.negative) (parts_on r p n)) (λ r p. refl) (λ r p n. refl)
      (length t.part_sizes) 0 (sum t.counts) (let e = a.part_negatives in omega arith)

  part_letter_counts_back : map (λ (x : Part). length x.letters) (flatten hs) ≡ t.part_counts
  unfolding parts_from
  part_letter_counts_back = ap (map (λ (x : Part). length x.letters)) all_parts_lem
      ∙ lengths_back t.part_counts t.letters (λ r p n. map (λ (x : Part). length x.letters) (parts_on r p n)) (λ r p. refl) (λ r p n. refl)
      (length t.part_sizes) 0 (sum t.counts) (let e = a.part_counts in omega arith) (let e = a.letters in omega arith)

  variant_letters_lem : variant_letters vs ++ drop (0 + sum t.counts) t.letters ≡ t.letters
  unfolding variants_from variant_letters
  variant_letters_lem = letters_and_rest t.counts t.letters (λ r p n. variant_letters (variants_on r p n)) (λ r p. refl) (λ r p n. refl)
      (length t.starts) 0 0 (let e = a.counts in omega arith)

  part_letters_lem : part_letters ps ++ drop (sum t.counts + sum t.part_counts) t.letters ≡ drop (sum t.counts) t.letters
  unfolding parts_from part_letters
  part_letters_lem = letters_and_rest t.part_counts t.letters (λ r p n. part_letters (parts_on r p n)) (λ r p. refl) (λ r p n. refl)
      (length t.part_sizes) 0 (sum t.counts) (let e = a.part_counts in omega arith)

  all_letters : variant_letters vs ++ part_letters (flatten hs) ≡ t.letters
  all_letters =
      let z : 0 + sum t.counts ≡ sum t.counts = omega arith in
      let none : drop (sum t.counts + sum t.part_counts) t.letters ≡ [] = rw (a.letters, drop-length t.letters) in
      let last : part_letters ps ≡ drop (sum t.counts) t.letters = sym (append-nil (part_letters ps)) ∙ rw none at part_letters_lem in
      rw (all_parts_lem, last) (rw z at variant_letters_lem)

pub slices_back : (s : Settings) (t u : Lent) → agree t ≡ true → lent_with (job_from s t) u ≡ laid_over u t
unfolding lent_with job_from laid_over
slices_back s t u h =
    let a = agreed t h in
    λ i. record {
      starts = placed u.starts (starts_back t a i);
      ends = placed u.ends (ends_back t a i);
      sizes = placed u.sizes (sizes_back t a i);
      negatives = placed u.negatives (negatives_back t a i);
      counts = placed u.counts (letter_counts_back t a i);
      part_sizes = placed u.part_sizes (part_sizes_back t a i);
      part_negatives = placed u.part_negatives (part_negatives_back t a i);
      part_counts = placed u.part_counts (part_letter_counts_back t a i);
      breaks = placed u.breaks (breaks_are t a i);
      letters = placed u.letters (all_letters t a i);
    }

pub counts_back : (s : Settings) (t : Lent) → agree t ≡ true → job_counts (job_from s t) ≡ lent_counts t
unfolding job_counts job_from lent_counts
counts_back s t h =
    let a = agreed t h in
    let all-long = ap length (all_parts_lem t a) ∙ long_parts t a (length t.part_sizes) 0 (sum t.counts) in
    λ i. record {
      variants = long_variants t a (length t.starts) 0 0 i;
      parts = all-long i;
      breaks = length (breaks_are t a i);
      letters = length (all_letters t a i);
    }
