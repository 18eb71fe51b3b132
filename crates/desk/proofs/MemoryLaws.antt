-- Slices that fit the program's tables, and what is printed for the job that they hold: the rows counted from its letters are its features.
use Prim.Native.Nat.{ℕ, ◌+◌, ◌*◌, ◌^◌, ◌≤◌, ◌<◌}
use native.Mathlib.Omega.{arith}
use native.Mathlib.Nat.{mul-le-mul_right, pow-le-pow_right, zero-add}
use mathlib.Core.Path.{◌≡◌, refl, sym, ap, ◌∙◌}
use mathlib.Core.Bool.{Bool, true, false, cond, ◌||◌}
use mathlib.Core.List.{List, [], ◌∷◌, ◌++◌, map, append_assoc}
use lib.Dec.{ltb, eqb}
use lib.IntN.{ℤ}
use lib.ListN.{length, take, length-append, length-map}
use lib.Seq.{take_at, drop_at, length-take-le}
use borrow.Author.Tests.{ltb-true, ltb-false, lt-ltb, le-ltb, ne_eqb}
use Rattle.metrics.specs.Letters.{entry_count}
use Rattle.metrics.proofs.Entries.{power}
use Rattle.params.specs.declared.Settings.{Settings}
use Rattle.params.specs.Numbers.{Table, Parts, table_of, parts_of}
use Rattle.form.specs.Job.{Variant, Part, Job, all_parts, Held}
use Rattle.form.specs.Lent.{Lent, lent, variant_letters, part_letters, letters_of, breaks_of}
use Rattle.form.specs.Lent.{sum}
use Rattle.text.specs.Text.{refused_text, answer_text}
use Rattle.desk.specs.Desk.{variant_features, part_features, table_of_job, parts_of_haplotype, many_parts, too_large, asked_of, haplotype_text, whole_fault, haplotypes_text, job_text, read_text}
use Rattle.desk.specs.Rows.{rows_from, RowsFit, RowsCounted}
use Rattle.desk.specs.Memory.{ends_of, overlong, stretches, BlocksFit, table_from, parts_from, limit_fault, lent_ends, held_fault, held_text, Fits}
use Rattle.desk.proofs.AnswerLaws.{fault_k_zero, refused_k_zero}
use Rattle.desk.proofs.StretchLaws.{overlong_is, rising_is, stretches_are}

-- the rows of 16 variants and of 128 parts fit their tables
variant_room : (n width : ℕ) → n ≤ 16 → width ≤ 256 → n * width ≤ 4096
variant_room n width h w = let a : n * width ≤ 16 * width = mul-le-mul_right width h in omega arith

part_room : (n width : ℕ) → n ≤ 128 → width ≤ 256 → n * width ≤ 32768
part_room n width h w = let a : n * width ≤ 128 * width = mul-le-mul_right width h in omega arith

module _ (reading k width : ℕ) (t : Lent) (fits : Fits reading t) (low : 1 ≤ k) (high : k ≤ 4) (is : width ≡ entry_count k) where
  pub power_is : width ≡ 4 ^ k
  power_is = is ∙ power k (omega arith)

  small : width ≤ 256
  small = rw power_is (pow-le-pow_right {n = 4} (omega arith) {j = 4} high)

  pub variants_end : length t.counts * width ≤ 4096
  variants_end = variant_room (length t.counts) width fits.variants small

  pub parts_end : length t.part_counts * width ≤ 32768
  parts_end = part_room (length t.part_counts) width fits.parts small

  pub variants_fit : (table : List ℤ) → 4096 ≡ length table → RowsFit reading k width t.negatives t.counts t.letters 0 table
  variants_fit table e =
      let a = variants_end in
      let b = fits.letters_end in
      record { known = fits.known; k_low = low; k_high = high; width_is = power_is; alike = fits.alike; letters_end = omega arith; few = fits.few; table_end = omega arith }

  pub parts_fit_lem : (table : List ℤ) → 32768 ≡ length table → (next : ℕ) → next ≡ 0 + sum t.counts → RowsFit reading k width t.part_negatives t.part_counts t.letters next table
  parts_fit_lem table e next n =
      let a = parts_end in
      let b = fits.letters_end in
      record { known = fits.known; k_low = low; k_high = high; width_is = power_is; alike = fits.part_alike; letters_end = omega arith; few = fits.few; table_end = omega arith }

  -- what is counted of the parts fits the blocks
  pub blocks_fit : (part-new : List ℤ) → length part-new ≡ 32768 →
      BlocksFit width (parts_of t.part_sizes (take (length t.part_counts * width) part-new)) t.breaks
  blocks_fit part-new e =
      let a = parts_end in
      let q = fits.sizes_alike in
      let r = fits.parts in
      let n : length (take (length t.part_counts * width) part-new) ≡ length t.part_counts * width = length-take-le (length t.part_counts * width) part-new (omega arith) in
      record {
        parts = omega arith;
        haplotypes = fits.haplotypes;
        rising = fits.rising;
        rows = n ∙ ap (λ (m : ℕ). m * width) (sym q);
        few = omega arith;
      }

-- the program's own limits, one by one
module _ (s : Settings) (long : Bool) where
  pub over_long : long ≡ true → 26 ≡ limit_fault long s
  unfolding limit_fault
  over_long l = rw l

  module _ (l : long ≡ false) where
    pub over_k : 4 < s.k → 26 ≡ limit_fault long s
    unfolding limit_fault
    over_k h = rw l (simp (lt-ltb _ _ h))

    module _ (k : s.k ≤ 4) where
      pub over_paths : 63 < s.maxpaths → 26 ≡ limit_fault long s
      unfolding limit_fault
      over_paths h = rw l (simp (le-ltb _ _ k, lt-ltb _ _ h))

      module _ (paths : s.maxpaths ≤ 63) where
        pub over_zero : s.k < 1 → 1 ≡ limit_fault long s
        unfolding limit_fault
        over_zero h = rw l (simp (le-ltb _ _ k, le-ltb _ _ paths, lt-ltb _ _ h))

        pub over_none : 1 ≤ s.k → 0 ≡ limit_fault long s
        unfolding limit_fault
        over_none h = rw l (simp (le-ltb _ _ k, le-ltb _ _ paths, le-ltb _ _ h))

-- settings that pass the limits, and the text of settings that do not
limits_pass : (s : Settings) (long k-over paths-over k-zero : Bool) → ltb 4 s.k ≡ k-over → ltb s.k 1 ≡ k-zero
    → ◌≡◌ {A = ℕ} (cond long 26 (cond k-over 26 (cond paths-over 26 (cond k-zero 1 0)))) 0 → (1 ≤ s.k) × (s.k ≤ 4)
limits_pass s true k-over paths-over k-zero a z e = let w : ⊥ = omega arith in absurd w
limits_pass s false true paths-over k-zero a z e = let w : ⊥ = omega arith in absurd w
limits_pass s false false true k-zero a z e = let w : ⊥ = omega arith in absurd w
limits_pass s false false false true a z e = let w : ⊥ = omega arith in absurd w
limits_pass s false false false false a z e = (ltb-false s.k 1 z, ltb-false 4 s.k a)

pub within_limits : (s : Settings) (long : Bool) (fault : ℕ) → fault ≡ limit_fault long s → fault ≡ 0 → (1 ≤ s.k) × (s.k ≤ 4)
unfolding limit_fault
within_limits s long fault is e = limits_pass s long (ltb 4 s.k) (ltb 63 s.maxpaths) (ltb s.k 1) refl refl (sym is ∙ e)

module _ (s : Settings) (numbers : List ℕ) (t : Lent) (long : Bool) (lengths : long ≡ overlong 0 (lent_ends t)) (fault : ℕ) (is : fault ≡ limit_fault long s) where
  fault_held : fault ≡ held_fault s t
  fault_held = is ∙ ap (λ (l : Bool). limit_fault l s) lengths

  pub limit_text : (fault ≡ 0 → ⊥) → refused_text fault ≡ held_text s numbers t
  unfolding held_text
  limit_text h = rw (← fault_held) (simp (ne_eqb fault 0 h))

  -- the text of the haplotypes over the counted rows
  pub counted_text : (width next end : ℕ) (old new part-old part-new : List ℤ) → width ≡ 4 ^ s.k → fault ≡ 0 →
      RowsCounted s.letters s.k width t.negatives t.counts t.letters 0 next old new →
      RowsCounted s.letters s.k width t.part_negatives t.part_counts t.letters next end part-old part-new →
      haplotypes_text s (table_of t.starts t.ends t.sizes (take (length t.counts * width) new)) numbers
      (stretches width 0 (lent_ends t) (parts_of t.part_sizes (take (length t.part_counts * width) part-new))) ≡ held_text s numbers t
  unfolding held_text
  counted_text width next end old new part-old part-new wide none a b =
      let n : next ≡ sum t.counts = a.next ∙ zero-add (sum t.counts) in
      rw (← fault_held, none, a.front, b.front, n, wide)

-- the ten lists of a job, with more behind its letters
unfoldable pub held_in : Job → List ℕ → Lent
held_in job more = lent
    (map (λ (x : Variant). x.start) job.variants)
    (map (λ (x : Variant). x.end) job.variants)
    (map (λ (x : Variant). x.size) job.variants)
    (map (λ (x : Variant). x.negative) job.variants)
    (map (λ (x : Variant). length x.letters) job.variants)
    (map (λ (x : Part). x.size) (all_parts job))
    (map (λ (x : Part). x.negative) (all_parts job))
    (map (λ (x : Part). length x.letters) (all_parts job))
    (breaks_of job.haplotypes)
    (letters_of job ++ more)

-- features counted from the letters of all
variant_rows : (reading k : ℕ) (xs : List Variant) (more : List ℕ) →
    rows_from reading k (map (λ (x : Variant). x.negative) xs) (map (λ (x : Variant). length x.letters) xs) (variant_letters xs ++ more) ≡ variant_features reading k xs
unfolding rows_from variant_features variant_letters
variant_rows reading k [] more = refl
variant_rows reading k (x ∷ xs) more =
    rw (
      append_assoc x.letters (variant_letters xs) more,
      take_at x.letters (variant_letters xs ++ more) (length x.letters) refl,
      drop_at x.letters (variant_letters xs ++ more) (length x.letters) refl,
      variant_rows reading k xs more,
    )

part_rows : (reading k : ℕ) (xs : List Part) (more : List ℕ) →
    rows_from reading k (map (λ (x : Part). x.negative) xs) (map (λ (x : Part). length x.letters) xs) (part_letters xs ++ more) ≡ part_features reading k xs
unfolding rows_from part_features part_letters
part_rows reading k [] more = refl
part_rows reading k (x ∷ xs) more =
    rw (
      append_assoc x.letters (part_letters xs) more,
      take_at x.letters (part_letters xs ++ more) (length x.letters) refl,
      drop_at x.letters (part_letters xs ++ more) (length x.letters) refl,
      part_rows reading k xs more,
    )

variant_sum : (xs : List Variant) → sum (map (λ (x : Variant). length x.letters) xs) ≡ length (variant_letters xs)
unfolding sum variant_letters
variant_sum [] = refl
variant_sum (x ∷ xs) = rw (variant_sum xs, length-append)

part_sum : (xs : List Part) → sum (map (λ (x : Part). length x.letters) xs) ≡ length (part_letters xs)
unfolding sum part_letters
part_sum [] = refl
part_sum (x ∷ xs) = rw (part_sum xs, length-append)

-- k 0 is refused by 1, whether one haplotype is asked for or several
zero_haplotypes : (s : Settings) (t : Table) (numbers : List ℕ) (ps : List Parts) → s.k ≡ 0 → 1 ≤ length ps → refused_text 1 ≡ haplotypes_text s t numbers ps
unfolding haplotypes_text haplotype_text whole_fault answer_text
zero_haplotypes s t numbers [] e h = let z : ⊥ = omega arith in absurd z
zero_haplotypes s t numbers (p ∷ []) e h = rw (refused_k_zero (asked_of s t numbers p) e)
zero_haplotypes s t numbers (p ∷ (q ∷ ps)) e h = rw (fault_k_zero (asked_of s t numbers (parts_of [] [])) e)

zero_text : (numbers : List ℕ) (job : Job) → 1 ≤ length job.haplotypes → job.settings.k < 1 → refused_text 1 ≡ job_text numbers job
unfolding job_text
zero_text numbers job some h =
    let e : job.settings.k ≡ 0 = omega arith in
    zero_haplotypes job.settings (table_of_job job) numbers (map (parts_of_haplotype job.settings.letters job.settings.k) job.haplotypes) e (simp length-map some)

-- the limits, as the program tests them and as its definition lists them
by_limits : (long k-over paths-over k-zero : Bool) (found job : List ℕ) → (k-zero ≡ true → refused_text 1 ≡ job) → found ≡ job →
    cond (eqb (cond long 26 (cond k-over 26 (cond paths-over 26 (cond k-zero 1 0)))) 0) found (refused_text (cond long 26 (cond k-over 26 (cond paths-over 26 (cond k-zero 1 0)))))
    ≡ cond (long || (k-over || paths-over)) (refused_text 26) job
by_limits true k-over paths-over k-zero found job z h = refl
by_limits false true paths-over k-zero found job z h = refl
by_limits false false true k-zero found job z h = refl
by_limits false false false true found job z h = z refl
by_limits false false false false found job z h = h

module _ (job : Job) (more : List ℕ) where
  table_held : table_from job.settings.letters job.settings.k (held_in job more) ≡ table_of_job job
  unfolding held_in table_of_job
  table_held =
      rw (
        append_assoc (variant_letters job.variants) (part_letters (all_parts job)) more,
        variant_rows job.settings.letters job.settings.k job.variants (part_letters (all_parts job) ++ more),
      )

  parts_held : parts_from job.settings.letters job.settings.k (held_in job more)
      ≡ parts_of (map (λ (x : Part). x.size) (all_parts job)) (part_features job.settings.letters job.settings.k (all_parts job))
  unfolding held_in
  parts_held =
      rw (
        append_assoc (variant_letters job.variants) (part_letters (all_parts job)) more,
        variant_sum job.variants,
        drop_at (variant_letters job.variants) (part_letters (all_parts job) ++ more) (length (variant_letters job.variants)) refl,
        part_rows job.settings.letters job.settings.k (all_parts job) more,
      )

  ends_held : lent_ends (held_in job more) ≡ ends_of (breaks_of job.haplotypes) (length (all_parts job))
  unfolding held_in
  ends_held = rw length-map

  module _ (some : 1 ≤ length job.haplotypes) where
    long_held : overlong 0 (lent_ends (held_in job more)) ≡ many_parts job.haplotypes
    long_held = rw ends_held (overlong_is job.haplotypes some)

    stretches_held : stretches (4 ^ job.settings.k) 0 (lent_ends (held_in job more)) (parts_from job.settings.letters job.settings.k (held_in job more))
        ≡ map (parts_of_haplotype job.settings.letters job.settings.k) job.haplotypes
    stretches_held = rw (ends_held, parts_held) (stretches_are job.settings.letters job.settings.k job.haplotypes some)

    found_held : (numbers : List ℕ) → haplotypes_text job.settings (table_from job.settings.letters job.settings.k (held_in job more)) numbers
        (stretches (4 ^ job.settings.k) 0 (lent_ends (held_in job more)) (parts_from job.settings.letters job.settings.k (held_in job more))) ≡ job_text numbers job
    unfolding job_text
    found_held numbers = rw (stretches_held, table_held)

    module _ (v : length job.variants ≤ 16) where
      pub text_held : (numbers : List ℕ) → held_text job.settings numbers (held_in job more) ≡ read_text numbers (Held job)
      unfolding held_text limit_fault read_text too_large
      text_held numbers =
          let k = job.settings.k in
          rw (long_held, le-ltb 16 (length job.variants) v)
          (by_limits (many_parts job.haplotypes) (ltb 4 k) (ltb 63 job.settings.maxpaths) (ltb k 1) _ (job_text numbers job)
          (λ h. zero_text numbers job some (ltb-true k 1 h)) (found_held numbers))

      pub fits_held : length (all_parts job) ≤ 128 → length (breaks_of job.haplotypes) ≤ 15 → length (letters_of job ++ more) ≤ 32768 → {reading : ℕ} → reading ≤ 1 → Fits reading (held_in job more)
      unfolding held_in
      fits_held p b l known =
          let a = variant_sum job.variants in
          let d = part_sum (all_parts job) in
          record {
            known = known;
            variants = simp length-map v;
            parts = simp length-map p;
            haplotypes = b;
            rising = rw length-map (rising_is job.haplotypes some);
            alike = simp length-map;
            part_alike = simp length-map;
            sizes_alike = simp length-map;
            letters_end = simp length-append (omega arith);
            few = l;
          }
