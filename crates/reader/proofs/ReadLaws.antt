-- What reading answers: a fault changes nothing, and where there is room each column of the rows that were stored is the job's, at the front of its slice.
-- Assumes nothing.
use Prim.Native.Nat.{ℕ, suc, ◌+◌, ◌-◌, ◌≤◌, ◌<◌}
use native.Mathlib.Omega.{arith}
use mathlib.Core.Path.{◌≡◌, refl, sym, ap, subst, ◌∙◌}
use mathlib.Core.Bool.{Bool, true, false, cond}
use mathlib.Core.List.{List, [], ◌∷◌, ◌++◌, map, flatten}
use lib.ListN.{length, take, drop, set, length-drop, length-map}
use lib.Seq.{take_all, sets-eq}
use borrow.Author.Tests.{le-leb, lt-leb, leb-true}
use Rattle.params.specs.declared.Settings.{Settings}
use Rattle.form.specs.declared.records.Edition.{Edition}
use Rattle.form.specs.declared.records.Kind.{Kind}
use Rattle.form.specs.declared.records.Kind.TheVariants.{End, Settings as SettingsRecord, Variant as VariantRecord, Part as PartRecord, Letters, Next, Settings2, Variant2, Unknown}
use Rattle.form.specs.declared.records.Counts.{Counts}
use Rattle.std.specs.Prelude.{Result, Ok, Err}
use Rattle.metrics.specs.declared.refusals.Refusal.{Refusal}
use Rattle.metrics.specs.declared.refusals.Refusal.TheVariants.{LittleRoom}
use Rattle.metrics.proofs.RefusalLaws.{refusal_is}
use Rattle.form.specs.Form.{kind_of, is_settings, body_len, run, outset}
use Rattle.form.specs.Job.{Variant, Part, variant_here, part_here, gather, haplotypes_in, edition_of, settings_by, job_of, read_of, read_job}
use Rattle.form.specs.Lent.{Lent, letters_of, breaks_of, job_counts}
use Rattle.reader.specs.Reading.{five, three, has_room, lent_with, reading_of, lent_after}
use Rattle.metrics.specs.Placed.{placed}
use Rattle.reader.specs.Steps.{Rows, rows, put_row, PartRows, part_rows, put_part, stores}
use Rattle.form.specs.Steps.{variant_letters_here, part_letters_here, letters_walk, breaks_walk}
use Rattle.form.proofs.FormLaws.{both, mixed}
use Rattle.reader.proofs.FillLaws.{stores_sets}
use Rattle.form.proofs.OrderLaws.{in_order}
use Rattle.form.proofs.NumberLaws.{first_record}
use Rattle.form.proofs.HaplotypeLaws.{flat_haplotypes, breaks_are}
use Rattle.form.proofs.CountLaws.{none_whole, counts_are, letters_of_variants, letters_of_parts}

-- ---- a good form begins with a whole settings record
whole_settings : (kind : Kind) (b : List ℕ) → is_settings kind ≡ true → body_len kind ≤ length b → 40 ≤ length b
unfolding body_len
whole_settings End b h w = mixed (sym h)
whole_settings SettingsRecord b h w = w
whole_settings VariantRecord b h w = mixed (sym h)
whole_settings PartRecord b h w = mixed (sym h)
whole_settings Letters b h w = mixed (sym h)
whole_settings Next b h w = mixed (sym h)
whole_settings Settings2 b h w = omega arith
whole_settings Variant2 b h w = mixed (sym h)
whole_settings Unknown b h w = mixed (sym h)

good_long : (s : List ℕ) (c : Counts) → run s 0 outset ≡ Ok c → 41 ≤ length s
unfolding run
good_long [] c e = let z : ◌≡◌ {A = ℕ} 0 1 = cc in omega arith
good_long (k ∷ b) c e =
    let f = first_record k b e in
    let h : 40 ≤ length b = whole_settings (kind_of k) b f.1 (none_whole outset (kind_of k) b f.0) in
    omega arith

-- ---- columns
pub laid : {A : Type 0} (l ys : List A) → length ys ≤ length l → stores set l 0 ys ≡ placed l ys
laid l ys h =
    let z : 0 + length ys ≡ length ys = omega arith in
    stores_sets l 0 ys ∙ sets-eq ys l 0 (rw z h) ∙ ap (λ (n : ℕ). ys ++ drop n l) z

module _ {T A B : Type 0} (put : T → ℕ → A → T) (g : T → List B) (f : A → B) (stored : (t : T) (v : ℕ) (x : A) → g (put t v x) ≡ set (g t) v (f x)) where
  column : (t : T) (v : ℕ) (xs : List A) → g (stores put t v xs) ≡ stores set (g t) v (map f xs)
  unfolding stores
  column t v [] = refl
  column t v (x ∷ xs) = column (put t v x) (suc v) xs ∙ ap (λ (l : List B). stores set l (suc v) (map f xs)) (stored t v x)

  front : (t u : T) (xs : List A) → length xs ≤ length (g t) → u ≡ stores put t 0 xs → g u ≡ placed (g t) (map f xs)
  front t u xs h e = ap g e ∙ column t 0 xs ∙ laid (g t) (map f xs) (rw (length-map xs f) h)

record RowsFit (n : ℕ) (t : Lent) : Type 0 where
  starts : n ≤ length t.starts
  ends : n ≤ length t.ends
  sizes : n ≤ length t.sizes
  negatives : n ≤ length t.negatives
  counts : n ≤ length t.counts

rows_fit : (n : ℕ) (t : Lent) → five n (length t.starts) (length t.ends) (length t.sizes) (length t.negatives) (length t.counts) ≡ true → RowsFit n t
unfolding five
rows_fit n t h =
    let a = both _ _ h in let b = both _ _ a.1 in let c = both _ _ b.1 in let d = both _ _ c.1 in
    record { starts = leb-true _ _ a.0; ends = leb-true _ _ b.0; sizes = leb-true _ _ c.0; negatives = leb-true _ _ d.0; counts = leb-true _ _ d.1 }

record PartsFit (n : ℕ) (t : Lent) : Type 0 where
  sizes : n ≤ length t.part_sizes
  negatives : n ≤ length t.part_negatives
  counts : n ≤ length t.part_counts

parts_fit_lem : (n : ℕ) (t : Lent) → three n (length t.part_sizes) (length t.part_negatives) (length t.part_counts) ≡ true → PartsFit n t
unfolding three
parts_fit_lem n t h =
    let a = both _ _ h in let b = both _ _ a.1 in
    record { sizes = leb-true _ _ a.0; negatives = leb-true _ _ b.0; counts = leb-true _ _ b.1 }

abbrev pub rows_room : Counts → Lent → Bool
rows_room c t = five c.variants (length t.starts) (length t.ends) (length t.sizes) (length t.negatives) (length t.counts)

abbrev pub parts_room : Counts → Lent → Bool
parts_room c t = three c.parts (length t.part_sizes) (length t.part_negatives) (length t.part_counts)

pub read_refused : (s : List ℕ) (t : Lent) {refusal : Refusal} → run s 0 outset ≡ Err refusal → (Err refusal ≡ reading_of (read_job s) t) × (t ≡ lent_after (read_job s) t)
unfolding read_job reading_of lent_after
read_refused s t {refusal} e =
    let answer = ap (λ (w : Result Counts Refusal). reading_of (read_of w (job_of s)) t) e ∙ ap (λ (found : Refusal). Err found) (refusal_is refusal) in
    (sym answer, sym (ap (λ (w : Result Counts Refusal). lent_after (read_of w (job_of s)) t) e))

module _ (s : List ℕ) {c : Counts} (at : run s 0 outset ≡ Ok c) where
  pub settings_there : 41 ≤ length s
  settings_there = good_long s c at

  are : c ≡ job_counts (job_of s)
  are = counts_are s c at

  module _ (t : Lent) where
    reading_at : reading_of (read_job s) t ≡ cond (has_room c t) (Ok (settings_by (edition_of s) (drop 1 s), c)) (Err LittleRoom)
    unfolding read_job reading_of job_of
    reading_at =
        ap (λ (w : Result Counts Refusal). reading_of (read_of w (job_of s)) t) at
        ∙ ap (λ (d : Counts). cond (has_room d t) (Ok (settings_by (edition_of s) (drop 1 s), d)) (Err LittleRoom)) (sym are)

    lent_at : lent_after (read_job s) t ≡ cond (has_room c t) (lent_with (job_of s) t) t
    unfolding read_job lent_after
    lent_at = ap (λ (w : Result Counts Refusal). lent_after (read_of w (job_of s)) t) at ∙ ap (λ (d : Counts). cond (has_room d t) (lent_with (job_of s) t) t) (sym are)

    crowded : has_room c t ≡ false → (Err LittleRoom ≡ reading_of (read_job s) t) × (t ≡ lent_after (read_job s) t)
    crowded h = (sym (reading_at ∙ rw h), sym (lent_at ∙ rw h))

    pub crowded_rows : rows_room c t ≡ false → (Err LittleRoom ≡ reading_of (read_job s) t) × (t ≡ lent_after (read_job s) t)
    crowded_rows h = crowded (rw h)

    module _ (rows_room : rows_room c t ≡ true) where
      pub crowded_parts : parts_room c t ≡ false → (Err LittleRoom ≡ reading_of (read_job s) t) × (t ≡ lent_after (read_job s) t)
      crowded_parts h = crowded (rw (rows_room, h))

      module _ (parts-room : parts_room c t ≡ true) where
        pub crowded_breaks : length t.breaks < c.breaks → (Err LittleRoom ≡ reading_of (read_job s) t) × (t ≡ lent_after (read_job s) t)
        crowded_breaks h = crowded (rw (rows_room, parts-room, lt-leb _ _ h))

        module _ (breaks-room : c.breaks ≤ length t.breaks) where
          pub crowded_letters : length t.letters < c.letters → (Err LittleRoom ≡ reading_of (read_job s) t) × (t ≡ lent_after (read_job s) t)
          crowded_letters h = crowded (rw (rows_room, parts-room, le-leb _ _ breaks-room, lt-leb _ _ h))

          module _ (enough : c.letters ≤ length t.letters) where
            has_room_lem : has_room c t ≡ true
            has_room_lem = rw (rows_room, parts-room, le-leb _ _ breaks-room, le-leb _ _ enough)

            kinds : List ℕ
            kinds = gather variant_letters_here s 0 ++ gather part_letters_here s 0

            kinds_are : letters_of (job_of s) ≡ kinds
            unfolding job_of kinds
            kinds_are = rw (flat_haplotypes s 0, letters_of_variants s 0, letters_of_parts s 0)

            letters_fit : length (gather variant_letters_here s 0 ++ gather part_letters_here s 0) ≤ length t.letters
            unfolding job_counts kinds
            letters_fit =
                let h : c.letters ≡ length (letters_of (job_of s)) = ap (λ (d : Counts). d.letters) are in
                let g : length (letters_of (job_of s)) ≡ length kinds = ap length kinds_are in
                omega (arith, h, g, enough)

            module _ (u : Lent) (vs : rows u.starts u.ends u.sizes u.negatives u.counts
                ≡ stores put_row (rows t.starts t.ends t.sizes t.negatives t.counts) 0 (gather variant_here s 0))
                (ps : part_rows u.part_sizes u.part_negatives u.part_counts
                ≡ stores put_part (part_rows t.part_sizes t.part_negatives t.part_counts) 0 (gather part_here s 0))
                (bs : u.breaks ≡ stores set t.breaks 0 (breaks_walk s 0 0))
                (ls : u.letters ≡ stores set t.letters 0 (letters_walk s 0 0)) where
              laid_job : u ≡ lent_with (job_of s) t
              unfolding lent_with job_of job_counts kinds
              laid_job =
                  let xs : List Variant = gather variant_here s 0 in
                  let ys : List Part = flatten (haplotypes_in s 0) in
                  let ds : List ℕ = breaks_of (haplotypes_in s 0) in
                  let t5 : Rows = rows t.starts t.ends t.sizes t.negatives t.counts in
                  let u5 : Rows = rows u.starts u.ends u.sizes u.negatives u.counts in
                  let t3 : PartRows = part_rows t.part_sizes t.part_negatives t.part_counts in
                  let u3 : PartRows = part_rows u.part_sizes u.part_negatives u.part_counts in
                  let qs : u3 ≡ stores put_part t3 0 ys = ps ∙ ap (λ (l : List Part). stores put_part t3 0 l) (sym (flat_haplotypes s 0)) in
                  let n : c.variants ≡ length xs = ap (λ (d : Counts). d.variants) are in
                  let m : c.parts ≡ length ys = ap (λ (d : Counts). d.parts) are in
                  let d : c.breaks ≡ length ds = ap (λ (x : Counts). x.breaks) are in
                  let r : RowsFit (length xs) t = subst (λ (k : ℕ). RowsFit k t) n (rows_fit c.variants t rows_room) in
                  let p : PartsFit (length ys) t = subst (λ (k : ℕ). PartsFit k t) m (parts_fit_lem c.parts t parts-room) in
                  let e1 = front put_row (λ (w : Rows). w.starts) (λ (x : Variant). x.start) (λ (w : Rows) (i : ℕ) (x : Variant). refl) t5 u5 xs r.starts vs in
                  let e2 = front put_row (λ (w : Rows). w.ends) (λ (x : Variant). x.end) (λ (w : Rows) (i : ℕ) (x : Variant). refl) t5 u5 xs r.ends vs in
                  let e3 = front put_row (λ (w : Rows). w.sizes) (λ (x : Variant). x.size) (λ (w : Rows) (i : ℕ) (x : Variant). refl) t5 u5 xs r.sizes vs in
                  let e4 = front put_row (λ (w : Rows). w.negatives) (λ (x : Variant). x.negative) (λ (w : Rows) (i : ℕ) (x : Variant). refl) t5 u5 xs r.negatives vs in
                  let e5 = front put_row (λ (w : Rows). w.counts) (λ (x : Variant). length x.letters) (λ (w : Rows) (i : ℕ) (x : Variant). refl) t5 u5 xs r.counts vs in
                  let e6 = front put_part (λ (w : PartRows). w.sizes) (λ (x : Part). x.size) (λ (w : PartRows) (i : ℕ) (x : Part). refl) t3 u3 ys p.sizes qs in
                  let e7 = front put_part (λ (w : PartRows). w.negatives) (λ (x : Part). x.negative) (λ (w : PartRows) (i : ℕ) (x : Part). refl) t3 u3 ys p.negatives qs in
                  let e8 = front put_part (λ (w : PartRows). w.counts) (λ (x : Part). length x.letters) (λ (w : PartRows) (i : ℕ) (x : Part). refl) t3 u3 ys p.counts qs in
                  let e0 : u.breaks ≡ placed t.breaks ds = bs ∙ ap (λ (l : List ℕ). stores set t.breaks 0 l) (breaks_are s) ∙ laid t.breaks ds (omega (arith, d, breaks-room)) in
                  let e9 : u.letters ≡ placed t.letters (letters_of (job_of s)) =
                  ls ∙ ap (λ (l : List ℕ). stores set t.letters 0 l) (in_order s c at) ∙ laid t.letters kinds letters_fit ∙ ap (placed t.letters) (sym kinds_are) in
                  λ i. record { starts = e1 i; ends = e2 i; sizes = e3 i; negatives = e4 i; counts = e5 i; part_sizes = e6 i; part_negatives = e7 i; part_counts = e8 i; breaks = e0 i; letters = e9 i }

              pub read_job_lem : (edition : Edition) (head : Settings) → edition ≡ edition_of s → head ≡ settings_by edition (take (length s - 1) (drop 1 s))
                  → (Ok (head, c) ≡ reading_of (read_job s) t) × (u ≡ lent_after (read_job s) t)
              read_job_lem edition head e h =
                  let x : take (length s - 1) (drop 1 s) ≡ drop 1 s = take_all (length s - 1) (drop 1 s) (simp length-drop (omega arith)) in
                  (sym (reading_at ∙ rw has_room_lem (ap (λ (y : Settings). Ok (y, c)) (sym (h ∙ rw (x, e))))), laid_job ∙ sym (lent_at ∙ rw has_room_lem))
