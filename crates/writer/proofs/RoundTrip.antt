-- The round trip: the bytes of a job are in good form and hold the job, in either edition, and its record numbers where the edition has a place for them;
-- what the job holds is what the slices held. Assumes nothing.
use Prim.Native.Nat.{ℕ, zero, suc, ◌+◌, ◌≤◌}
use native.Mathlib.Omega.{arith}
use mathlib.Core.Path.{◌≡◌, refl, ap, ◌∙◌}
use mathlib.Core.Bool.{Bool, true, false, cond, ◌||◌}
use mathlib.Core.List.{List, [], ◌∷◌}
use lib.Dec.{ltb, eqb}
use lib.ListN.{length, get_or, drop, length-drop, length-take}
use lib.Seq.{slice}
use borrow.Author.Tests.{ltb-false, eqb-true, eqb-false}
use Rattle.std.specs.Prelude.{Result, Ok, Err}
use Rattle.metrics.specs.declared.refusals.Refusal.{Refusal}
use Rattle.metrics.specs.declared.refusals.Refusal.TheVariants.{LittleRoom}
use Rattle.metrics.specs.Refusals.{refusal_of}
use Rattle.params.specs.declared.Settings.{Settings}
use Rattle.metrics.specs.Placed.{placed}
use Rattle.form.specs.declared.records.Counts.{Counts}
use Rattle.form.specs.declared.records.Edition.{Edition}
use Rattle.form.specs.declared.records.Edition.TheVariants.{One, Two}
use Rattle.form.specs.Form.{kind_of}
use Rattle.form.specs.Job.{Variant, Part, Job, Read, Held, job_of, read_of, read_job, edition_of, settings_by, row_numbers, numbers_by, numbers_of}
use Rattle.form.specs.Job.{settings_record, job_bytes}
use Rattle.form.specs.Lent.{Lent, sum, job_counts}
use Rattle.reader.specs.Reading.{has_room, reading_of, lent_after, numbers_fit, numbering_of, numbers_after}
use Rattle.writer.specs.Writing.{any_over, numbers_agree, letters_lost, variants_from, parts_from, job_from, writing_fault, writing_of}
use Rattle.writer.specs.Holds.{SettingsHold, LettersHold, VariantsHold, PartsHold, JobHolds, NumbersHold, LentHolds}
use Rattle.writer.specs.RoundTrip.{RoundTrip, laid_over, lent_counts, numbers_kept}
use Rattle.form.proofs.NumberLaws.{long_rows}
use Rattle.writer.proofs.CutLaws.{long_cut, cut_holds}
use Rattle.writer.proofs.JobLaws.{Sound, sound}
use Rattle.writer.proofs.SlicesBack.{slices_back, counts_back}
use Rattle.writer.proofs.GoodForm.{job_good}
use Rattle.writer.proofs.WalkBack.{settings_are, variants_are, haplotypes_are, numbers_are}

-- ---- a job and its record numbers
edition_back : (e : Edition) (numbers : List ℕ) (job : Job) → edition_of (job_bytes e numbers job) ≡ e
unfolding job_bytes settings_record kind_of
edition_back One numbers job = refl
edition_back Two numbers job = refl

job_back : (e : Edition) (numbers : List ℕ) (job : Job) → JobHolds e job → read_job (job_bytes e numbers job) ≡ Held job
unfolding read_job job_of
job_back e numbers job h =
    let s : List ℕ = job_bytes e numbers job in
    let p : settings_by (edition_of s) (drop 1 s) ≡ job.settings = ap (λ (x : Edition). settings_by x (drop 1 s)) (edition_back e numbers job) ∙ settings_are e numbers job h in
    let q = variants_are e numbers job h in let r = haplotypes_are e numbers job h in
    ap (λ (v : Result Counts Refusal). read_of v (job_of s)) (job_good e numbers job h).1
    ∙ (λ i. Held (record { settings = p i; variants = q i; haplotypes = r i }))

numbers_by_lem : (e : Edition) (numbers : List ℕ) (job : Job) → JobHolds e job → NumbersHold numbers → numbers_agree e (length numbers) (length job.variants) ≡ true
    → numbers_by e (job_bytes e numbers job) ≡ numbers_kept e numbers (length job.variants)
unfolding numbers_by numbers_kept
numbers_by_lem One numbers job h u agrees = ap (λ (xs : List Variant). row_numbers (length xs)) (variants_are One numbers job h)
numbers_by_lem Two numbers job h u agrees = numbers_are numbers job h u (eqb-true _ _ agrees)

numbers_back : (e : Edition) (numbers : List ℕ) (job : Job) → JobHolds e job → NumbersHold numbers → numbers_agree e (length numbers) (length job.variants) ≡ true
    → numbers_of (job_bytes e numbers job) ≡ numbers_kept e numbers (length job.variants)
numbers_back e numbers job h u agrees = ap (λ (x : Edition). numbers_by x (job_bytes e numbers job)) (edition_back e numbers job) ∙ numbers_by_lem e numbers job h u agrees

long_kept : (e : Edition) (numbers : List ℕ) (v : ℕ) → numbers_agree e (length numbers) v ≡ true → length (numbers_kept e numbers v) ≡ v
unfolding numbers_kept
long_kept One numbers v agrees = long_rows v
long_kept Two numbers v agrees = eqb-true _ _ agrees

-- ---- a job that the writer accepts
no_fault : (t : Bool) (f m n : ℕ) (b : Bool) → eqb f 0 ≡ t → cond t (cond b (Err LittleRoom) (Ok m)) (Err (refusal_of f)) ≡ Ok n → f ≡ 0
no_fault true f m n b e h = eqb-true f 0 e
no_fault false f m n b e h = let z : ◌≡◌ {A = ℕ} 1 0 = cc in let w : ⊥ = omega arith in absurd w

accepts : (e : Edition) (numbers : List ℕ) (s : Settings) (t : Lent) (room n : ℕ) → writing_of e numbers s t room ≡ Ok n → Sound e numbers s t
unfolding writing_of
accepts e numbers s t room n h =
    sound e numbers s t (no_fault (eqb (writing_fault e numbers s t) 0) (writing_fault e numbers s t) (length (job_bytes e numbers (job_from s t))) n
    (ltb room (length (job_bytes e numbers (job_from s t)))) refl h)

letters_hold : (e : Edition) (n : ℕ) → n ≤ 1 → letters_lost e n ≡ false → LettersHold e n
letters_hold One n flag kept = let not_one = eqb-false n 1 kept in omega (arith, flag, not_one)
letters_hold Two n flag kept = flag

neither : (a b : Bool) → a || b ≡ false → (a ≡ false) × (b ≡ false)
neither true b e = let z : ◌≡◌ {A = ℕ} 1 0 = cc in let w : ⊥ = omega arith in absurd w
neither false b e = (refl, e)

few_each : (counts : List ℕ) → any_over counts ≡ false → (r : ℕ) → get_or counts r 0 ≤ 131072
unfolding any_over
few_each [] e r = omega arith
few_each (n ∷ ns) e zero = ltb-false 131072 n (neither (ltb 131072 n) (any_over ns) e).0
few_each (n ∷ ns) e (suc r) = few_each ns (neither (ltb 131072 n) (any_over ns) e).1 r

short_slice : (p c : ℕ) (l : List ℕ) → length (slice p (p + c) l) ≤ c
short_slice p c l = simp (length-drop, length-take) (omega arith)

module _ (t : Lent) (h : LentHolds t) where
  variants_hold : ((r : ℕ) → get_or t.counts r 0 ≤ 131072) → (n r p : ℕ) → VariantsHold (variants_from t.starts t.ends t.sizes t.negatives t.counts t.letters r p n)
  unfolding variants_from
  variants_hold few zero r p = tt
  variants_hold few (suc n) r p =
      let k = few r in let l = short_slice p (get_or t.counts r 0) t.letters in
      (record { start = h.starts r; end = h.ends r; size = h.sizes r; letters = omega (arith, k, l) }, variants_hold few n (suc r) (p + get_or t.counts r 0))

  parts_hold : ((r : ℕ) → get_or t.part_counts r 0 ≤ 131072) → (n r p : ℕ) → PartsHold (parts_from t.part_sizes t.part_negatives t.part_counts t.letters r p n)
  unfolding parts_from
  parts_hold few zero r p = tt
  parts_hold few (suc n) r p =
      let k = few r in let l = short_slice p (get_or t.part_counts r 0) t.letters in
      (record { size = h.part_sizes r; letters = omega (arith, k, l) }, parts_hold few n (suc r) (p + get_or t.part_counts r 0))

  module _ (e : Edition) (numbers : List ℕ) (u : NumbersHold numbers) (s : Settings) (g : SettingsHold s) (room n : ℕ) (wrote : writing_of e numbers s t room ≡ Ok n) where
    abbrev bytes : List ℕ
    bytes = job_bytes e numbers (job_from s t)

    abbrev kept : List ℕ
    kept = numbers_kept e numbers (length t.starts)

    ok : Sound e numbers s t
    ok = accepts e numbers s t room n wrote

    job_holds : JobHolds e (job_from s t)
    unfolding job_from
    job_holds =
        let ps : List Part = parts_from t.part_sizes t.part_negatives t.part_counts t.letters 0 (sum t.counts) (length t.part_sizes) in
        let long = long_cut 0 t.breaks ps in
        record {
          settings = g;
          letters = letters_hold e s.letters ok.flag ok.kept;
          variants = variants_hold (few_each t.counts ok.few) (length t.starts) 0 0;
          haplotypes = cut_holds 0 t.breaks ps (parts_hold (few_each t.part_counts ok.few_parts) (length t.part_sizes) 0 (sum t.counts));
          some = omega (arith, long);
          few = omega (arith, long, ok.within);
        }

    variants_counted : length (job_from s t).variants ≡ length t.starts
    unfolding job_counts lent_counts
    variants_counted = ap (λ (c : Counts). c.variants) (counts_back s t ok.agrees)

    numbers_there : numbers_of bytes ≡ kept
    numbers_there =
        let v = variants_counted in
        numbers_back e numbers (job_from s t) job_holds u (ap (λ (m : ℕ). numbers_agree e (length numbers) m) v ∙ ok.numbered) ∙ ap (numbers_kept e numbers) v

    written_back : (read_job bytes ≡ Held (job_from s t)) × (numbers_of bytes ≡ kept)
    written_back = (job_back e numbers (job_from s t) job_holds, numbers_there)

    read_back : (w : Lent) → has_room (lent_counts t) w ≡ true → (reading_of (read_job bytes) w ≡ Ok (s, lent_counts t)) × (lent_after (read_job bytes) w ≡ laid_over w t)
    unfolding reading_of lent_after job_from
    read_back w fits =
        let b = written_back.0 in
        let c = counts_back s t ok.agrees in (
          ap (λ (x : Read). reading_of x w) b ∙ rw (c, fits),
          ap (λ (x : Read). lent_after x w) b ∙ rw (c, fits) (slices_back s t w ok.agrees),
        )

    numbers_read_back : (old : List ℕ) → numbers_fit kept (length old) ≡ true
        → (numbering_of (read_job bytes) (numbers_of bytes) (length old) ≡ Ok (length t.starts)) × (numbers_after (read_job bytes) (numbers_of bytes) old ≡ placed old kept)
    unfolding numbering_of numbers_after
    numbers_read_back old fits =
        let b = written_back in (
          (λ i. numbering_of (b.0 i) (b.1 i) (length old)) ∙ rw fits (ap (λ (m : ℕ). Ok m) (long_kept e numbers (length t.starts) ok.numbered)),
          (λ i. numbers_after (b.0 i) (b.1 i) old) ∙ rw fits,
        )

pub round_trip : RoundTrip
round_trip = record {
  job_back = job_back;
  edition_back = edition_back;
  numbers_back = numbers_back;
  written_back = λ e numbers u s g t h. written_back t h e numbers u s g;
  slices_back = slices_back;
  counts_back = counts_back;
  read_back = λ e numbers u s g t h. read_back t h e numbers u s g;
  numbers_read_back = λ e numbers u s g t h. numbers_read_back t h e numbers u s g;
}
