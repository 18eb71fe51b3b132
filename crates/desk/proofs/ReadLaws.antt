-- What reading into the program's arrays answers. A form of at most 32,768 bytes has fewer letters, and 16 haplotypes of at most 8 parts have at most 128, so
-- the room is too small only for over 16 variants or over 8 parts in a haplotype: the reader's 30 is the program's 26. Any other job is read whole, and the fronts of the arrays are its lists.
use Prim.Native.Nat.{ℕ, ◌^◌, ◌≤◌, ◌<◌}
use native.Mathlib.Omega.{arith}
use mathlib.Core.Path.{◌≡◌, refl, sym, ap, subst, ◌∙◌}
use mathlib.Core.Bool.{Bool, true, false, cond}
use mathlib.Core.List.{List, ◌++◌, map}
use lib.IntN.{pos}
use lib.ListN.{length, take, drop, replicate, length-append, length-map, length-drop}
use borrow.Author.Tests.{ltb-false, leb-true, le-leb, ne_eqb}
use Rattle.params.specs.declared.Settings.{Settings}
use Rattle.paths.proofs.BooleanLaws.{and_both}
use Rattle.params.proofs.CheckLaws.{or_no}
use Rattle.form.specs.declared.records.Counts.{Counts}
use Rattle.std.specs.Prelude.{Result, Ok, Err}
use Rattle.metrics.specs.declared.refusals.Refusal.{Refusal}
use Rattle.metrics.specs.declared.refusals.Refusal.TheVariants.{LittleRoom}
use Rattle.metrics.specs.Refusals.{refusal_number, refusal_of}
use Rattle.form.specs.Job.{Variant, Part, Job, all_parts, Read, Faulty, Held, read_job, numbers_of}
use Rattle.metrics.specs.Placed.{placed}
use Rattle.form.specs.Lent.{Lent, lent, letters_of, breaks_of, job_counts}
use Rattle.reader.specs.Reading.{five, three, has_room, lent_with, reading_of, lent_after, numbers_after}
use Rattle.form.proofs.LetterLaws.{letters_within}
use Rattle.form.proofs.NumberLaws.{letters_known, numbers_known}
use Rattle.form.proofs.HaplotypeLaws.{long_breaks}
use Rattle.text.specs.Text.{refused_text}
use Rattle.desk.specs.Desk.{too_large, job_text, read_text}
use Rattle.desk.specs.Memory.{held_text, cut, told_as, reading_text, numbers_held, Fits, Front, Loaded}
use Rattle.desk.proofs.AnswerLaws.{take_placed}
use Rattle.desk.proofs.FaultLaws.{form_fault, few_breaks, some_held}
use Rattle.desk.proofs.StretchLaws.{few_parts}
use Rattle.desk.proofs.MemoryLaws.{held_in, text_held, fits_held}

-- the program's arrays
pub record Room (t : Lent) : Type 0 where
  pub starts : length t.starts ≡ 16
  pub ends : length t.ends ≡ 16
  pub sizes : length t.sizes ≡ 16
  pub negatives : length t.negatives ≡ 16
  pub counts : length t.counts ≡ 16
  pub part_sizes : length t.part_sizes ≡ 128
  pub part_negatives : length t.part_negatives ≡ 128
  pub part_counts : length t.part_counts ≡ 128
  pub breaks : length t.breaks ≡ 15
  pub letters : length t.letters ≡ 32768

-- the arrays before a job is read
abbrev pub empty_with : List ℕ → Lent
empty_with letters = lent (replicate 16 0) (replicate 16 0) (replicate 16 (pos 0)) (replicate 16 false) (replicate 16 0)
    (replicate 128 (pos 0)) (replicate 128 false) (replicate 128 0) (replicate 15 0) letters

pub empty_room : (letters : List ℕ) → 32768 ≡ length letters → Room (empty_with letters)
empty_room letters e = record {
  starts = refl;
  ends = refl;
  sizes = refl;
  negatives = refl;
  counts = refl;
  part_sizes = refl;
  part_negatives = refl;
  part_counts = refl;
  breaks = refl;
  letters = sym e;
}

pub told_room : (n : ℕ) → n ≡ 30 → 26 ≡ told_as n
unfolding told_as
told_room n e = rw e

pub told_other : (n : ℕ) → (n ≡ 30 → ⊥) → n ≡ told_as n
unfolding told_as
told_other n h = simp (ne_eqb n 30 h)

-- which text what the reader said has, and what it says of the slices
module _ {read : Result (Settings × Counts) Refusal} (numbers : List ℕ) (t : Lent) where
  pub declined_reading : {refusal : Refusal} → read ≡ Err refusal → refused_text (told_as (refusal_number refusal)) ≡ reading_text read numbers t
  unfolding reading_text
  declined_reading e = rw e

  module _ {s : Settings} {c : Counts} (e : read ≡ Ok (s, c)) where
    pub given_reading : held_text s (take c.variants numbers) (cut c.variants c.parts c.breaks t) ≡ reading_text read numbers t
    unfolding reading_text
    given_reading = rw e

    pub given_loaded : Loaded read numbers t → Front s.letters c.variants c.parts c.breaks numbers t
    given_loaded l = subst (λ (x : Result (Settings × Counts) Refusal). Loaded x numbers t) e l

placed_long : {A : Type 0} (old new : List A) (n : ℕ) → n ≡ length new → n ≤ length (placed old new)
placed_long old new n e = rw length-append (omega arith)

module _ (input : List ℕ) (short : length input ≤ 32768) (t : Lent) (room : Room t) where
  -- the job that was read, and that there was room for it
  pub record JobRead (s : Settings) (c : Counts) : Type 0 where
    pub job : Job
    pub held : read_job input ≡ Held job
    pub enough : has_room (job_counts job) t ≡ true
    pub settings_are : s ≡ job.settings
    pub counts_are : c ≡ job_counts job

  module _ (job : Job) (held : read_job input ≡ Held job) where
    -- room for every job of at most 16 variants and 128 parts, and for no other
    has_room_lem : length job.variants ≤ 16 → length (all_parts job) ≤ 128 → has_room (job_counts job) t ≡ true
    unfolding five three job_counts
    has_room_lem v p =
        let l = letters_within input job held in
        let few : length (letters_of job) ≤ 32768 = omega arith in
        let b = few_breaks input job held in
        rw (room.starts, room.ends, room.sizes, room.negatives, room.counts, room.part_sizes, room.part_negatives, room.part_counts, room.breaks, room.letters)
        (simp (le-leb _ _ v, le-leb _ _ p, le-leb _ _ b, le-leb _ _ few))

    few_of : has_room (job_counts job) t ≡ true → (length job.variants ≤ 16) × (length (all_parts job) ≤ 128)
    unfolding five three job_counts
    few_of h =
        let a = and_both _ _ h in
        let v : length job.variants ≤ length t.starts = leb-true _ _ (and_both _ _ a.0).0 in
        let p : length (all_parts job) ≤ length t.part_sizes = leb-true _ _ (and_both _ _ (and_both _ _ a.1).0).0 in
        let s : length t.starts ≡ 16 = room.starts in
        let q : length t.part_sizes ≡ 128 = room.part_sizes in
        (omega arith, omega arith)

    -- a job that is not too large by its definition has room, so one without room is too large
    small : too_large job ≡ false → (length job.variants ≤ 16) × (length (all_parts job) ≤ 128)
    unfolding too_large
    small e =
        let a = or_no _ _ e in
        let p = few_parts job.haplotypes (or_no _ _ a.1).0 in
        let n = long_breaks job.haplotypes (some_held input job held) in
        let b = few_breaks input job held in
        (ltb-false _ _ a.0, omega arith)

    large : (is : Bool) → too_large job ≡ is → has_room (job_counts job) t ≡ false → is ≡ true
    large true e h = refl
    large false e h =
        let f = small e in
        let r = has_room_lem f.0 f.1 in
        let z : ◌≡◌ {A = Bool} true false = sym r ∙ h in
        let w : ◌≡◌ {A = ℕ} 0 1 = cc in
        let n : ⊥ = omega arith in
        absurd n

    declined_held : (refusal : Refusal) (fits : Bool) → has_room (job_counts job) t ≡ fits
        → ◌≡◌ {A = Result (Settings × Counts) Refusal} (Err refusal) (cond fits (Ok (job.settings, job_counts job)) (Err LittleRoom))
        → refused_text (told_as (refusal_number refusal)) ≡ cond (too_large job) (refused_text 26) (job_text (numbers_of input) job)
    declined_held refusal true r e = let z : ◌≡◌ {A = ℕ} 0 1 = cc in let w : ⊥ = omega arith in absurd w
    declined_held refusal false r e =
        let m : refusal ≡ LittleRoom = cc in
        rw (← told_room (refusal_number refusal) (ap refusal_number m), large (too_large job) refl r)

    given_held : (s : Settings) (c : Counts) (fits : Bool) → has_room (job_counts job) t ≡ fits
        → ◌≡◌ {A = Result (Settings × Counts) Refusal} (Ok (s, c)) (cond fits (Ok (job.settings, job_counts job)) (Err LittleRoom)) → JobRead s c
    given_held s c true r e =
        let same : ◌≡◌ {A = Settings × Counts} (s, c) (job.settings, job_counts job) = cc in
        record { job = job; held = held; enough = r; settings_are = ap (λ (x : Settings × Counts). x.0) same; counts_are = ap (λ (x : Settings × Counts). x.1) same }
    given_held s c false r e = let z : ◌≡◌ {A = ℕ} 0 1 = cc in let w : ⊥ = omega arith in absurd w

  declined_as : (q : Read) → read_job input ≡ q → (refusal : Refusal) → Err refusal ≡ reading_of q t → refused_text (told_as (refusal_number refusal)) ≡ read_text (numbers_of input) q
  unfolding reading_of read_text
  declined_as (Faulty m) r refusal e =
      let z : refusal ≡ refusal_of m = cc in
      let h = form_fault input m r in
      let below : m < 30 = h.1 in
      rw (ap refusal_number z ∙ h.0) (ap refused_text (sym (told_other m (λ e. omega arith))))
  declined_as (Held job) r refusal e = declined_held job r refusal (has_room (job_counts job) t) refl e

  given_as : (q : Read) → read_job input ≡ q → (s : Settings) (c : Counts) → Ok (s, c) ≡ reading_of q t → JobRead s c
  unfolding reading_of
  given_as (Faulty m) r s c e = let z : ◌≡◌ {A = ℕ} 0 1 = cc in let w : ⊥ = omega arith in absurd w
  given_as (Held job) r s c e = given_held job r s c (has_room (job_counts job) t) refl e

  module _ (s : Settings) (c : Counts) (holds : JobRead s c) where
    abbrev the_job : Job
    the_job = holds.job

    variants_are : c.variants ≡ length the_job.variants
    unfolding job_counts
    variants_are = ap (λ (x : Counts). x.variants) holds.counts_are

    parts_are : c.parts ≡ length (all_parts the_job)
    unfolding job_counts
    parts_are = ap (λ (x : Counts). x.parts) holds.counts_are

    breaks_are : c.breaks ≡ length (breaks_of the_job.haplotypes)
    unfolding job_counts
    breaks_are = ap (λ (x : Counts). x.breaks) holds.counts_are

    few_rows : (length the_job.variants ≤ 16) × (length (all_parts the_job) ≤ 128)
    few_rows = few_of the_job holds.held holds.enough

    variant_length : {A : Type 0} (f : Variant → A) → length (map f the_job.variants) ≡ c.variants
    variant_length f = length-map the_job.variants f ∙ sym variants_are

    part_length : {A : Type 0} (f : Part → A) → length (map f (all_parts the_job)) ≡ c.parts
    part_length f = length-map (all_parts the_job) f ∙ sym parts_are

    -- as many numbers as variants, so they are placed at the front of their array
    numbers_many : length (numbers_of input) ≡ c.variants
    numbers_many = numbers_known input holds.held ∙ sym variants_are

    numbers_placed : numbers_held input ≡ placed (replicate 16 0) (numbers_of input)
    unfolding numbers_after
    numbers_placed =
        let n = numbers_many in
        let v = variants_are in
        let f = few_rows.0 in
        rw holds.held (simp (le-leb (length (numbers_of input)) 16 (omega arith), le-leb (length (numbers_of input)) (2 ^ 32) (omega arith)))

    numbers_front : take c.variants (numbers_held input) ≡ numbers_of input
    numbers_front = rw numbers_placed (take_placed (replicate 16 0) (numbers_of input) c.variants numbers_many)

    abbrev rest : List ℕ
    rest = drop (length (letters_of the_job)) t.letters

    cut_with : cut c.variants c.parts c.breaks (lent_with the_job t) ≡ held_in the_job rest
    unfolding held_in lent_with
    cut_with =
        rw (
          take_placed t.starts (map (λ (x : Variant). x.start) the_job.variants) c.variants (variant_length (λ (x : Variant). x.start)),
          take_placed t.ends (map (λ (x : Variant). x.end) the_job.variants) c.variants (variant_length (λ (x : Variant). x.end)),
          take_placed t.sizes (map (λ (x : Variant). x.size) the_job.variants) c.variants (variant_length (λ (x : Variant). x.size)),
          take_placed t.negatives (map (λ (x : Variant). x.negative) the_job.variants) c.variants (variant_length (λ (x : Variant). x.negative)),
          take_placed t.counts (map (λ (x : Variant). length x.letters) the_job.variants) c.variants (variant_length (λ (x : Variant). length x.letters)),
          take_placed t.part_sizes (map (λ (x : Part). x.size) (all_parts the_job)) c.parts (part_length (λ (x : Part). x.size)),
          take_placed t.part_negatives (map (λ (x : Part). x.negative) (all_parts the_job)) c.parts (part_length (λ (x : Part). x.negative)),
          take_placed t.part_counts (map (λ (x : Part). length x.letters) (all_parts the_job)) c.parts (part_length (λ (x : Part). length x.letters)),
          take_placed t.breaks (breaks_of the_job.haplotypes) c.breaks (sym breaks_are),
        )

    letters_few : length (letters_of the_job ++ rest) ≤ 32768
    letters_few =
        let l = letters_within input the_job holds.held in
        let r = room.letters in
        rw (length-append, length-drop) (omega arith)

    module _ (u : Lent) (after : u ≡ lent_after (read_job input) t) where
      u_is : u ≡ lent_with the_job t
      unfolding lent_after
      u_is = after ∙ rw (holds.held, holds.enough)

      cut_is : cut c.variants c.parts c.breaks u ≡ held_in the_job rest
      cut_is = ap (cut c.variants c.parts c.breaks) u_is ∙ cut_with

      given_front : Front s.letters c.variants c.parts c.breaks (numbers_held input) u
      unfolding lent_with
      given_front =
          let v = variants_are in
          let p = parts_are in
          let some = some_held input the_job holds.held in
          let few = few_breaks input the_job holds.held in
          let known : s.letters ≤ 1 = rw holds.settings_are (letters_known input holds.held) in
          let f : Fits s.letters (cut c.variants c.parts c.breaks (lent_with the_job t)) =
          rw cut_with (fits_held the_job rest some few_rows.0 few_rows.1 few letters_few known) in
          let n : c.variants ≤ length (numbers_held input) = rw numbers_placed (placed_long (replicate 16 0) (numbers_of input) c.variants (sym numbers_many)) in
          rw u_is record {
            numbered = n;
            starts = placed_long t.starts (map (λ (x : Variant). x.start) the_job.variants) c.variants (simp length-map v);
            ends = placed_long t.ends (map (λ (x : Variant). x.end) the_job.variants) c.variants (simp length-map v);
            sizes = placed_long t.sizes (map (λ (x : Variant). x.size) the_job.variants) c.variants (simp length-map v);
            negatives = placed_long t.negatives (map (λ (x : Variant). x.negative) the_job.variants) c.variants (simp length-map v);
            counts = placed_long t.counts (map (λ (x : Variant). length x.letters) the_job.variants) c.variants (simp length-map v);
            part_sizes = placed_long t.part_sizes (map (λ (x : Part). x.size) (all_parts the_job)) c.parts (simp length-map p);
            part_negatives = placed_long t.part_negatives (map (λ (x : Part). x.negative) (all_parts the_job)) c.parts (simp length-map p);
            part_counts = placed_long t.part_counts (map (λ (x : Part). length x.letters) (all_parts the_job)) c.parts (simp length-map p);
            breaks = placed_long t.breaks (breaks_of the_job.haplotypes) c.breaks breaks_are;
            fits = f;
          }

      given_text : held_text s (take c.variants (numbers_held input)) (cut c.variants c.parts c.breaks u) ≡ read_text (numbers_of input) (read_job input)
      given_text =
          rw (numbers_front, cut_is)
          (ap (λ (x : Settings). held_text x (numbers_of input) (held_in the_job rest)) holds.settings_are
          ∙ text_held the_job rest (some_held input the_job holds.held) few_rows.0 (numbers_of input)
          ∙ ap (read_text (numbers_of input)) (sym holds.held))

  -- what the reader said, either way
  module _ (u : Lent) (after : u ≡ lent_after (read_job input) t) {numbers : List ℕ} (stand : numbers ≡ numbers_held input) where
    pub reading_loaded : (read : Result (Settings × Counts) Refusal) → read ≡ reading_of (read_job input) t → Loaded read numbers u
    reading_loaded (Err refusal) e = tt
    reading_loaded (Ok (s, c)) e = rw stand (given_front s c (given_as (read_job input) refl s c e) u after)

    pub reading_text_lem : (read : Result (Settings × Counts) Refusal) → read ≡ reading_of (read_job input) t → reading_text read numbers u ≡ read_text (numbers_of input) (read_job input)
    unfolding reading_text
    reading_text_lem (Err refusal) e = declined_as (read_job input) refl refusal e
    reading_text_lem (Ok (s, c)) e = rw stand (given_text s c (given_as (read_job input) refl s c e) u after)
