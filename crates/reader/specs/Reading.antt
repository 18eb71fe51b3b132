-- Document 01, "Job form", and change requests P1 and P7: what reading a job into lent slices answers, and what the slices hold then.
use Rattle.std.specs.Prelude.{ℕ, ◌^◌, List, map, Bool, ◌&&◌, cond, length, leb, Result, Ok, Err}
use Rattle.metrics.specs.declared.refusals.Refusal.{Refusal}
use Rattle.metrics.specs.declared.refusals.Refusal.TheVariants.{LittleRoom}
use Rattle.metrics.specs.Refusals.{refusal_of}
use Rattle.metrics.specs.Placed.{placed}
use Rattle.params.specs.declared.Settings.{Settings}
use Rattle.form.specs.declared.records.Counts.{Counts}
use Rattle.form.specs.Job.{Variant, Part, Job, all_parts, Read, Faulty, Held}
use Rattle.form.specs.Lent.{Lent, letters_of, breaks_of, job_counts}

-- a row in each slice for each of n
unfoldable pub five : ℕ → ℕ → ℕ → ℕ → ℕ → ℕ → Bool
five n a b c d e = leb n a && (leb n b && (leb n c && (leb n d && leb n e)))

unfoldable pub three : ℕ → ℕ → ℕ → ℕ → Bool
three n a b c = leb n a && (leb n b && leb n c)

abbrev pub has_room : Counts → Lent → Bool
has_room c t =
    five c.variants (length t.starts) (length t.ends) (length t.sizes) (length t.negatives) (length t.counts)
    && (three c.parts (length t.part_sizes) (length t.part_negatives) (length t.part_counts)
    && (leb c.breaks (length t.breaks) && leb c.letters (length t.letters)))

unfoldable pub lent_with : Job → Lent → Lent
lent_with job t = record {
  starts = placed t.starts (map (λ (x : Variant). x.start) job.variants);
  ends = placed t.ends (map (λ (x : Variant). x.end) job.variants);
  sizes = placed t.sizes (map (λ (x : Variant). x.size) job.variants);
  negatives = placed t.negatives (map (λ (x : Variant). x.negative) job.variants);
  counts = placed t.counts (map (λ (x : Variant). length x.letters) job.variants);
  part_sizes = placed t.part_sizes (map (λ (x : Part). x.size) (all_parts job));
  part_negatives = placed t.part_negatives (map (λ (x : Part). x.negative) (all_parts job));
  part_counts = placed t.part_counts (map (λ (x : Part). length x.letters) (all_parts job));
  breaks = placed t.breaks (breaks_of job.haplotypes);
  letters = placed t.letters (letters_of job);
}

-- the second pass: the first fault, 30 where a slice is too small, or the settings and the counts; a refusal changes nothing
unfoldable pub reading_of : Read → Lent → Result (Settings × Counts) Refusal
reading_of (Faulty n) t = Err (refusal_of n)
reading_of (Held job) t = cond (has_room (job_counts job) t) (Ok (job.settings, job_counts job)) (Err LittleRoom)

unfoldable pub lent_after : Read → Lent → Lent
lent_after (Faulty n) t = t
lent_after (Held job) t = cond (has_room (job_counts job) t) (lent_with job t) t

-- Document 02, P7: the record numbers by themselves, at the front of a slice of their own: the first fault, 30 where they have no room, or how many they are.
-- A record number is of 32 bits, so there is room for 2^32 of them at the most.
abbrev pub numbers_fit : List ℕ → ℕ → Bool
numbers_fit numbers room = leb (length numbers) room && leb (length numbers) (2 ^ 32)

unfoldable pub numbering_of : Read → List ℕ → ℕ → Result ℕ Refusal
numbering_of (Faulty n) numbers room = Err (refusal_of n)
numbering_of (Held job) numbers room = cond (numbers_fit numbers room) (Ok (length numbers)) (Err LittleRoom)

unfoldable pub numbers_after : Read → List ℕ → List ℕ → List ℕ
numbers_after (Faulty n) numbers old = old
numbers_after (Held job) numbers old = cond (numbers_fit numbers (length old)) (placed old numbers) old
