-- Document 01, "Job form", and change requests P1 and P7: a writer makes the same bytes from the same job (`job_bytes` is a function of it, of its record numbers and of the edition);
-- reading them back gives the job, the edition and the record numbers, said once over both editions.
use Rattle.std.specs.Prelude.{ℕ, ◌≡◌, List, true, length, Ok}
use Rattle.params.specs.declared.Settings.{Settings}
use Rattle.form.specs.Job.{Job, Held, read_job, job_bytes, edition_of, row_numbers, numbers_of}
use Rattle.metrics.specs.Placed.{placed}
use Rattle.form.specs.Lent.{Lent, job_counts}
use Rattle.reader.specs.Reading.{has_room, lent_with, reading_of, lent_after, numbers_fit, numbering_of, numbers_after}
use Rattle.writer.specs.Writing.{job_from, agree, numbers_agree, writing_of}
use Rattle.writer.specs.Holds.{SettingsHold, JobHolds, NumbersHold, LentHolds}
use Rattle.form.specs.declared.records.Counts.{Counts}
use Rattle.form.specs.declared.records.Edition.{Edition}
use Rattle.form.specs.declared.records.Edition.TheVariants.{One, Two}

-- the slices of t at the fronts of those of u, whose rest is as it was
unfoldable pub laid_over : Lent → Lent → Lent
laid_over u t = record {
  starts = placed u.starts t.starts;
  ends = placed u.ends t.ends;
  sizes = placed u.sizes t.sizes;
  negatives = placed u.negatives t.negatives;
  counts = placed u.counts t.counts;
  part_sizes = placed u.part_sizes t.part_sizes;
  part_negatives = placed u.part_negatives t.part_negatives;
  part_counts = placed u.part_counts t.part_counts;
  breaks = placed u.breaks t.breaks;
  letters = placed u.letters t.letters;
}

-- V is the number of starts, m the number of part sizes
unfoldable pub lent_counts : Lent → Counts
lent_counts t = record { variants = length t.starts; parts = length t.part_sizes; breaks = length t.breaks; letters = length t.letters }

-- the record numbers that a job of v variants keeps: edition 1 has no place for them, and its variants have their row numbers
unfoldable pub numbers_kept : Edition → List ℕ → ℕ → List ℕ
numbers_kept One numbers v = row_numbers v
numbers_kept Two numbers v = numbers

pub record RoundTrip : Type 0 where
  pub job_back : (e : Edition) (numbers : List ℕ) (job : Job) → JobHolds e job → read_job (job_bytes e numbers job) ≡ Held job
  pub edition_back : (e : Edition) (numbers : List ℕ) (job : Job) → edition_of (job_bytes e numbers job) ≡ e
  -- as many as variants where the edition has a place for them
  pub numbers_back : (e : Edition) (numbers : List ℕ) (job : Job) → JobHolds e job → NumbersHold numbers → numbers_agree e (length numbers) (length job.variants) ≡ true
      → numbers_of (job_bytes e numbers job) ≡ numbers_kept e numbers (length job.variants)
  -- and so for whatever the writer accepts: reading what it wrote gives the job that the slices held, and the record numbers
  pub written_back : (e : Edition) (numbers : List ℕ) → NumbersHold numbers → (s : Settings) → SettingsHold s → (t : Lent) → LentHolds t
      → (room n : ℕ) → writing_of e numbers s t room ≡ Ok n
      → (read_job (job_bytes e numbers (job_from s t)) ≡ Held (job_from s t))
      × (numbers_of (job_bytes e numbers (job_from s t)) ≡ numbers_kept e numbers (length t.starts))
  -- that job holds all that lent slices whose lengths agree hold: every row, break and letter of them comes back, into any other slices
  pub slices_back : (s : Settings) (t u : Lent) → agree t ≡ true → lent_with (job_from s t) u ≡ laid_over u t
  pub counts_back : (s : Settings) (t : Lent) → agree t ≡ true → job_counts (job_from s t) ≡ lent_counts t
  -- and so from slices to slices, where they have the room: the reader answers the settings and the counts that the writer was given,
  -- and the slices lent to it hold at their fronts what the writer's held
  pub read_back : (e : Edition) (numbers : List ℕ) → NumbersHold numbers → (s : Settings) → SettingsHold s → (t : Lent) → LentHolds t
      → (room n : ℕ) → writing_of e numbers s t room ≡ Ok n → (u : Lent) → has_room (lent_counts t) u ≡ true
      → (reading_of (read_job (job_bytes e numbers (job_from s t))) u ≡ Ok (s, lent_counts t))
      × (lent_after (read_job (job_bytes e numbers (job_from s t))) u ≡ laid_over u t)
  -- the record numbers likewise, in a slice of their own
  pub numbers_read_back : (e : Edition) (numbers : List ℕ) → NumbersHold numbers → (s : Settings) → SettingsHold s → (t : Lent) → LentHolds t
      → (room n : ℕ) → writing_of e numbers s t room ≡ Ok n → (old : List ℕ) → numbers_fit (numbers_kept e numbers (length t.starts)) (length old) ≡ true
      → (numbering_of (read_job (job_bytes e numbers (job_from s t))) (numbers_of (job_bytes e numbers (job_from s t))) (length old) ≡ Ok (length t.starts))
      × (numbers_after (read_job (job_bytes e numbers (job_from s t))) (numbers_of (job_bytes e numbers (job_from s t))) old ≡ placed old (numbers_kept e numbers (length t.starts)))
