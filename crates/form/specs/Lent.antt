-- Document 01, "Job form": a job in ten lent slices, as the reader fills and the writer takes them, and its counts.
use Rattle.std.specs.Prelude.{ℕ, ◌+◌, List, [], ◌∷◌, ◌++◌, Bool, ℤ, length, Result, Ok, Err}
use Rattle.form.specs.Job.{Variant, Part, Job, all_parts, Read, Faulty, Held}
use Rattle.form.specs.declared.records.Counts.{Counts}
use Rattle.metrics.specs.declared.refusals.Refusal.{Refusal}
use Rattle.metrics.specs.Refusals.{refusal_of}

-- what the ten lent slices hold: a row of five for a variant, of three for a part, how many parts stand before each haplotype but the first, and the letters of all
pub record Lent : Type 0 where
  pub starts : List ℕ
  pub ends : List ℕ
  pub sizes : List ℤ
  pub negatives : List Bool
  pub counts : List ℕ
  pub part_sizes : List ℤ
  pub part_negatives : List Bool
  pub part_counts : List ℕ
  pub breaks : List ℕ
  pub letters : List ℕ

abbrev pub lent : List ℕ → List ℕ → List ℤ → List Bool → List ℕ → List ℤ → List Bool → List ℕ → List ℕ → List ℕ → Lent
lent starts ends sizes negatives counts part_sizes part_negatives part_counts breaks letters = record {
  starts = starts;
  ends = ends;
  sizes = sizes;
  negatives = negatives;
  counts = counts;
  part_sizes = part_sizes;
  part_negatives = part_negatives;
  part_counts = part_counts;
  breaks = breaks;
  letters = letters;
}

-- the letters of all variants, one sequence behind the other, and of all parts
unfoldable pub variant_letters : List Variant → List ℕ
variant_letters [] = []
variant_letters (x ∷ xs) = x.letters ++ variant_letters xs

unfoldable pub part_letters : List Part → List ℕ
part_letters [] = []
part_letters (x ∷ xs) = x.letters ++ part_letters xs

abbrev pub letters_of : Job → List ℕ
letters_of job = variant_letters job.variants ++ part_letters (all_parts job)

-- where haplotypes begin, before which n parts stand
unfoldable pub breaks_from : ℕ → List (List Part) → List ℕ
breaks_from n [] = []
breaks_from n (xs ∷ rest) = n ∷ breaks_from (n + length xs) rest

-- how many parts stand before each haplotype but the first
unfoldable pub breaks_of : List (List Part) → List ℕ
breaks_of [] = []
breaks_of (first ∷ rest) = breaks_from (length first) rest

unfoldable pub job_counts : Job → Counts
job_counts job = record { variants = length job.variants; parts = length (all_parts job); breaks = length (breaks_of job.haplotypes); letters = length (letters_of job) }

-- the first pass: the first fault, or the counts
unfoldable pub scan_of : Read → Result Counts Refusal
scan_of (Faulty n) = Err (refusal_of n)
scan_of (Held job) = Ok (job_counts job)

-- the letters of several rows, by their counts
unfoldable pub sum : List ℕ → ℕ
sum [] = 0
sum (n ∷ ns) = n + sum ns
