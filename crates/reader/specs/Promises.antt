-- The promise of each public function, said once: the function's `ensures` and `Unique` (crates/audit) cite it by name.
-- Its arguments are the function's own, in their order, a lent slice by what it holds at entry; then what each `&mut` holds at exit; then the result r.
use Rattle.std.specs.Prelude.{ℕ, ◌≡◌, Bool, List, ℤ, length, Result}
use Rattle.metrics.specs.declared.refusals.Refusal.{Refusal}
use Rattle.params.specs.declared.Settings.{Settings}
use Rattle.form.specs.declared.records.Counts.{Counts}
use Rattle.form.specs.Job.{read_job, numbers_of}
use Rattle.form.specs.Lent.{lent}
use Rattle.reader.specs.Reading.{reading_of, lent_after, numbering_of, numbers_after}

abbrev pub ReadJobPromise : List ℕ → List ℕ → List ℕ → List ℤ → List Bool → List ℕ → List ℤ → List Bool → List ℕ → List ℕ → List ℕ
    → List ℕ → List ℕ → List ℤ → List Bool → List ℕ → List ℤ → List Bool → List ℕ → List ℕ → List ℕ → Result (Settings × Counts) Refusal → Type 0
ReadJobPromise bytes starts ends sizes negatives letterCounts part_sizes part_negatives partLetterCounts breaks letters
    starts' ends' sizes' negatives' letterCounts' partSizes' partNegatives' partLetterCounts' breaks' letters' r =
    let t = lent starts ends sizes negatives letterCounts part_sizes part_negatives partLetterCounts breaks letters in
    let u = lent starts' ends' sizes' negatives' letterCounts' partSizes' partNegatives' partLetterCounts' breaks' letters' in
    (r ≡ reading_of (read_job bytes) t) × (u ≡ lent_after (read_job bytes) t)

abbrev pub ReadNumbersPromise : List ℕ → List ℕ → List ℕ → Result ℕ Refusal → Type 0
ReadNumbersPromise bytes numbers numbers' r =
    (r ≡ numbering_of (read_job bytes) (numbers_of bytes) (length numbers)) × (numbers' ≡ numbers_after (read_job bytes) (numbers_of bytes) numbers)
