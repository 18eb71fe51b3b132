-- The promise of each public function, said once: the function's `ensures` and `Unique` (crates/audit) cite it by name.
-- Its arguments are the function's own, in their order, a lent slice by what it holds at entry; then what each `&mut` holds at exit; then the result r.
use Rattle.std.specs.Prelude.{ℕ, ◌≡◌, Bool, List, [], ℤ, length, Result}
use Rattle.metrics.specs.declared.refusals.Refusal.{Refusal}
use Rattle.params.specs.declared.Settings.{Settings}
use Rattle.form.specs.Job.{job_bytes}
use Rattle.form.specs.Lent.{Lent, lent}
use Rattle.form.specs.declared.records.Edition.{Edition}
use Rattle.form.specs.declared.records.Edition.TheVariants.{One, Two}
use Rattle.writer.specs.Writing.{job_from, writing_of, out_after}

-- a job written in an edition, with the record numbers beside it
abbrev pub WrittenBy : Edition → List ℕ → Settings → Lent → List ℕ → List ℕ → Result ℕ Refusal → Type 0
WrittenBy e numbers settings t out out' r = (r ≡ writing_of e numbers settings t (length out)) × (out' ≡ out_after r (job_bytes e numbers (job_from settings t)) out)

-- in edition 1, which has no place for record numbers
abbrev pub WriteJobPromise : Settings → List ℕ → List ℕ → List ℤ → List Bool → List ℕ → List ℤ → List Bool → List ℕ → List ℕ → List ℕ → List ℕ
    → List ℕ → Result ℕ Refusal → Type 0
WriteJobPromise settings starts ends sizes negatives letterCounts part_sizes part_negatives partLetterCounts breaks letters out out' r =
    WrittenBy One [] settings (lent starts ends sizes negatives letterCounts part_sizes part_negatives partLetterCounts breaks letters) out out' r

-- in edition 2
abbrev pub WriteNumberedJobPromise : Settings → List ℕ → List ℕ → List ℕ → List ℤ → List Bool → List ℕ → List ℤ → List Bool → List ℕ → List ℕ → List ℕ → List ℕ
    → List ℕ → Result ℕ Refusal → Type 0
WriteNumberedJobPromise settings numbers starts ends sizes negatives letterCounts part_sizes part_negatives partLetterCounts breaks letters out out' r =
    WrittenBy Two numbers settings (lent starts ends sizes negatives letterCounts part_sizes part_negatives partLetterCounts breaks letters) out out' r
