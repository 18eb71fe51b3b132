-- The promise of each public function, said once: the function's `ensures` and `Unique` (crates/audit) cite it by name.
-- Its arguments are the function's own, in their order, a lent slice by what it holds at entry; then what each `&mut` holds at exit; then the result r.
use Rattle.std.specs.Prelude.{ℕ, ◌≡◌, List, length, Result}
use Rattle.metrics.specs.declared.refusals.Refusal.{Refusal}
use Rattle.metrics.specs.Placed.{placed}
use Rattle.bed.specs.Reading.{name_in, starts_in, ends_in, read_fault, read_answer, unless_refused}
use Rattle.bed.specs.Writing.{rows_text, write_fault, write_answer}
use Rattle.bed.specs.declared.Counts.{Counts}

abbrev pub ReadBedPromise : List ℕ → List ℕ → List ℕ → List ℕ → List ℕ → List ℕ → List ℕ → Result Counts Refusal → Type 0
ReadBedPromise text starts ends name starts' ends' name' r =
    let fault = read_fault text (length starts) (length ends) in
    (r ≡ read_answer fault text)
    × ((starts' ≡ placed starts (unless_refused fault (starts_in text)))
    × ((ends' ≡ placed ends (unless_refused fault (ends_in text)))
    × (name' ≡ placed name (unless_refused fault (name_in text)))))

abbrev pub WriteBedPromise : List ℕ → List ℕ → List ℕ → List ℕ → List ℕ → List ℕ → Result ℕ Refusal → Type 0
WriteBedPromise name starts ends rows text text' r =
    let fault = write_fault name starts ends rows (length text) in
    (r ≡ write_answer fault (rows_text name starts ends rows)) × (text' ≡ placed text (unless_refused fault (rows_text name starts ends rows)))
