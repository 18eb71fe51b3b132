-- The promise of each public function, said once: the function's `ensures` and `Unique` (crates/audit) cite it by name.
-- Its arguments are the function's own, in their order, what is lent by what it holds at entry; then what each `&mut` holds at exit; then the result r.
use Rattle.std.specs.Prelude.{ℕ, ◌≡◌, List, Result}
use Rattle.metrics.specs.declared.refusals.Refusal.{Refusal}
use Rattle.metrics.specs.Refusals.{told}
use Rattle.book.specs.Book.{settings_at}
use Rattle.book.specs.Changes.{read_fault, changed_unless, saved_of, after_save, restored_of, after_restore}

abbrev pub SavePromise : List ℕ → List ℕ → List ℕ → Result ℕ Refusal → Type 0
SavePromise book settings book' r = (r ≡ saved_of book settings) × (book' ≡ after_save book settings)

abbrev pub ReadPromise : List ℕ → ℕ → List ℕ → List ℕ → Result Unit Refusal → Type 0
ReadPromise book version settings settings' r =
    (told r ≡ read_fault book version) × (settings' ≡ changed_unless (read_fault book version) (settings_at book version) settings)

abbrev pub RestorePromise : List ℕ → ℕ → List ℕ → Result ℕ Refusal → Type 0
RestorePromise book version book' r = (r ≡ restored_of book version) × (book' ≡ after_restore book version)
