-- The promise of each public function, said once: the function's `ensures` and `Unique` (crates/audit) cite it by name.
-- Its arguments are the function's own, in their order, a lent slice by what it holds at entry; then what each `&mut` holds at exit; then the result r.
use Rattle.std.specs.Prelude.{ℕ, ◌≡◌, List, length, Result}
use Rattle.metrics.specs.declared.refusals.Refusal.{Refusal}
use Rattle.editions.specs.Moving.{moved_over, moving_of, out_after}

abbrev pub MoveJobPromise : List ℕ → ℕ → List ℕ → List ℕ → Result ℕ Refusal → Type 0
MoveJobPromise job edition out out' r = (r ≡ moving_of edition job (length out)) × (out' ≡ out_after r (moved_over job) out)
