-- The promise of the public function, said once: its `ensures` and `Unique` (crates/audit) cite it by name.
-- Its arguments are the function's own, in their order, by what is held at entry; then what the `&mut` holds at exit; then the result r.
use Rattle.std.specs.Prelude.{ℕ, ◌≡◌, List, length}
use Rattle.metrics.specs.Placed.{placed}
use Rattle.desk.specs.Desk.{desk_text}

abbrev pub AnswerPromise : List ℕ → List ℕ → List ℕ → ℕ → Type 0
AnswerPromise input out out' r = (r ≡ length (desk_text input)) × (out' ≡ placed out (desk_text input))
