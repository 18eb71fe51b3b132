-- The promise of each public function, said once: the function's `ensures` and `Unique` (crates/audit) cite it by name.
-- Its arguments are the function's own, in their order, what is lent by what it holds at entry; then what each `&mut` holds at exit; then the result r.
use Rattle.std.specs.Prelude.{ℕ, ◌≡◌, Bool, List, Result}
use Rattle.metrics.specs.declared.refusals.Refusal.{Refusal}
use Rattle.metrics.specs.Refusals.{told}
use Rattle.companions.specs.Companions.{lent_of}
use Rattle.companions.specs.Changes.{add_fault, remove_fault, added_to, taken_from, changed_unless}
use Rattle.companions.specs.Questions.{pair_of, later_in}

abbrev pub AddPromise : List ℕ → List ℕ → List Bool → ℕ → ℕ → ℕ → List ℕ → List ℕ → List Bool → ℕ → Result Unit Refusal → Type 0
AddPromise starts ends sheet rows start end starts' ends' sheet' rows' r =
    let c = lent_of starts ends sheet rows in
    (told r ≡ add_fault c start end) × (lent_of starts' ends' sheet' rows' ≡ changed_unless (add_fault c start end) (added_to c start end) c)

abbrev pub RemovePromise : List ℕ → List ℕ → List Bool → ℕ → List Bool → ℕ → Result Unit Refusal → Type 0
RemovePromise starts ends sheet rows sheet' rows' r =
    let c = lent_of starts ends sheet rows in
    (told r ≡ remove_fault c) × (lent_of starts ends sheet' rows' ≡ changed_unless (remove_fault c) (taken_from c) c)

abbrev pub TogetherPromise : List ℕ → List ℕ → List Bool → ℕ → ℕ → ℕ → Result Bool Refusal → Type 0
TogetherPromise starts ends sheet rows a b r = r ≡ pair_of (lent_of starts ends sheet rows) a b

abbrev pub CountPromise : List ℕ → List ℕ → List Bool → ℕ → ℕ → Result ℕ Refusal → Type 0
CountPromise starts ends sheet rows row r = r ≡ later_in (lent_of starts ends sheet rows) row
