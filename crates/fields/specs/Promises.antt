-- The promise of each public function, said once: the function's `ensures` and `Unique` (crates/audit) cite it by name.
-- Its arguments are the function's own, in their order, a lent slice by what it holds at entry; then what each `&mut` holds at exit; then the result r.
-- A store past the end of a list leaves it as it is (`set`, `sets`).
use Rattle.std.specs.Prelude.{ℕ, ◌≡◌, List, ℤ, get_or, set, Float}
use Rattle.std.proofs.lemmas.List.Edits.{sets}
use Rattle.std.specs.Float.{binary32}
use Rattle.std.specs.Float.Ieee.{of_bits}
use Rattle.fields.specs.Fields.{le4, le8, signed_of, word_of, bytes4, bytes8}

abbrev pub U8AtPromise : List ℕ → ℕ → ℕ → Type 0
U8AtPromise s at r = r ≡ get_or s at 0

abbrev pub U32AtPromise : List ℕ → ℕ → ℕ → Type 0
U32AtPromise s at r = r ≡ le4 s at

abbrev pub U64AtPromise : List ℕ → ℕ → ℕ → Type 0
U64AtPromise s at r = r ≡ le8 s at

abbrev pub I32OfPromise : ℕ → ℤ → Type 0
I32OfPromise x r = r ≡ signed_of x

abbrev pub U32OfPromise : ℤ → ℕ → Type 0
U32OfPromise z r = r ≡ word_of z

abbrev pub FloatOfPromise : ℕ → Float → Type 0
FloatOfPromise n r = r ≡ of_bits binary32 n

abbrev pub PutU8Promise : List ℕ → ℕ → ℕ → List ℕ → Type 0
PutU8Promise out at x out' = out' ≡ set out at x

abbrev pub PutU32Promise : List ℕ → ℕ → ℕ → List ℕ → Type 0
PutU32Promise out at x out' = out' ≡ sets out at (bytes4 x)

abbrev pub PutU64Promise : List ℕ → ℕ → ℕ → List ℕ → Type 0
PutU64Promise out at x out' = out' ≡ sets out at (bytes8 x)
