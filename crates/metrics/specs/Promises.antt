-- The promise of each public function, said once: the function's `ensures` and `Unique` (crates/audit) cite it by name.
-- Its arguments are the function's own, in their order, a lent slice by what it holds at entry; then what each `&mut` holds at exit; then the result r.
use Rattle.std.specs.Prelude.{◌≡◌, ℕ, min, Bool, List, length, replicate, ℤ, pos, nat_lt, to_bits, unsigned_abs, Float, Result}
use Rattle.std.specs.Float.{binary32}
use Rattle.metrics.specs.Letters.{counts_by, entry_count, counter_answer, row_after}
use Rattle.metrics.specs.Similarity.{sizesim_of, seqsim_value, seqsim_of, overlaps_of, magnitude_sum}
use Rattle.metrics.specs.declared.refusals.Refusal.{Refusal}
use Rattle.metrics.specs.Refusals.{told}

abbrev pub SizesimPromise : ℕ → ℕ → Result Float Refusal → Type 0
SizesimPromise a b r = r ≡ sizesim_of a b

abbrev pub SimilarityPromise : ℕ → ℕ → Float → Type 0
SimilarityPromise d n r = r ≡ seqsim_value (min d 16777216) (min n 16777216)

abbrev pub SeqsimPromise : List ℤ → List ℤ → ℕ → Result Float Refusal → Type 0
SeqsimPromise a b minkfreq r = r ≡ seqsim_of a b minkfreq

abbrev pub OverlapsPromise : ℕ → ℕ → ℕ → ℕ → Bool → Type 0
OverlapsPromise s1 e1 s2 e2 r = r ≡ overlaps_of s1 e1 s2 e2

abbrev pub SeqToKmerPromise : List ℕ → ℕ → Bool → ℕ → List ℤ → List ℤ → Result Unit Refusal → Type 0
SeqToKmerPromise seq k negative reading out out' r = (r ≡ counter_answer k reading seq out) × (out' ≡ row_after r (counts_by reading k negative seq) out)

abbrev pub ClearRowPromise : List ℤ → List ℤ → Type 0
ClearRowPromise row row' = row' ≡ replicate (length row) (pos 0)

abbrev pub EntriesPromise : ℕ → ℕ → Type 0
EntriesPromise k r = r ≡ entry_count k

abbrev pub MagnitudePromise : ℤ → ℕ → Type 0
MagnitudePromise x r = r ≡ unsigned_abs x

abbrev pub RowOverPromise : List ℤ → ℕ → Bool → Type 0
RowOverPromise a limit r = r ≡ nat_lt limit (magnitude_sum a)

abbrev pub BitsOfPromise : Float → ℕ → Type 0
BitsOfPromise x r = r ≡ to_bits binary32 x

abbrev pub ToldPromise : Result Unit Refusal → ℕ → Type 0
ToldPromise found r = r ≡ told found
