-- The value of a similarity, or the 0.0 that C is handed where it is refused. Assumes nothing.
use Rattle.std.proofs.Common.{◌≡◌, refl}
use Rattle.std.specs.Prelude.{Result, Ok, Err, Float}
use Rattle.std.specs.Result.{result_unwrap_or}
use lib.Ieee.{of_bits, binary32}
use Rattle.metrics.specs.declared.refusals.Refusal.{Refusal}
use Rattle.metrics.specs.Similarity.{value}
use Rattle.metrics.proofs.Casts.{zero_is}

pub value_is : (r : Result Float Refusal) → result_unwrap_or r (of_bits binary32 0) ≡ value r
value_is (Ok x) = refl
value_is (Err refusal) = zero_is
