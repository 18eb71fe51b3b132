-- What C is told of a move: how many bytes were written, 0 on a refusal.
use Rattle.std.specs.Prelude.{ℕ, Result, Ok, Err}
use Rattle.metrics.specs.declared.refusals.Refusal.{Refusal}

abbrev pub moving_bytes : Result ℕ Refusal → ℕ
moving_bytes (Ok n) = n
moving_bytes (Err refusal) = 0
