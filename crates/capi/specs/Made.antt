-- What was made, or stands in its place, and the call's number. No public promise cites this file.
use Rattle.std.specs.Prelude.{ℕ, Result, Ok, Err}
use Rattle.metrics.specs.Refusals.{refusal_number}
use Rattle.meta.specs.declared.HaplotypeMeta.{HaplotypeMeta}
use Rattle.meta.specs.declared.NotMade.{NotMade}

abbrev pub made_number : Result HaplotypeMeta NotMade → ℕ
made_number (Ok m) = 0
made_number (Err n) = refusal_number n.refusal

abbrev pub made_data : Result HaplotypeMeta NotMade → HaplotypeMeta
made_data (Ok m) = m
made_data (Err n) = n.meta
