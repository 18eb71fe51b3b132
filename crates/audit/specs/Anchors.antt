-- Document 01, "Parts, graph, paths": source and sink are 0 to 0 and overlap nothing. So in a full graph a chain may begin and end with any row.
use Rattle.std.specs.Prelude.{ℕ, ◌≡◌, false}
use Rattle.metrics.specs.Similarity.{overlaps_of}

pub record Anchors : Type 0 where
  pub as_first : (start end : ℕ) → overlaps_of 0 0 start end ≡ false
  pub as_second : (start end : ℕ) → overlaps_of start end 0 0 ≡ false
