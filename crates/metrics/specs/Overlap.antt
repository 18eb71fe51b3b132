-- Document 02, P5: what the rule of overlap comes to, said without its order of asking.
use Rattle.std.specs.Prelude.{◌≡◌, ℕ, ◌<◌, min, max, false, ◌&&◌, nat_lt}
use Rattle.metrics.specs.Similarity.{overlaps_of}

pub record OverlapRule : Type 0 where
  -- it is the same, whichever interval is asked first
  pub symmetric : (s1 e1 s2 e2 : ℕ) → overlaps_of s1 e1 s2 e2 ≡ overlaps_of s2 e2 s1 e1
  -- a zero-length interval overlaps one exactly when that one's start is less than it and its end is greater
  pub inside : (p start end : ℕ) → overlaps_of p p start end ≡ (nat_lt start p && nat_lt p end)
  -- two zero-length intervals never overlap
  pub points : (p q : ℕ) → overlaps_of p p q q ≡ false
  -- two intervals that have a length overlap as document 01 says
  pub lengths : (s1 e1 s2 e2 : ℕ) → s1 < e1 → s2 < e2 → overlaps_of s1 e1 s2 e2 ≡ nat_lt (max s1 s2) (min e1 e2)
