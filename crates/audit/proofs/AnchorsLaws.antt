-- Nothing is less than 0: no larger start is less than the smaller end, and neither interval lies inside the other.
use native.Mathlib.Omega.{arith}
use mathlib.Core.Path.{◌≡◌, ◌∙◌}
use mathlib.Core.Bool.{false}
use Prim.Native.Nat.{ℕ}
use borrow.Author.Tests.{le-ltb}
use Rattle.metrics.specs.Similarity.{overlaps_of}
use Rattle.metrics.proofs.OverlapLaws.{overlap_rule}
use Rattle.audit.specs.Anchors.{Anchors}

first : (start end : ℕ) → overlaps_of 0 0 start end ≡ false
first start end = overlap_rule.inside 0 start end ∙ rw (le-ltb start 0 (omega arith))

pub anchors : Anchors
anchors = record { as_first = first; as_second = λ start end. overlap_rule.symmetric start end 0 0 ∙ first start end }
