-- How text comes to stand in a lent slice: what does not fit is not written.
use Rattle.std.specs.Prelude.{ℕ, ◌+◌, ◌-◌, min, ◌≡◌, List, length}
use Rattle.std.proofs.lemmas.List.Edits.{sets}

-- the place behind the bytes xs, or behind as many of them as there is room for from place at on
abbrev pub behind : List ℕ → ℕ → List ℕ → ℕ
behind out at xs = at + min (length xs) (length out - at)

-- from old to new: xs is stored from place at on, and r is the place behind it
pub record Written (old : List ℕ) (at : ℕ) (xs new : List ℕ) (r : ℕ) : Type 0 where
  pub next : r ≡ behind old at xs
  pub is : new ≡ sets old at xs
