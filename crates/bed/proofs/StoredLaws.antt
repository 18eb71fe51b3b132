-- Text stored at the front of a slice that has room for it. Assumes nothing.
use Prim.Native.Nat.{ℕ, ◌≤◌}
use native.Mathlib.Omega.{arith}
use native.Mathlib.Nat.{zero-add}
use mathlib.Core.Path.{◌≡◌, ap, ◌∙◌}
use mathlib.Core.List.{List}
use lib.ListN.{length, take, drop}
use lib.Seq.{sets-eq, length-sets, take-append_seam}
use Rattle.metrics.specs.Placed.{placed}
use Rattle.text.specs.Written.{Written}

module _ (old xs : List ℕ) {new : List ℕ} {r : ℕ} (w : Written old 0 xs new r) (room : length xs ≤ length old) where
  pub stored_length : r ≡ length xs
  stored_length = let n = w.next in omega arith

  pub stored_placed : new ≡ placed old xs
  stored_placed = w.is ∙ sets-eq xs old 0 (omega arith) ∙ rw (zero-add (length xs))

  pub stored_front : take r new ≡ xs
  stored_front = ap (λ (n : ℕ). take n new) stored_length ∙ ap (take (length xs)) stored_placed ∙ take-append_seam xs (drop (length xs) old)

  pub stored_within : r ≤ length new
  stored_within = let e = stored_length in let k = ap length w.is ∙ length-sets old 0 xs in omega arith
