-- The entries of a feature row are 4 to the k up to k 6, and never more than 4,096. Assumes nothing.
use Rattle.std.proofs.Common.{◌≡◌, ℕ, ◌^◌, ◌≤◌, Bool, true, false, cond, leb, refl, arith, le-leb, leb-true}
use native.Mathlib.Nat.{pow-le-pow_right}
use borrow.Author.Tests.{lt-leb}
use Rattle.metrics.specs.Letters.{entry_count}

pub power : (k : ℕ) → k ≤ 6 → entry_count k ≡ 4 ^ k
unfolding entry_count
power k h = rw (le-leb k 6 h)

pub no_row : (k : ℕ) → 7 ≤ k → 0 ≡ entry_count k
unfolding entry_count
no_row k h = rw (lt-leb k 6 h)

pub few_entries : (k : ℕ) → k ≤ 6 → 4 ^ k ≤ 4096
few_entries k h = pow-le-pow_right {n = 4} (omega arith) {j = 6} h

pub never_more : (k : ℕ) → entry_count k ≤ 4096
unfolding entry_count
never_more k = go (leb k 6) refl
  where
    go : (b : Bool) → leb k 6 ≡ b → cond b (4 ^ k) 0 ≤ 4096
    go true e = few_entries k (leb-true k 6 e)
    go false e = omega arith
