-- Document 02, P10: how far seqsim is off. Over the exact value of a float: `HasValue x false s c` says that x is finite, not negative, and s / c.
use Rattle.std.specs.Prelude.{◌≡◌, ℕ, ◌<◌, ◌≤◌, false, List, ℤ, pos, ◌-ℤ◌, ◌*ℤ◌, unsigned_abs, Float, Ok}
use Rattle.std.specs.Float.Ieee.Exact.{HasValue}
use Rattle.metrics.specs.Similarity.{sum_d, sum_n, seqsim_of}

-- x times 16,777,216 is the whole number S
abbrev pub Times : Float → ℕ → Type 0
Times x S = HasValue x false S 16777216

-- |S × d − (d − n) × 16,777,216|
abbrev pub off : ℕ → ℕ → ℕ → ℕ
off S d n = unsigned_abs (pos S *ℤ pos d -ℤ (pos d -ℤ pos n) *ℤ pos 16777216)

-- with d above zero, seqsim times 16,777,216 is a whole number S, and |S × d − (d − n) × 16,777,216| is at most d, for every accepted pair of rows with its n and d
unfoldable pub SeqsimError : Type 0
SeqsimError =
    (a b : List ℤ) (minkfreq : ℕ) (x : Float) → seqsim_of a b minkfreq ≡ Ok x → 0 < sum_d minkfreq a b
    → (S : ℕ) × Times x S × (off S (sum_d minkfreq a b) (sum_n minkfreq a b) ≤ sum_d minkfreq a b)
