-- Document 01, "Bench examples to prove": one list of the twelve, the last as document 02, P5, has it, and what each says of the definitions that the promises cite.
use Rattle.std.specs.Prelude.{ℕ, ◌≡◌, Bool, true, false, List, [], ◌∷◌, ℤ, pos, negsuc, replicate, Float, Result, Ok}
use Rattle.std.specs.Float.{binary32}
use Rattle.std.specs.Float.Ieee.{of_bits}
use Rattle.metrics.specs.Letters.{counts_of}
use Rattle.metrics.specs.Similarity.{sizesim_of, seqsim_of, sum_d, sum_n}
use Rattle.metrics.specs.declared.refusals.Refusal.{Refusal}
use Rattle.kplib.specs.Parts.{part_lists}
use Rattle.kplib.specs.Graph.{chains_of, is_chain_in}

pub data Example : Type 0 where
  -- k, negative, letters, the counts
  counting : ℕ → Bool → List ℕ → List ℤ → Example
  -- two sizes, the bits of their sizesim
  like_sizes : ℕ → ℕ → ℕ → Example
  -- two rows, minkfreq, n, d
  sums : List ℤ → List ℤ → ℕ → ℕ → ℕ → Example
  -- two rows, minkfreq, the bits of their seqsim
  like_rows : List ℤ → List ℤ → ℕ → ℕ → Example
  -- m, fnmax, pileupmax, the part lists
  lists : ℕ → ℕ → ℕ → List (List ℕ) → Example
  -- starts, ends, N, rows (last row first) that are no chain, and rows that are one
  paths : List ℕ → List ℕ → ℕ → List ℕ → List ℕ → Example

abbrev pub like : ℕ → Result Float Refusal
like bits = Ok (of_bits binary32 bits)

abbrev pub Holds : Example → Type 0
Holds (counting k negative letters row) = counts_of k negative letters ≡ row
Holds (like_sizes a b bits) = sizesim_of a b ≡ like bits
Holds (sums a b minkfreq n d) = (sum_n minkfreq a b ≡ n) × (sum_d minkfreq a b ≡ d)
Holds (like_rows a b minkfreq bits) = seqsim_of a b minkfreq ≡ like bits
Holds (lists m fnmax pileupmax l) = part_lists m fnmax pileupmax ≡ l
Holds (paths starts ends n none one) = (chains_of starts ends true ≡ n) × ((is_chain_in starts ends true none ≡ false) × (is_chain_in starts ends true one ≡ true))

abbrev pub AllHold : List Example → Type 0
AllHold [] = Unit {0}
AllHold (x ∷ xs) = Holds x × AllHold xs

abbrev pub acgt : List ℕ
acgt = 65 ∷ 67 ∷ 71 ∷ 84 ∷ []

-- a row of 16 entries with this value at 2, 7 and 9
abbrev pub at279 : ℤ → List ℤ
at279 x = pos 0 ∷ pos 0 ∷ x ∷ pos 0 ∷ pos 0 ∷ pos 0 ∷ pos 0 ∷ x ∷ pos 0 ∷ x ∷ pos 0 ∷ pos 0 ∷ pos 0 ∷ pos 0 ∷ pos 0 ∷ pos 0 ∷ []

abbrev pub ones : List ℤ
ones = pos 1 ∷ pos 1 ∷ pos 1 ∷ pos 1 ∷ []

abbrev pub half : List ℤ
half = pos 1 ∷ pos 1 ∷ pos 0 ∷ pos 0 ∷ []

-- 0x3f800000 is 1.0, 0x3e800000 is 0.25, 0 is 0.0
unfoldable pub twelve : List Example
twelve =
    counting 2 false acgt (at279 (pos 1))
    ∷ counting 2 true acgt (at279 (negsuc 0))
    ∷ counting 3 false (65 ∷ 67 ∷ []) (replicate 64 (pos 0))
    ∷ like_sizes 0 1 0x3f80_0000
    ∷ like_sizes 0 4 0x3e80_0000
    ∷ like_sizes 0 0 0x3f80_0000
    ∷ sums ones half 1 2 6
    ∷ like_rows ones half 2 0x3f80_0000
    ∷ like_rows ones half 3 0
    ∷ lists 3 1 5 ((0 ∷ 1 ∷ 2 ∷ []) ∷ (0 ∷ 1 ∷ []) ∷ (0 ∷ 2 ∷ []) ∷ (1 ∷ 2 ∷ []) ∷ [])
    ∷ lists 5 1 5 ((0 ∷ 1 ∷ 2 ∷ 3 ∷ 4 ∷ []) ∷ [])
    ∷ paths (0 ∷ 5 ∷ 6 ∷ []) (10 ∷ 5 ∷ 8 ∷ []) 5 (2 ∷ 1 ∷ 0 ∷ []) (2 ∷ 1 ∷ [])
    ∷ []
