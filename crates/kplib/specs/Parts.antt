-- Document 01, "Part lists": which lists of positions a haplotype of m parts is tried as, and in which order.
use Rattle.std.specs.Prelude.{ℕ, zero, suc, ◌+◌, ◌-◌, max, cond, List, [], ◌∷◌, ◌++◌, map, leb}

-- p, p + 1, .., n positions
unfoldable pub positions_from : ℕ → ℕ → List ℕ
positions_from p zero = []
positions_from p (suc n) = p ∷ positions_from (suc p) n

-- the whole haplotype: all m positions
abbrev pub whole_of : ℕ → List ℕ
whole_of m = positions_from 0 m

-- n positions chosen among `left` from p on, in lexicographic order: the lists that take p, then those that do not
unfoldable pub choices : ℕ → ℕ → ℕ → List (List ℕ)
choices left p zero = [] ∷ []
choices zero p (suc n) = []
choices (suc left) p (suc n) = map (λ (l : List ℕ). p ∷ l) (choices left (suc p) n) ++ choices left (suc p) (suc n)

-- the lists of n of the m positions, then those of n - 1, and so on, for so many lengths
unfoldable pub falling_lists : ℕ → ℕ → ℕ → List (List ℕ)
unfolding choices
falling_lists m zero n = []
falling_lists m (suc lengths) n = choices m 0 n ++ falling_lists m lengths (n - 1)

-- from m down to the larger of 1 and m - fnmax
abbrev pub lengths_of : ℕ → ℕ → ℕ
lengths_of m fnmax = m + 1 - max 1 (m - fnmax)

-- only the whole haplotype if m is at least pileupmax; else the lists of every length down to the lowest
unfoldable pub part_lists : ℕ → ℕ → ℕ → List (List ℕ)
unfolding positions_from falling_lists
part_lists m fnmax pileupmax = cond (leb pileupmax m) (whole_of m ∷ []) (falling_lists m (lengths_of m fnmax) m)
