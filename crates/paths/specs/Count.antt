-- Document 02, P5: no two rows of a chain may overlap, neighbours or not, and N is the number of ascending lists of rows without an overlapping pair, the empty one counted.
-- `joins r s`: rows r and s, the later last, do not overlap. Lists of rows are written LAST ROW FIRST, as chains are.
use Rattle.std.specs.Prelude.{ℕ, zero, suc, ◌+◌, ◌≡◌, Bool, true, false, cond, ◌&&◌, List, [], ◌∷◌, ◌++◌, map, ltb, length}
use Rattle.paths.specs.Sums.{bit, times_in, keep}
use Rattle.paths.specs.Chains.{is_chain}
use Rattle.paths.specs.Search.{none}

-- row s overlaps no row of c
abbrev pub stands_with_all : (ℕ → ℕ → Bool) → List ℕ → ℕ → Bool
stands_with_all joins [] s = true
stands_with_all joins (r ∷ c) s = joins r s && stands_with_all joins c s

-- may row s follow the chain: every row of it is asked, and in a bare graph none may follow any chain
abbrev pub may_follow : (ℕ → ℕ → Bool) → Bool → List ℕ → ℕ → Bool
may_follow joins full c s = full && stands_with_all joins c s

-- no two of the rows overlap
abbrev pub no_pair_overlaps : (ℕ → ℕ → Bool) → List ℕ → Bool
no_pair_overlaps joins [] = true
no_pair_overlaps joins (s ∷ c) = stands_with_all joins c s && no_pair_overlaps joins c

-- the rows ascend, and the last is below n
abbrev pub ascends : ℕ → List ℕ → Bool
ascends n [] = true
ascends n (s ∷ c) = ltb s n && ascends s c

-- the ascending lists of rows below n
unfoldable pub ascending_lists : ℕ → List (List ℕ)
ascending_lists zero = [] ∷ []
ascending_lists (suc n) = map (λ c. n ∷ c) (ascending_lists n) ++ ascending_lists n

-- N: how many of them have no overlapping pair; in a bare graph only the empty one is a chain
unfoldable pub chain_count : (ℕ → ℕ → Bool) → ℕ → Bool → ℕ
chain_count joins n true = length (keep (no_pair_overlaps joins) (ascending_lists n))
chain_count joins n false = 1

-- what a chain is, without the recursion by which it grows
pub record ChainRule (joins : ℕ → ℕ → Bool) (n : ℕ) : Type 0 where
  -- an ascending list of rows without an overlapping pair
  pub full : (x : List ℕ) → is_chain (may_follow joins true) n x ≡ (ascends n x && no_pair_overlaps joins x)
  -- in a bare graph only the empty one
  pub bare : (x : List ℕ) → is_chain (may_follow joins false) n x ≡ none x
  -- and each ascending list stands once among those that N counts
  pub each_once : (x : List ℕ) → times_in x (ascending_lists n) ≡ bit (ascends n x)

-- ---- as the walk of the capped count takes the rows, the first of them first. No public promise cites what follows.

-- how many chains go on from c by some of these rows
unfoldable pub onward : (ℕ → ℕ → Bool) → List ℕ → List ℕ → ℕ
onward joins c [] = 0
onward joins c (s ∷ l) = cond (stands_with_all joins c s) (suc (onward joins (s ∷ c) l)) 0 + onward joins c l

-- k rows from row s on
unfoldable pub rows_from : ℕ → ℕ → List ℕ
rows_from zero s = []
rows_from (suc k) s = s ∷ rows_from k (suc s)
