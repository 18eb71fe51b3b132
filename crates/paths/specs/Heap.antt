-- A heap of numbers at the front of a list, in the words of private contracts: no public promise cites this file.
use Rattle.std.specs.Prelude.{◌≡◌, ℕ, ◌+◌, ◌-◌, ◌/◌, ◌≤◌, ◌<◌, List, [], ◌∷◌, eqb, length, get_or, take}
use Rattle.paths.specs.Sums.{bit}

-- the place above place j
abbrev pub above_of : ℕ → ℕ
above_of j = (j - 1) / 2

-- no key of the first n is less than the one above it
abbrev pub Ordered : List ℕ → ℕ → Type 0
Ordered keys n = (j : ℕ) → 0 < j → j < n → get_or keys (above_of j) 0 ≤ get_or keys j 0

-- how often x stands in l
unfoldable pub times : ℕ → List ℕ → ℕ
times x [] = 0
times x (y ∷ l) = bit (eqb x y) + times x l

-- the first n keys are a heap of what stands in l
pub record Heap (keys : List ℕ) (n : ℕ) (l : List ℕ) : Type 0 where
  pub order : Ordered keys n
  pub many : length l ≡ n
  pub same : (x : ℕ) → times x (take n keys) ≡ times x l

-- the front key, the least of the n, was taken off: the others are a heap of what stands there without it
pub record Taken (keys : List ℕ) (n : ℕ) (keys' : List ℕ) : Type 0 where
  pub least : (j : ℕ) → j < n → get_or keys 0 0 ≤ get_or keys j 0
  pub order : Ordered keys' (n - 1)
  pub same : (x : ℕ) → times x (get_or keys 0 0 ∷ take (n - 1) keys') ≡ times x (take n keys)

-- of the keys right below place i the least stands at place c
pub record LeastBelow (keys : List ℕ) (n i c : ℕ) : Type 0 where
  pub after : 0 < c
  pub within : c < n
  pub below : above_of c ≡ i
  pub least : (j : ℕ) → 0 < j → j < n → above_of j ≡ i → get_or keys c 0 ≤ get_or keys j 0
