-- Document 01, "Part lists": which lists of positions stand among the part lists, and in which order, said without the recursion that lays them down.
use Rattle.std.specs.Prelude.{ℕ, suc, ◌+◌, ◌-◌, ◌≤◌, ◌<◌, max, ◌≡◌, Bool, true, false, ◌&&◌, ◌||◌, List, [], ◌∷◌, leb, ltb, eqb, length}
use Rattle.paths.specs.Sums.{bit, times_in}
use Rattle.paths.specs.Best.{All}
use Rattle.kplib.specs.Parts.{whole_of, choices, part_lists}

-- positions from `low` on and below `end`, each greater than the one before
abbrev pub ascending : ℕ → ℕ → List ℕ → Bool
ascending low end [] = true
ascending low end (a ∷ x) = leb low a && (ltb a end && ascending (suc a) end x)

-- lexicographic order: the first place where two lists differ decides, and a list is before those that go on from it
abbrev pub lex_before : List ℕ → List ℕ → Bool
lex_before [] [] = false
lex_before [] (b ∷ y) = true
lex_before (a ∷ x) [] = false
lex_before (a ∷ x) (b ∷ y) = ltb a b || (eqb a b && lex_before x y)

-- the longer list first; equal lengths in lexicographic order
abbrev pub longer_first : List ℕ → List ℕ → Bool
longer_first x y = ltb (length y) (length x) || (eqb (length y) (length x) && lex_before x y)

-- each list stands before every later one
abbrev pub InOrder : (List ℕ → List ℕ → Bool) → List (List ℕ) → Type 0
InOrder before [] = Unit {0}
InOrder before (x ∷ l) = All (λ y. before x y ≡ true) l × InOrder before l

-- x stands once in l where the test holds, and otherwise never
abbrev pub StandsWhen : List ℕ → List (List ℕ) → Bool → Type 0
StandsWhen x l test = times_in x l ≡ bit test

pub record PartOrder : Type 0 where
  -- n positions among `left` from p on: those lists that ascend from p on and below p + left and have n positions
  pub chosen : (left p n : ℕ) (x : List ℕ) → StandsWhen x (choices left p n) (ascending p (p + left) x && eqb (length x) n)
  pub chosen_order : (left p n : ℕ) → InOrder lex_before (choices left p n)
  -- if m is at least pileupmax, only the whole haplotype
  pub whole : (m fnmax pileupmax : ℕ) → pileupmax ≤ m → part_lists m fnmax pileupmax ≡ whole_of m ∷ []
  -- else lists of m parts, then m - 1, down to the larger of 1 and m - fnmax
  pub listed : (m fnmax pileupmax : ℕ) → m < pileupmax → (x : List ℕ)
      → StandsWhen x (part_lists m fnmax pileupmax) (ascending 0 m x && (leb (length x) m && leb (max 1 (m - fnmax)) (length x)))
  -- equal lengths in lexicographic order of positions
  pub listed_order : (m fnmax pileupmax : ℕ) → m < pileupmax → InOrder longer_first (part_lists m fnmax pileupmax)
