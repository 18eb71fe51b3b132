-- Document 01, "Search": a step takes the nearest queued chain, the earliest queued among equals, and queues its extensions, highest node first.
-- Said here of `pick` and `extensions` without the recursions that define them.
use Rattle.std.specs.Prelude.{ℕ, ◌≤◌, ◌<◌, ◌≡◌, Bool, false, ◌&&◌, List, [], ◌∷◌, ◌++◌, ltb}
use Rattle.paths.specs.Sums.{bit, same_rows, times_in}
use Rattle.paths.specs.Chains.{first_after, extends, extensions}
use Rattle.paths.specs.Search.{pick}
use Rattle.paths.specs.Best.{All}

-- each chain ends at a higher node than every later one
abbrev pub HighestNodeFirst : List (List ℕ) → Type 0
HighestNodeFirst [] = Unit {0}
HighestNodeFirst (x ∷ l) = All (λ y. first_after y < first_after x) l × HighestNodeFirst l

-- x is c and one row more, below n, that extends it
abbrev pub is_extension : (List ℕ → ℕ → Bool) → ℕ → List ℕ → List ℕ → Bool
is_extension follows n c [] = false
is_extension follows n c (s ∷ x) = same_rows x c && (ltb s n && extends follows c s)

pub record ExtensionOrder : Type 0 where
  -- a list stands once among c's extensions if it is one, and else never
  pub each_once : (follows : List ℕ → ℕ → Bool) (n : ℕ) (c x : List ℕ) → times_in x (extensions follows n c) ≡ bit (is_extension follows n c x)
  -- highest node first
  pub highest_first : (follows : List ℕ → ℕ → Bool) (n : ℕ) (c : List ℕ) → HighestNodeFirst (extensions follows n c)

-- y is the nearest in the queue, the earliest queued among equals, and `rest` is the queue without it
pub record Nearest {A : Type 0} (dist : A → ℕ) (queue : List A) (y : A) (rest : List A) : Type 0 where
  pub earlier : List A
  pub later : List A
  pub stood : queue ≡ earlier ++ (y ∷ later)
  pub is_left : rest ≡ earlier ++ later
  pub earlier_farther : All (λ a. dist y < dist a) earlier
  pub later_no_nearer : All (λ a. dist y ≤ dist a) later

-- so is what a step takes, for any kind of entry and any distance
abbrev pub PickOrder : Type 1
PickOrder = (A : Type 0) (dist : A → ℕ) (x : A) (q : List A) → Nearest dist (x ∷ q) (pick dist x q).0 (pick dist x q).1
