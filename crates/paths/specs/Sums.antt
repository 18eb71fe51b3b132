-- Sums over lists, a test as a number, and the part of a list at which a test holds. Definitions only.
use Rattle.std.specs.Prelude.{ℕ, ◌+◌, Bool, true, false, cond, ◌&&◌, List, [], ◌∷◌, eqb}

abbrev pub bit : Bool → ℕ
bit true = 1
bit false = 0

abbrev pub sum_by : {A : Type 0} → (A → ℕ) → List A → ℕ
sum_by w [] = 0
sum_by w (x ∷ l) = w x + sum_by w l

-- equality of lists of numbers, as a test
abbrev pub same_rows : List ℕ → List ℕ → Bool
same_rows [] [] = true
same_rows [] (b ∷ y) = false
same_rows (a ∷ x) [] = false
same_rows (a ∷ x) (b ∷ y) = eqb a b && same_rows x y

-- how often x stands in l
abbrev pub times_in : List ℕ → List (List ℕ) → ℕ
times_in x l = sum_by (λ a. bit (same_rows x a)) l

-- those of a list at which p holds, in their order
abbrev pub keep : {A : Type 0} → (A → Bool) → List A → List A
keep p [] = []
keep p (x ∷ l) = cond (p x) (x ∷ keep p l) (keep p l)
