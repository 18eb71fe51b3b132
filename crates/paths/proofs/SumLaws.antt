-- Laws of sums over lists. Assumes nothing.
use mathlib.Core.Path.{◌≡◌, refl}
use Prim.Native.Nat.{ℕ, ◌+◌, ◌*◌, ◌≤◌}
use native.Mathlib.Omega.{arith}
use mathlib.Core.Bool.{Bool, true, false, ◌&&◌}
use mathlib.Core.List.{List, [], ◌∷◌, ◌++◌}
use lib.Dec.{eqb}
use lib.ListN.{length}
use borrow.Author.Tests.{eqb-true, eq-eqb}
use Rattle.paths.specs.Sums.{sum_by, bit, same_rows}

pub sum_append : {A : Type 0} (w : A → ℕ) (a b : List A) → sum_by w (a ++ b) ≡ sum_by w a + sum_by w b
sum_append w [] b = omega arith
sum_append w (x ∷ a) b = omega (arith, sum_append w a b)

-- a sum of ones is the length
pub sum_one : {A : Type 0} (l : List A) → sum_by (λ a. 1) l ≡ length l
sum_one [] = refl
sum_one (x ∷ l) = omega (arith, sum_one l)

pub bit_and : (a b : Bool) → bit (a && b) ≡ bit b * bit a
bit_and true true = refl
bit_and true false = refl
bit_and false true = refl
bit_and false false = refl

pub bit_le : (a : Bool) → bit a ≤ 1
bit_le true = omega arith
bit_le false = omega arith

pub same_rows_eq : (x y : List ℕ) → same_rows x y ≡ true → x ≡ y
same_rows_eq [] [] h = refl
same_rows_eq [] (b ∷ y) h = cc
same_rows_eq (a ∷ x) [] h = cc
same_rows_eq (a ∷ x) (b ∷ y) h = go (eqb a b) refl (λ k. same_rows_eq x y k) h
  where
    go : (t : Bool) → eqb a b ≡ t → (same_rows x y ≡ true → x ≡ y) → (t && same_rows x y) ≡ true → a ∷ x ≡ b ∷ y
    go true e ih h = let p : a ≡ b = eqb-true a b e in let q : x ≡ y = ih h in cc
    go false e ih h = cc

pub same_rows_refl : (x : List ℕ) → same_rows x x ≡ true
same_rows_refl [] = refl
same_rows_refl (a ∷ x) = rw (eq-eqb a a refl, same_rows_refl x)
