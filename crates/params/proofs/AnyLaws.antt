-- Some element of a list passes a test: said over the list, and said over the places below its length. Assumes nothing.
use Rattle.std.proofs.Common.{◌≡◌, ℕ, zero, suc, Bool, true, false, ◌||◌, List, [], ◌∷◌, length, get_or, refl, sym, ap, ◌∙◌}
use Rattle.std.specs.List.{list_any}
use Rattle.params.specs.Numbers.{any_below}

or_none : (a : Bool) → a ≡ (a || false)
or_none true = refl
or_none false = refl

or_twice : (a b c : Bool) → ((a || b) || c) ≡ (a || (b || c))
or_twice true b c = refl
or_twice false b c = refl

-- the first place apart
front : (test : ℕ → Bool) (n : ℕ) → any_below (suc n) test ≡ (test 0 || any_below n (λ i. test (suc i)))
unfolding any_below
front test zero = or_none (test 0)
front test (suc n) = ap (λ (b : Bool). b || test (suc n)) (front test n) ∙ or_twice (test 0) (any_below n (λ i. test (suc i))) (test (suc n))

pub anywhere : {A : Type 0} (test : A → Bool) (none : A) (xs : List A) → list_any test xs ≡ any_below (length xs) (λ i. test (get_or xs i none))
unfolding any_below
anywhere test none [] = refl
anywhere test none (x ∷ xs) =
    ap (λ (b : Bool). test x || b) (anywhere test none xs)
    ∙ sym (front (λ i. test (get_or (x ∷ xs) i none)) (length xs))
