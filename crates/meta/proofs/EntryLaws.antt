-- Entries joined, in either grouping and with zeros: inside the samples the two joined, behind them the left's. Assumes nothing.
use Prim.Native.Nat.{ℕ, zero, suc, ◌≤◌, ◌<◌}
use native.Mathlib.Omega.{arith}
use mathlib.Core.Path.{◌≡◌, refl, sym, ap, ap₂}
use mathlib.Core.Bool.{Bool, true, false}
use mathlib.Core.List.{List, [], ◌∷◌}
use borrow.Author.Tests.{eqb-true}
use lib.Dec.{eqb}
use lib.ListN.{length, get_or, replicate}
use Rattle.meta.specs.Meta.{joined_first, left_else_right}

pub zero_at : (k i : ℕ) → ◌≡◌ {A = ℕ} (get_or (replicate k 0) i 0) 0
zero_at zero i = refl
zero_at (suc k) zero = refl
zero_at (suc k) (suc i) = zero_at k i

-- no entry but 0 is there
zeros : (k : ℕ) (a : List ℕ) → length a ≡ k → ((i : ℕ) → get_or a i 0 ≡ 0) → replicate k 0 ≡ a
zeros zero [] l h = refl
zeros zero (x ∷ a) l h = absurd (omega arith)
zeros (suc k) [] l h = absurd (omega arith)
zeros (suc k) (x ∷ a) l h = ap₂ (λ (y : ℕ) (t : List ℕ). y ∷ t) (sym (h 0)) (zeros k a (omega arith) (λ i. h (suc i)))

module _ (f : ℕ → ℕ → ℕ) where
  pub joined_at : (n i : ℕ) (a b : List ℕ) → i < n → n ≤ length a → n ≤ length b → get_or (joined_first f n a b) i 0 ≡ f (get_or a i 0) (get_or b i 0)
  unfolding joined_first
  joined_at zero i a b h l k = absurd (omega arith)
  joined_at (suc n) i [] b h l k = absurd (omega arith)
  joined_at (suc n) i (x ∷ a) [] h l k = absurd (omega arith)
  joined_at (suc n) zero (x ∷ a) (y ∷ b) h l k = refl
  joined_at (suc n) (suc i) (x ∷ a) (y ∷ b) h l k = joined_at n i a b (omega arith) (omega arith) (omega arith)

  pub joined_behind : (n i : ℕ) (a b : List ℕ) → n ≤ i → get_or (joined_first f n a b) i 0 ≡ get_or a i 0
  unfolding joined_first
  joined_behind zero i a b h = refl
  joined_behind (suc n) i [] b h = refl
  joined_behind (suc n) i (x ∷ a) [] h = refl
  joined_behind (suc n) zero (x ∷ a) (y ∷ b) h = absurd (omega arith)
  joined_behind (suc n) (suc i) (x ∷ a) (y ∷ b) h = joined_behind n i a b (omega arith)

  pub joined_length : (n : ℕ) (a b : List ℕ) → length (joined_first f n a b) ≡ length a
  unfolding joined_first
  joined_length zero a b = refl
  joined_length (suc n) [] b = refl
  joined_length (suc n) (x ∷ a) [] = refl
  joined_length (suc n) (x ∷ a) (y ∷ b) = ap suc (joined_length n a b)

  pub joined_either_way : ((x y z : ℕ) → f (f x y) z ≡ f x (f y z)) → (n : ℕ) (a b c : List ℕ) → n ≤ length b
      → joined_first f n (joined_first f n a b) c ≡ joined_first f n a (joined_first f n b c)
  unfolding joined_first
  joined_either_way e zero a b c h = refl
  joined_either_way e (suc n) [] b c h = refl
  joined_either_way e (suc n) (x ∷ a) [] c h = absurd (omega arith)
  joined_either_way e (suc n) (x ∷ a) (y ∷ b) [] h = refl
  joined_either_way e (suc n) (x ∷ a) (y ∷ b) (z ∷ c) h = ap₂ (λ (v : ℕ) (t : List ℕ). v ∷ t) (e x y z) (joined_either_way e n a b c (omega arith))

  pub zeros_right : ((x : ℕ) → f x 0 ≡ x) → (n k : ℕ) (a : List ℕ) → joined_first f n a (replicate k 0) ≡ a
  unfolding joined_first
  zeros_right e zero k a = refl
  zeros_right e (suc n) k [] = refl
  zeros_right e (suc n) zero (x ∷ a) = refl
  zeros_right e (suc n) (suc k) (x ∷ a) = ap₂ (λ (v : ℕ) (t : List ℕ). v ∷ t) (e x) (zeros_right e n k a)

  pub zeros_left : ((y : ℕ) → f 0 y ≡ y) → (n k : ℕ) (a : List ℕ) → length a ≡ k → ((i : ℕ) → n ≤ i → get_or a i 0 ≡ 0) → joined_first f n (replicate k 0) a ≡ a
  unfolding joined_first
  zeros_left e zero k a l h = zeros k a l (λ i. h i (omega arith))
  zeros_left e (suc n) zero [] l h = refl
  zeros_left e (suc n) zero (y ∷ a) l h = absurd (omega arith)
  zeros_left e (suc n) (suc k) [] l h = absurd (omega arith)
  zeros_left e (suc n) (suc k) (y ∷ a) l h =
      ap₂ (λ (v : ℕ) (t : List ℕ). v ∷ t) (e y) (zeros_left e n k a (omega arith) (λ i g. h (suc i) (omega arith)))

-- the tag that is kept: the first that is there
pub kept_either_way : (x y z : ℕ) → left_else_right (left_else_right x y) z ≡ left_else_right x (left_else_right y z)
kept_either_way x y z = go (eqb x 0) refl
  where
    go : (t : Bool) → eqb x 0 ≡ t → left_else_right (left_else_right x y) z ≡ left_else_right x (left_else_right y z)
    go true e = rw e
    go false e = rw (e, e)

pub kept_zero : (x : ℕ) → left_else_right x 0 ≡ x
kept_zero x = go (eqb x 0) refl
  where
    go : (t : Bool) → eqb x 0 ≡ t → left_else_right x 0 ≡ x
    go true e = rw e (sym (eqb-true x 0 e))
    go false e = rw e
