-- What holds of each element of a list; and the fold gives the latest of the best. Assumes nothing.
use Prim.Native.Nat.{ℕ, ◌≤◌, ◌+◌}
use native.Mathlib.Omega.{arith}
use mathlib.Core.Path.{◌≡◌, refl, sym, ◌∙◌}
use mathlib.Core.Bool.{Bool, true, false, cond}
use mathlib.Core.List.{List, [], ◌∷◌, map}
use Rattle.paths.specs.Sums.{bit, same_rows, times_in}
use Rattle.paths.specs.Best.{All, Order, best, Latest, here, there}
use Rattle.paths.proofs.SumLaws.{same_rows_eq}

pub all_map : {A : Type 0} (P Q : A → Type 0) (f : (a : A) → P a → Q a) (l : List A) → All P l → All Q l
all_map P Q f [] h = tt
all_map P Q f (x ∷ l) h = (f x h.0, all_map P Q f l h.1)

pub all_unmap : {A B : Type 0} (P : B → Type 0) (f : A → B) (l : List A) → All P (map f l) → All (λ a. P (f a)) l
all_unmap P f [] h = tt
all_unmap P f (x ∷ l) h = (h.0, all_unmap P f l h.1)

pub all_good : {A B : Type 0} (P : B → Type 0) (f : A → B) (l : List A) → ((a : A) → P (f a)) → All P (map f l)
all_good P f [] h = tt
all_good P f (x ∷ l) h = (h x, all_good P f l h)

-- what holds of each element of l holds of one that stands in l
pub all_times_in : (P : List ℕ → Type 0) (x : List ℕ) (l : List (List ℕ)) → All P l → 1 ≤ times_in x l → P x
all_times_in P x [] h o = absurd (omega arith)
all_times_in P x (y ∷ l) h o = go (same_rows x y) refl o (λ k. all_times_in P x l h.1 k)
  where
    go : (t : Bool) → same_rows x y ≡ t → 1 ≤ bit t + times_in x l → (1 ≤ times_in x l → P x) → P x
    go true e o ih = rw (same_rows_eq x y e) h.0
    go false e o ih = ih (omega arith)

module _ {R : Type 0} (P : R → Type 0) (le : R → R → Bool) (ord : Order P le) where
  le_refl : (a : R) → P a → le a a ≡ true
  le_refl a p = go (le a a) refl
    where
      go : (t : Bool) → le a a ≡ t → t ≡ true
      go true e = refl
      go false e = sym e ∙ ord.total a a p p e

  -- the latest of the best is one of the list
  pub latest_good : {m : R} {l : List R} → Latest le m l → All P l → P m
  latest_good (here h) a = a.0
  latest_good (there e t) a = latest_good t a.1

  -- none is higher
  lower_all : (m : R) (l : List R) → P m → All P l → All (λ d. le m d ≡ false) l → All (λ d. le d m ≡ true) l
  lower_all m [] p a h = tt
  lower_all m (d ∷ l) p a h = (ord.total m d p a.0 h.0, lower_all m l p a.1 h.1)

  pub upper : {m : R} {l : List R} → Latest le m l → All P l → All (λ d. le d m ≡ true) l
  upper (here {m = m} {l = l} h) a = (le_refl m a.0, lower_all m l a.0 a.1 h)
  upper (there e t) a = (e, upper t a.1)

  skip : (b r m : R) (l : List R) → P b → P r → P m → le b r ≡ false → Latest le m (b ∷ l) → Latest le m (b ∷ (r ∷ l))
  skip b r m l pb pr pm e (here h) = here {l = r ∷ l} (e, h)
  skip b r m l pb pr pm e (there k t) = there k (there (ord.trans r b m pr pb pm (ord.total b r pb pr e) k) t)

  pub best_latest : (b : R) (l : List R) → P b → All P l → Latest le (best le b l) (b ∷ l)
  unfolding best
  best_latest b [] p a = here tt
  best_latest b (r ∷ l) p a = go (le b r) refl (best_latest r l a.0 a.1) (best_latest b l p a.1)
    where
      go : (t : Bool) → le b r ≡ t → Latest le (best le r l) (r ∷ l) → Latest le (best le b l) (b ∷ l) → Latest le (best le (cond t r b) l) (b ∷ (r ∷ l))
      go true e k q = there (ord.trans b r (best le r l) p a.0 (latest_good k a) e (upper k a).0) k
      go false e k q = skip b r (best le b l) l p a.0 (latest_good q (p, a.1)) e q

-- a start that the first one replaces leaves no trace: `start` is the scoring's start, 0.0, and each chain's score is at least that
pub best_first : {R : Type 0} (P : R → Type 0) (le : R → R → Bool) (ord : Order P le) (start r : R) (l : List R) → le start r ≡ true → P r → All P l
    → Latest le (best le start (r ∷ l)) (r ∷ l)
unfolding best
best_first P le ord start r l e p a = rw e (best_latest P le ord r l p a)
