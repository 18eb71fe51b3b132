-- What holds of the first result and of each chain scored holds of the best. Assumes nothing.
use mathlib.Core.Path.{◌≡◌, refl, ap}
use Prim.Native.Nat.{ℕ, ◌+◌, ◌≤◌}
use native.Mathlib.Omega.{arith}
use mathlib.Core.Bool.{Bool, true, false, cond}
use mathlib.Core.List.{List, [], ◌∷◌, map}
use lib.ListN.{length}
use Rattle.paths.specs.Sums.{bit, times_in}
use Rattle.paths.specs.Chains.{is_chain}
use Rattle.paths.specs.Best.{All, best}
use Rattle.paths.proofs.SumLaws.{same_rows_refl}
use Rattle.paths.proofs.Demand.{at_most_once}
use Rattle.params.specs.Numbers.{Table, Parts}
use Rattle.kplib.specs.Search.{Result, start_result, no_lower, follows_in, distance_in, scored_in, result_of, best_in}
use Rattle.params.specs.declared.Settings.{Settings}

all_mapped : {A B : Type 0} (P : B → Type 0) (f : A → B) (l : List A) → All (λ a. P (f a)) l → All P (map f l)
all_mapped P f [] h = tt
all_mapped P f (x ∷ l) h = (h.0, all_mapped P f l h.1)

all_standing : (P : List ℕ → Type 0) (l : List (List ℕ)) → ((x : List ℕ) → 1 ≤ times_in x l → P x) → All P l
all_standing P [] h = tt
all_standing P (y ∷ l) h = (h y (omega (arith, ap bit (same_rows_refl y))), all_standing P l (λ x k. h x (omega arith)))

pub either : {A : Type 0} (P : A → Type 0) (t : Bool) (x y : A) → P x → P y → P (cond t x y)
either P true x y px py = px
either P false x y px py = py

kept : {R : Type 0} (P : R → Type 0) (le : R → R → Bool) (b : R) (l : List R) → P b → All P l → P (best le b l)
unfolding best
kept P le b [] p a = p
kept P le b (r ∷ l) p a = kept P le (cond (le b r) r b) l (either P (le b r) r b a.0 p) a.1

module _ (s : Settings) (t : Table) (p : Parts) where
  scored_chain : (x : List ℕ) → 1 ≤ times_in x (scored_in s t p) → is_chain (follows_in s t p) (length t.starts) x ≡ true
  scored_chain x o = go (is_chain (follows_in s t p) (length t.starts) x) refl (at_most_once (follows_in s t p) (length t.starts) (distance_in s t p) (s.maxpaths + 1) x)
    where
      go : (b : Bool) → is_chain (follows_in s t p) (length t.starts) x ≡ b → times_in x (scored_in s t p) ≤ bit b → is_chain (follows_in s t p) (length t.starts) x ≡ true
      go true e k = e
      go false e k = absurd (omega arith)

  pub best_kept : (P : Result → Type 0) → P start_result → ((x : List ℕ) → is_chain (follows_in s t p) (length t.starts) x ≡ true → P (result_of s t p x)) → P (best_in s t p)
  best_kept P first each =
      kept P no_lower start_result (map (result_of s t p) (scored_in s t p)) first
      (all_mapped P (result_of s t p) (scored_in s t p) (all_standing (λ x. P (result_of s t p x)) (scored_in s t p) (λ x o. each x (scored_chain x o))))
