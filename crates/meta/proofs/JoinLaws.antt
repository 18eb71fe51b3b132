-- Entries joined one after the other: after i turns the first i are joined, and the next turn joins the next. Assumes nothing.
use Prim.Native.Nat.{ℕ, zero, suc, ◌+◌, ◌≤◌, ◌<◌}
use native.Mathlib.Omega.{arith}
use native.Mathlib.Numerals.{add-one}
use mathlib.Core.Path.{◌≡◌, refl, ap}
use mathlib.Core.Bool.{Bool, true, false, not}
use mathlib.Core.List.{List, [], ◌∷◌}
use borrow.Author.Tests.{lt-ltb, le-ltb, ltb-false}
use lib.Dec.{ltb}
use lib.ListN.{length, get_or, set}
use Rattle.std.specs.Option.{is_some, SomeIff}
use Rattle.std.specs.declared.option.Option.{Option}
use Rattle.std.specs.declared.option.Option.TheVariants.{None, Some}
use Rattle.params.proofs.CheckLaws.{any_where}
use Rattle.meta.specs.Meta.{joined_first, sum_passes}

module _ (f : ℕ → ℕ → ℕ) where
  pub joined_none : (a b : List ℕ) → a ≡ joined_first f 0 a b
  unfolding joined_first
  joined_none a b = refl

  joined_suc : (i : ℕ) (a b : List ℕ) → i < length a → i < length b
      → set (joined_first f i a b) i (f (get_or a i 0) (get_or b i 0)) ≡ joined_first f (suc i) a b
  unfolding joined_first
  joined_suc i [] b h l = absurd (omega arith)
  joined_suc i (x ∷ a) [] h l = absurd (omega arith)
  joined_suc zero (x ∷ a) (y ∷ b) h l = refl
  joined_suc (suc i) (x ∷ a) (y ∷ b) h l = ap (λ (t : List ℕ). f x y ∷ t) (joined_suc i a b (omega arith) (omega arith))

  pub joined_more : (i : ℕ) (a b xs : List ℕ) {v : ℕ} → i < length a → i < length b → xs ≡ joined_first f i a b → v ≡ f (get_or a i 0) (get_or b i 0)
      → set xs i v ≡ joined_first f (i + 1) a b
  joined_more i a b xs h l e w = rw (add-one i, e, w) (joined_suc i a b h l)

-- a checked sum is absent exactly where it passes 64 bits
pub absent_sum : (r : Option ℕ) (s : ℕ) (absent : Bool) → SomeIff r (s < 18446744073709551616) s → is_some r ≡ not absent → ltb 18446744073709551615 s ≡ absent
absent_sum None s true none e = lt-ltb 18446744073709551615 s (omega arith)
absent_sum None s false none e = cc
absent_sum (Some x) s true some e = cc
absent_sum (Some x) s false some e = le-ltb 18446744073709551615 s (omega (arith, some.0))

-- where no sum passes, each fits
pub sum_fits : (n : ℕ) (a b : List ℕ) → sum_passes n a b ≡ false → (i : ℕ) → i < n → get_or a i 0 + get_or b i 0 ≤ 18446744073709551615
unfolding sum_passes
sum_fits n a b none i h =
    ltb-false 18446744073709551615 (get_or a i 0 + get_or b i 0) (any_where (λ j. ltb 18446744073709551615 (get_or a j 0 + get_or b j 0)) n none i h)
