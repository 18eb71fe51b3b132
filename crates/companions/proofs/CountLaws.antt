-- Numbers that pass a test, counted: the flags of a list, by tests that agree, and past the last that passes. Assumes nothing.
use Prim.Native.Nat.{ℕ, zero, suc, ◌+◌, ◌≤◌, ◌<◌}
use native.Mathlib.Numerals.{add-one}
use native.Mathlib.Omega.{arith}
use mathlib.Core.Path.{◌≡◌, refl, ap, ◌∙◌}
use mathlib.Core.List.{List}
use lib.ListN.{length, get_or, take, drop, length-drop}
use Rattle.std.specs.List.{count_by}
use Rattle.std.proofs.lemmas.List.Sums.{count_by_more_yes, count_by_more_no}
use Rattle.std.proofs.lemmas.List.{get_or-drop}
use mathlib.Core.Bool.{Bool, true, false, cond}
use borrow.Author.Tests.{leb-true, leb-false}
use lib.Dec.{leb}
use Rattle.companions.specs.Questions.{how_many_below}

-- the flags that stand from a place on: one more, and n of them
flag_counted : (xs : List Bool) (at n : ℕ) → at + n < length xs
    → count_by (λ x. x) (take (suc n) (drop at xs)) ≡ count_by (λ x. x) (take n (drop at xs)) + cond (get_or xs (at + n) false) 1 0
flag_counted xs at n h = go (get_or xs (at + n) false) refl
  where
    there : n < length (drop at xs)
    there = omega (arith, length-drop at xs)

    go : (flag : Bool) → get_or xs (at + n) false ≡ flag
        → count_by (λ x. x) (take (suc n) (drop at xs)) ≡ count_by (λ x. x) (take n (drop at xs)) + cond (get_or xs (at + n) false) 1 0
    go true e = rw (← add-one n, e) (count_by_more_yes (λ x. x) (drop at xs) n false there (get_or-drop at xs n false ∙ e))
    go false e = rw (← add-one n, e) (let same = count_by_more_no (λ x. x) (drop at xs) n false there (get_or-drop at xs n false ∙ e) in omega arith)

pub count_flags : (xs : List Bool) (at n : ℕ) → at + n ≤ length xs → count_by (λ x. x) (take n (drop at xs)) ≡ how_many_below n (λ s. get_or xs (at + s) false)
unfolding how_many_below
count_flags xs at zero h = refl
count_flags xs at (suc n) h = flag_counted xs at n (omega arith) ∙ ap (λ (k : ℕ). k + cond (get_or xs (at + n) false) 1 0) (count_flags xs at n (omega arith))

pub count_same : (f g : ℕ → Bool) (n : ℕ) → ((s : ℕ) → s < n → f s ≡ g s) → how_many_below n f ≡ how_many_below n g
unfolding how_many_below
count_same f g zero h = refl
count_same f g (suc n) h = rw (count_same f g n (λ s l. h s (omega arith)), h n (omega arith))

pub count_past : (f : ℕ → Bool) (m n : ℕ) → m ≤ n → ((s : ℕ) → m ≤ s → f s ≡ false) → how_many_below n f ≡ how_many_below m f
unfolding how_many_below
count_past f m zero l h = let z : m ≡ 0 = omega arith in rw z
count_past f m (suc n) l h = go (leb m n) refl (λ k. count_past f m n k h)
  where
    go : (b : Bool) → leb m n ≡ b → (m ≤ n → how_many_below n f ≡ how_many_below m f) → how_many_below n f + cond (f n) 1 0 ≡ how_many_below m f
    go true e earlier = let k = leb-true m n e in let q = earlier k in rw (h n k) (omega arith)
    go false e earlier = let k = leb-false m n e in let z : m ≡ suc n = omega arith in rw z
