-- Nothing stands behind the samples of what is made, and combining leaves it so, since there it leaves the left's; and what words say is held. Assumes nothing.
use Prim.Native.Nat.{ℕ, zero, suc, ◌+◌, ◌≤◌, ◌<◌}
use native.Mathlib.Omega.{arith}
use mathlib.Core.Path.{◌≡◌, refl, ◌∙◌}
use mathlib.Core.List.{List}
use lib.ListN.{get_or, replicate}
use lib.Seq.{get_or-set_other}
use Rattle.meta.specs.Meta.{blank_of, new_of, new_fault, count_fault, new_made, blank_made, made_unless, left_else_right, combine_fault, combined_of, combined_unless, combined_two}
use Rattle.meta.specs.Words.{eight_at, meta_of_words}
use Rattle.meta.specs.Grouping.{Held, Tidy}
use Rattle.meta.specs.declared.HaplotypeMeta.{HaplotypeMeta}
use Rattle.meta.proofs.FaultLaws.{new_below}
use Rattle.meta.proofs.EntryLaws.{zero_at, joined_behind}

blank_of_lem : (n : ℕ) → Tidy (blank_of n)
blank_of_lem n = record { coverage = λ i h. zero_at 8 i; ps = λ i h. zero_at 8 i; hp = λ i h. zero_at 8 i }

-- what is made of tidy data is tidy, refused or not
made_of : (f : ℕ) (m : HaplotypeMeta) → (f ≡ 0 → Tidy m) → Tidy (made_unless f m).meta
made_of zero m h = h refl
made_of (suc f) m h = blank_of_lem 1

pub blank_tidy : (n : ℕ) → Tidy (blank_made n).meta
blank_tidy n = made_of (count_fault n) (blank_of n) (λ z. blank_of_lem n)

pub new_tidy : (i n : ℕ) → Tidy (new_made i n).meta
new_tidy i n = made_of (new_fault i n) (new_of i n) (λ z. one (new_below i n z))
  where
    one : i < n → Tidy (new_of i n)
    one l = record {
      coverage = λ j h. get_or-set_other (replicate 8 0) i j 1 0 (λ e. omega arith) ∙ zero_at 8 j;
      ps = λ j h. zero_at 8 j;
      hp = λ j h. zero_at 8 j;
    }

combined_of_lem : (a b : HaplotypeMeta) → Tidy a → Tidy (combined_of a b)
unfolding combined_of
combined_of_lem a b t = record {
  coverage = λ i h. joined_behind ◌+◌ a.samples i a.coverage b.coverage h ∙ t.coverage i h;
  ps = λ i h. joined_behind left_else_right a.samples i a.ps b.ps h ∙ t.ps i h;
  hp = λ i h. joined_behind left_else_right a.samples i a.hp b.hp h ∙ t.hp i h;
}

pub combined_tidy : (a b : HaplotypeMeta) → Tidy a → Tidy (combined_two a b).left
combined_tidy a b t = go (combine_fault a b)
  where
    both : Tidy (combined_of a b)
    both = combined_of_lem a b t

    -- whichever of the two stands there, it is tidy: that it is the left as it was is said by the code's own promise
    go : (f : ℕ) → Tidy (combined_unless f a b).left
    go zero = both
    go (suc f) = search (t, both)

-- eight entries of words that fit
eight_fit : (xs : List ℕ) (at : ℕ) → ((i : ℕ) → get_or xs i 0 ≤ 18446744073709551615) → (i : ℕ) → get_or (eight_at xs at) i 0 ≤ 18446744073709551615
eight_fit xs at h zero = h at
eight_fit xs at h (suc zero) = h (at + 1)
eight_fit xs at h (suc (suc zero)) = h (at + 2)
eight_fit xs at h (suc (suc (suc zero))) = h (at + 3)
eight_fit xs at h (suc (suc (suc (suc zero)))) = h (at + 4)
eight_fit xs at h (suc (suc (suc (suc (suc zero))))) = h (at + 5)
eight_fit xs at h (suc (suc (suc (suc (suc (suc zero)))))) = h (at + 6)
eight_fit xs at h (suc (suc (suc (suc (suc (suc (suc zero))))))) = h (at + 7)
eight_fit xs at h (suc (suc (suc (suc (suc (suc (suc (suc i)))))))) = omega arith

pub words_held : (words : List ℕ) → ((i : ℕ) → get_or words i 0 ≤ 18446744073709551615) → Held (meta_of_words words)
words_held words h = record { coverage = refl; ps = refl; hp = refl; fits = eight_fit words 3 h }
