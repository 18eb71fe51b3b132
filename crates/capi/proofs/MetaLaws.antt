-- What was made or combined as words, and its number. The numbers of these refusals are the table's, so that a refusal tells its number. Assumes nothing.
use Prim.Native.Nat.{ℕ, zero, suc}
use mathlib.Core.Path.{◌≡◌, refl, sym, ap, ap₂, ◌∙◌}
use mathlib.Core.Bool.{Bool, true, false, not, ◌||◌}
use mathlib.Core.List.{List, [], ◌∷◌}
use lib.Dec.{leb, eqb}
use Rattle.std.specs.Prelude.{Result, Ok, Err}
use Rattle.metrics.specs.Refusals.{refusal_number}
use Rattle.params.specs.Numbers.{first_of, rule}
use Rattle.meta.specs.Meta.{Combined, blank_of, new_of, bad_samples, sum_passes, new_fault, count_fault, combine_fault, made_unless, new_made, blank_made, combined_unless, combined_two}
use Rattle.meta.specs.Meta.{made_result, combined_result}
use Rattle.meta.specs.Words.{meta_of_words, words_of_meta}
use Rattle.meta.specs.declared.HaplotypeMeta.{HaplotypeMeta}
use Rattle.meta.specs.declared.Combined as declared
use Rattle.meta.specs.declared.NotMade.{NotMade}
use Rattle.meta.specs.declared.NotCombined.{NotCombined}
use Rattle.capi.specs.Made.{made_data, made_number}
use Rattle.capi.specs.Words.{words_unless}

-- what was made says the refusal's number and the data
abbrev Shown : ℕ → HaplotypeMeta → Type 0
Shown f m = (made_number (made_result (made_unless f m)) ≡ f) × (made_data (made_result (made_unless f m)) ≡ (made_unless f m).meta)

new_shown : (i n : ℕ) (m : HaplotypeMeta) → Shown (new_fault i n) m
unfolding new_fault
new_shown i n m = go (bad_samples n) (leb n i)
  where
    go : (a b : Bool) → Shown (first_of (rule 50 a ∷ (rule 51 b ∷ []))) m
    go true b = (refl, refl)
    go false true = (refl, refl)
    go false false = (refl, refl)

blank_shown : (n : ℕ) (m : HaplotypeMeta) → Shown (count_fault n) m
unfolding count_fault
blank_shown n m = go (bad_samples n)
  where
    go : (a : Bool) → Shown (first_of (rule 50 a ∷ [])) m
    go true = (refl, refl)
    go false = (refl, refl)

made_fault : (f : ℕ) (m : HaplotypeMeta) → (made_unless f m).refusal ≡ f
made_fault zero m = refl
made_fault (suc f) m = refl

module _ (f : ℕ) (m : HaplotypeMeta) (shown : Shown f m) {r : Result HaplotypeMeta NotMade} (e : r ≡ made_result (made_unless f m)) where
  number_made : made_number r ≡ (made_unless f m).refusal
  number_made = (ap made_number e ∙ shown.0) ∙ sym (made_fault f m)

  data_made : made_data r ≡ (made_unless f m).meta
  data_made = ap made_data e ∙ shown.1

  words_made : {number : ℕ} {words : List ℕ} → number ≡ made_number r → words ≡ words_of_meta (made_data r)
      → (number ≡ (made_unless f m).refusal) × (words ≡ words_of_meta (made_unless f m).meta)
  words_made t w = (t ∙ number_made, w ∙ ap words_of_meta data_made)

pub new_words : (i n : ℕ) {r : Result HaplotypeMeta NotMade} → r ≡ made_result (new_made i n) → {number : ℕ} {words : List ℕ}
    → number ≡ made_number r → words ≡ words_of_meta (made_data r) → (number ≡ (new_made i n).refusal) × (words ≡ words_of_meta (new_made i n).meta)
new_words i n e = words_made (new_fault i n) (new_of i n) (new_shown i n (new_of i n)) e

pub blank_words : (n : ℕ) {r : Result HaplotypeMeta NotMade} → r ≡ made_result (blank_made n) → {number : ℕ} {words : List ℕ}
    → number ≡ made_number r → words ≡ words_of_meta (made_data r) → (number ≡ (blank_made n).refusal) × (words ≡ words_of_meta (blank_made n).meta)
blank_words n e = words_made (count_fault n) (blank_of n) (blank_shown n (blank_of n)) e

-- ---- combining
abbrev both_told : Result declared.Combined NotCombined → ℕ
both_told (Ok c) = 0
both_told (Err n) = refusal_number n.refusal

both_shown : (a b : HaplotypeMeta) → both_told (combined_result (combined_unless (combine_fault a b) a b)) ≡ combine_fault a b
unfolding combine_fault
both_shown a b = go (bad_samples a.samples || bad_samples b.samples) (not (eqb a.samples b.samples)) (sum_passes a.samples a.coverage b.coverage)
  where
    go : (x y z : Bool) → both_told (combined_result (combined_unless (first_of (rule 50 x ∷ (rule 52 y ∷ (rule 53 z ∷ [])))) a b)) ≡ first_of (rule 50 x ∷ (rule 52 y ∷ (rule 53 z ∷ [])))
    go true y z = refl
    go false true z = refl
    go false false true = refl
    go false false false = refl

both_number : (f : ℕ) (a b : HaplotypeMeta) → (combined_unless f a b).refusal ≡ f
both_number zero a b = refl
both_number (suc f) a b = refl

-- by the number of the two
refused_both : (f : ℕ) (a b : HaplotypeMeta) (old : List ℕ) (refused : NotCombined) → Err refused ≡ combined_result (combined_unless f a b)
    → old ≡ words_unless (combined_unless f a b).refusal (words_of_meta (combined_unless f a b).left) old
refused_both zero a b old refused e = cc
refused_both (suc f) a b old refused e = refl

made_both : (f : ℕ) (a b : HaplotypeMeta) (old : List ℕ) (combined : declared.Combined) → Ok combined ≡ combined_result (combined_unless f a b)
    → (0 ≡ (combined_unless f a b).refusal) × (words_of_meta combined.left ≡ words_unless (combined_unless f a b).refusal (words_of_meta (combined_unless f a b).left) old)
made_both zero a b old combined e = (refl, ap (λ (r : Result declared.Combined NotCombined). words_of_meta (left_of r)) e)
  where
    left_of : Result declared.Combined NotCombined → HaplotypeMeta
    left_of (Ok c) = c.left
    left_of (Err refused) = a
made_both (suc f) a b old combined e = cc

module _ (left right : List ℕ) {own its : HaplotypeMeta} (p : own ≡ meta_of_words left) (q : its ≡ meta_of_words right) where
  abbrev both : Combined
  both = combined_two (meta_of_words left) (meta_of_words right)

  same : combined_two own its ≡ both
  same = ap₂ combined_two p q

  pub refused_words : (refused : NotCombined) → Err refused ≡ combined_result (combined_two own its) → {number : ℕ} → number ≡ refusal_number refused.refusal
      → (number ≡ both.refusal) × (left ≡ words_unless both.refusal (words_of_meta both.left) left)
  refused_words refused e k =
      let a = meta_of_words left in
      let b = meta_of_words right in
      let f = e ∙ ap combined_result same in
      (k ∙ ap both_told f ∙ both_shown a b ∙ sym (both_number (combine_fault a b) a b), refused_both (combine_fault a b) a b left refused f)

  pub combined_words : (combined : declared.Combined) → Ok combined ≡ combined_result (combined_two own its) → {words : List ℕ} → words ≡ words_of_meta combined.left
      → (0 ≡ both.refusal) × (words ≡ words_unless both.refusal (words_of_meta both.left) left)
  combined_words combined e w =
      let a = meta_of_words left in
      let b = meta_of_words right in
      let m = made_both (combine_fault a b) a b left combined (e ∙ ap combined_result same) in
      (m.0, w ∙ m.1)
