-- Document 02, P12: the data of 1 to 8 samples, and what making and combining it come to.
use Rattle.std.specs.Prelude.{ℕ, zero, suc, ◌+◌, ◌^◌, Bool, not, cond, ◌&&◌, ◌||◌, List, [], ◌∷◌, leb, ltb, eqb, get_or, set, replicate, Result, Ok, Err}
use Rattle.std.specs.Int.Bits.{bit_or}
use Rattle.meta.specs.declared
use Rattle.metrics.specs.declared.refusals.Refusal.{Refusal}
use Rattle.metrics.specs.Refusals.{refusal_of, refused_or}
use Rattle.params.specs.Numbers.{Rule, rule, first_of, any_below}
use Rattle.meta.specs.declared.HaplotypeMeta.{HaplotypeMeta}
use Rattle.meta.specs.declared.NotMade.{NotMade}
use Rattle.meta.specs.declared.NotCombined.{NotCombined}

-- 50: a sample count not 1 to 8
abbrev pub bad_samples : ℕ → Bool
bad_samples n = not (leb 1 n && leb n 8)

-- ---- making

-- no read of any of n samples
abbrev pub blank_of : ℕ → HaplotypeMeta
blank_of n = record { id = 0; samples = n; samples_flag = 0; coverage = replicate 8 0; ps = replicate 8 0; hp = replicate 8 0 }

-- one read of sample i of n: its coverage is 1, and its flag stands
abbrev pub new_of : ℕ → ℕ → HaplotypeMeta
new_of i n = record { id = 0; samples = n; samples_flag = 2 ^ i; coverage = set (replicate 8 0) i 1; ps = replicate 8 0; hp = replicate 8 0 }

unfoldable pub count_fault : ℕ → ℕ
count_fault n = first_of (rule 50 (bad_samples n) ∷ [])

-- 51: a sample index at or above the sample count
unfoldable pub new_fault : ℕ → ℕ → ℕ
new_fault i n = first_of (rule 50 (bad_samples n) ∷ (rule 51 (leb n i) ∷ []))

-- a refusal's number, 0 for none, beside what was made, or on a refusal a blank of one sample
pub record Made : Type 0 where
  pub refusal : ℕ
  pub meta : HaplotypeMeta

abbrev pub made_unless : ℕ → HaplotypeMeta → Made
made_unless zero m = record { refusal = 0; meta = m }
made_unless (suc f) m = record { refusal = suc f; meta = blank_of 1 }

abbrev pub new_made : ℕ → ℕ → Made
new_made i n = made_unless (new_fault i n) (new_of i n)

abbrev pub blank_made : ℕ → Made
blank_made n = made_unless (count_fault n) (blank_of n)

-- ---- combining

-- the first n entries of both joined, two at a time; those behind stay the left's own
unfoldable pub joined_first : (ℕ → ℕ → ℕ) → ℕ → List ℕ → List ℕ → List ℕ
joined_first f zero a b = a
joined_first f (suc n) [] b = []
joined_first f (suc n) (x ∷ a) [] = x ∷ a
joined_first f (suc n) (x ∷ a) (y ∷ b) = f x y ∷ joined_first f n a b

-- the left tag where there is one, otherwise the right; 0 is an absent one
abbrev pub left_else_right : ℕ → ℕ → ℕ
left_else_right x y = cond (eqb x 0) y x

-- 53: a coverage sum passes 64 bits
unfoldable pub sum_passes : ℕ → List ℕ → List ℕ → Bool
sum_passes n a b = any_below n (λ i. ltb 18446744073709551615 (get_or a i 0 + get_or b i 0))

-- 50 of either, 52 for unequal counts, 53
abbrev pub combine_rules : HaplotypeMeta → HaplotypeMeta → List Rule
combine_rules a b =
    rule 50 (bad_samples a.samples || bad_samples b.samples)
    ∷ (rule 52 (not (eqb a.samples b.samples))
    ∷ (rule 53 (sum_passes a.samples a.coverage b.coverage)
    ∷ []))

unfoldable pub combine_fault : HaplotypeMeta → HaplotypeMeta → ℕ
combine_fault a b = first_of (combine_rules a b)

-- coverage added, the left tags kept where there are any, the flags joined, the left id
unfoldable pub combined_of : HaplotypeMeta → HaplotypeMeta → HaplotypeMeta
combined_of a b = record {
  id = a.id;
  samples = a.samples;
  samples_flag = bit_or a.samples_flag b.samples_flag;
  coverage = joined_first ◌+◌ a.samples a.coverage b.coverage;
  ps = joined_first left_else_right a.samples a.ps b.ps;
  hp = joined_first left_else_right a.samples a.hp b.hp;
}

-- a refusal's number, 0 for none, beside the two as one on the left, or on a refusal both as they were
pub record Combined : Type 0 where
  pub refusal : ℕ
  pub left : HaplotypeMeta
  pub right : HaplotypeMeta

abbrev pub combined_unless : ℕ → HaplotypeMeta → HaplotypeMeta → Combined
combined_unless zero a b = record { refusal = 0; left = combined_of a b; right = b }
combined_unless (suc f) a b = record { refusal = suc f; left = a; right = b }

abbrev pub combined_two : HaplotypeMeta → HaplotypeMeta → Combined
combined_two a b = combined_unless (combine_fault a b) a b

-- ---- what the code gives of it

-- a refusal, and a blank of one sample
abbrev pub not_made : Refusal → NotMade
not_made refusal = record { refusal = refusal; meta = blank_of 1 }

-- what was made, or the refusal beside what stands in its place
abbrev pub made_case : ℕ → HaplotypeMeta → Result HaplotypeMeta NotMade
made_case zero m = Ok m
made_case (suc f) m = Err (record { refusal = refusal_of (suc f); meta = m })

abbrev pub made_result : Made → Result HaplotypeMeta NotMade
made_result r = made_case r.refusal r.meta

abbrev pub joined_result : Combined → Result HaplotypeMeta Refusal
joined_result r = refused_or r.refusal r.left

-- the two, the left as one with the right; or the refusal beside both as they were
abbrev pub combined_case : ℕ → HaplotypeMeta → HaplotypeMeta → Result declared.Combined.Combined NotCombined
combined_case zero a b = Ok (record { left = a; right = b })
combined_case (suc f) a b = Err (record { refusal = refusal_of (suc f); left = a; right = b })

abbrev pub combined_result : Combined → Result declared.Combined.Combined NotCombined
combined_result r = combined_case r.refusal r.left r.right

-- what was made, or on a refusal a blank of one sample
abbrev pub or_blank : Result HaplotypeMeta Refusal → HaplotypeMeta
or_blank (Ok m) = m
or_blank (Err refusal) = blank_of 1
