-- Document 02, P14: combining in any grouping. What one with another comes to, whichever step refuses; a list from the front; and what holds of both.
use Rattle.std.specs.Prelude.{ℕ, zero, suc, ◌≤◌, ◌/◌, ◌%◌, ◌≡◌, ◌≢◌, cond, List, [], ◌∷◌, ◌++◌, eqb, length, get_or, set, take, drop, replicate}
use Rattle.meta.specs.Meta.{Made, blank_of, count_fault, new_made, blank_made, made_unless, combine_fault, combined_of, combined_two}
use Rattle.meta.specs.Words.{meta_of_words}
use Rattle.meta.specs.declared.HaplotypeMeta.{HaplotypeMeta}

-- ---- one with another

-- either refused or the value
pub data Outcome : Type 0 where
  refused : Outcome
  is : HaplotypeMeta → Outcome

abbrev pub outcome : ℕ → HaplotypeMeta → Outcome
outcome zero m = is m
outcome (suc f) m = refused

-- refused where either is, or where `combine` refuses the two; else what `combine` gives
infixl 50 ◌with◌
abbrev pub ◌with◌ : Outcome → Outcome → Outcome
◌with◌ refused o = refused
◌with◌ (is a) refused = refused
◌with◌ (is a) (is b) = outcome (combined_two a b).refusal (combined_two a b).left

-- ---- a list, from the front

-- one more; a refusal stays
abbrev pub next_unless : ℕ → Made → HaplotypeMeta → Made
next_unless zero r b = made_unless (combine_fault r.meta b) (combined_of r.meta b)
next_unless (suc f) r b = r

unfoldable pub all_from : Made → List HaplotypeMeta → Made
all_from r [] = r
all_from r (b ∷ rest) = all_from (next_unless r.refusal r b) rest

-- the first alone is refused by its count; a list of none by 50 too, since it has no count
unfoldable pub all_made : List HaplotypeMeta → Made
all_made [] = made_unless 50 (blank_of 1)
all_made (a ∷ rest) = all_from (made_unless (count_fault a.samples) a) rest

-- n of them one behind the other, 28 words each
unfoldable pub metas_in : ℕ → List ℕ → List HaplotypeMeta
metas_in zero words = []
metas_in (suc n) words = meta_of_words (take 28 words) ∷ metas_in n (drop 28 words)

-- 6 where the words are no whole number of them
unfoldable pub all_in_words : List ℕ → Made
all_in_words words = cond (eqb (length words % 28) 0) (all_made (metas_in (length words / 28) words)) (made_unless 6 (blank_of 1))

-- ---- what holds

-- what every value of the struct has: three eights, the coverages of 64 bits
pub record Held (m : HaplotypeMeta) : Type 0 where
  pub coverage : length m.coverage ≡ 8
  pub ps : length m.ps ≡ 8
  pub hp : length m.hp ≡ 8
  pub fits : (i : ℕ) → get_or m.coverage i 0 ≤ 18446744073709551615

-- nothing stands at and behind its samples
pub record Tidy (m : HaplotypeMeta) : Type 0 where
  pub coverage : (i : ℕ) → m.samples ≤ i → get_or m.coverage i 0 ≡ 0
  pub ps : (i : ℕ) → m.samples ≤ i → get_or m.ps i 0 ≡ 0
  pub hp : (i : ℕ) → m.samples ≤ i → get_or m.hp i 0 ≡ 0

-- each of a list
abbrev pub All : (HaplotypeMeta → Type 0) → List HaplotypeMeta → Type 0
All P [] = Unit {0}
All P (m ∷ ms) = P m × All P ms

abbrev pub told : Made → Outcome
told r = outcome r.refusal r.meta

-- the same data with another id
abbrev pub with_id : ℕ → HaplotypeMeta → HaplotypeMeta
with_id id m = record { id = id; samples = m.samples; samples_flag = m.samples_flag; coverage = m.coverage; ps = m.ps; hp = m.hp }

-- one read of one sample from each of two boats, in phase sets 5 and 6
abbrev pub from_boat : ℕ → ℕ → HaplotypeMeta
from_boat boat ps = record { id = boat; samples = 1; samples_flag = 1; coverage = set (replicate 8 0) 0 1; ps = set (replicate 8 0) 0 (suc ps); hp = replicate 8 0 }

pub record AnyGrouping : Type 0 where
  -- (a with b) with c and a with (b with c) are both refused, or both accepted and equal
  pub either_way : (a b c : HaplotypeMeta) → Held a → Held b → Held c → (is a with is b) with is c ≡ is a with (is b with is c)
  -- a blank of the same sample count on the right changes nothing
  pub blank_right : (a : HaplotypeMeta) → Held a → count_fault a.samples ≡ 0 → is a with is (blank_of a.samples) ≡ is a
  -- on the left it changes nothing but the id, which becomes 0
  pub blank_left : (a : HaplotypeMeta) → Held a → Tidy a → count_fault a.samples ≡ 0 → is (blank_of a.samples) with is a ≡ is (with_id 0 a)
  -- what is made has nothing behind its samples, and combining leaves it so
  pub new_tidy : (index samples : ℕ) → Tidy (new_made index samples).meta
  pub blank_tidy : (samples : ℕ) → Tidy (blank_made samples).meta
  pub combined_tidy : (a b : HaplotypeMeta) → Tidy a → Tidy (combined_two a b).left
  -- what words of 64 bits say is such a value, so that the words of a list may be cut so
  pub words_held : (words : List ℕ) → ((i : ℕ) → get_or words i 0 ≤ 18446744073709551615) → Held (meta_of_words words)
  -- the order of the two matters: the id and the phase set are those of the first
  pub in_order : is (from_boat 1 5) with is (from_boat 2 6) ≢ is (from_boat 2 6) with is (from_boat 1 5)
  pub first_kept : ((combined_two (from_boat 1 5) (from_boat 2 6)).left.id ≡ 1) × (get_or (combined_two (from_boat 1 5) (from_boat 2 6)).left.ps 0 0 ≡ 6)
  -- a list may be cut anywhere: its two parts, each combined by itself and then the one with the other, come to what the whole does
  pub cut_anywhere : (a b : HaplotypeMeta) (xs ys : List HaplotypeMeta) → All Held (a ∷ xs) → All Held (b ∷ ys)
      → told (all_made ((a ∷ xs) ++ (b ∷ ys))) ≡ told (all_made (a ∷ xs)) with told (all_made (b ∷ ys))
