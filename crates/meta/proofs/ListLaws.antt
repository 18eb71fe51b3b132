-- A list combined from the front may be cut anywhere. Each step is `with`, a refusal stays, and by the law of three the second part may be combined first. Assumes nothing.
use Prim.Native.Nat.{ℕ, zero, suc}
use native.Mathlib.Omega.{arith}
use mathlib.Core.Path.{◌≡◌, refl, sym, ap, ap₂, ◌∙◌, subst}
use mathlib.Core.List.{List, [], ◌∷◌, ◌++◌}
use Rattle.meta.specs.Meta.{Made, count_fault, made_unless, combine_fault, combined_of}
use Rattle.meta.specs.Grouping.{Outcome, refused, is, outcome, ◌with◌, next_unless, all_from, all_made, Held, All, told}
use Rattle.meta.specs.declared.HaplotypeMeta.{HaplotypeMeta}
use Rattle.meta.proofs.FaultLaws.{combine_left, combine_right, count_fine}
use Rattle.meta.proofs.GroupingLaws.{accepted_fit, with_is, combined_held, either_way}

-- ---- the list as steps of `with`
abbrev from : Outcome → List HaplotypeMeta → Outcome
from o [] = o
from o (b ∷ rest) = from (o with is b) rest

-- one alone is refused by its count
abbrev alone : HaplotypeMeta → Outcome
alone m = outcome (count_fault m.samples) m

told_made : (f : ℕ) (m : HaplotypeMeta) → told (made_unless f m) ≡ outcome f m
told_made zero m = refl
told_made (suc f) m = refl

told_next : (r : Made) (b : HaplotypeMeta) → told (next_unless r.refusal r b) ≡ told r with is b
told_next r b = go r.refusal refl
  where
    go : (f : ℕ) → r.refusal ≡ f → told (next_unless f r b) ≡ outcome f r.meta with is b
    go zero e = told_made (combine_fault r.meta b) (combined_of r.meta b) ∙ sym (with_is r.meta b)
    go (suc f) e = ap (λ (n : ℕ). outcome n r.meta) e

told_from : (r : Made) (xs : List HaplotypeMeta) → told (all_from r xs) ≡ from (told r) xs
unfolding all_from
told_from r [] = refl
told_from r (b ∷ rest) = told_from (next_unless r.refusal r b) rest ∙ ap (λ (o : Outcome). from o rest) (told_next r b)

told_all : (a : HaplotypeMeta) (xs : List HaplotypeMeta) → told (all_made (a ∷ xs)) ≡ from (alone a) xs
unfolding all_made
told_all a xs = told_from (made_unless (count_fault a.samples) a) xs ∙ ap (λ (o : Outcome). from o xs) (told_made (count_fault a.samples) a)

from_refused : (xs : List HaplotypeMeta) → from refused xs ≡ refused
from_refused [] = refl
from_refused (b ∷ rest) = from_refused rest

from_both : (o : Outcome) (xs ys : List HaplotypeMeta) → from o (xs ++ ys) ≡ from (from o xs) ys
from_both o [] ys = refl
from_both o (b ∷ rest) ys = from_both (o with is b) rest ys

-- ---- a count that is none refuses on either side
refused_by : {f : ℕ} (n : ℕ) (m : HaplotypeMeta) → suc n ≡ f → outcome f m ≡ refused
refused_by n m e = ap (λ (k : ℕ). outcome k m) (sym e)

right_alone : (o : Outcome) (b : HaplotypeMeta) → o with is b ≡ o with alone b
right_alone refused b = refl
right_alone (is a) b = go (count_fault b.samples) refl
  where
    bad : (count_fault b.samples ≡ 0 → ⊥) → 50 ≡ combine_fault a b
    bad h = other (count_fault a.samples) refl
      where
        other : (g : ℕ) → count_fault a.samples ≡ g → 50 ≡ combine_fault a b
        other zero q = combine_right a b q h
        other (suc g) q = combine_left a b (λ w. omega (arith, q, w))

    go : (f : ℕ) → count_fault b.samples ≡ f → is a with is b ≡ is a with outcome f b
    go zero e = refl
    go (suc f) e = with_is a b ∙ refused_by 49 (combined_of a b) (bad (λ w. omega (arith, e, w)))

left_alone : (b c : HaplotypeMeta) → alone b with is c ≡ is b with is c
left_alone b c = go (count_fault b.samples) refl
  where
    go : (f : ℕ) → count_fault b.samples ≡ f → outcome f b with is c ≡ is b with is c
    go zero e = refl
    go (suc f) e = sym (with_is b c ∙ refused_by 49 (combined_of b c) (combine_left b c (λ w. omega (arith, e, w))))

-- ---- what is combined is held, and its count is one
abbrev Good : Outcome → Type 0
Good refused = Unit {0}
Good (is m) = Held m × (count_fault m.samples ≡ 0)

good_alone : (m : HaplotypeMeta) → Held m → Good (alone m)
good_alone m h = go (count_fault m.samples) refl
  where
    go : (f : ℕ) → count_fault m.samples ≡ f → Good (outcome f m)
    go zero e = (h, e)
    go (suc f) e = tt

good_both : (a b : HaplotypeMeta) → Held a → Held b → combine_fault a b ≡ 0 → Good (is (combined_of a b))
unfolding combined_of
good_both a b ha hb z = let t = accepted_fit a b z in (combined_held a b ha hb t, count_fine a.samples t.counted)

good_with : (a b : HaplotypeMeta) → Held a → Held b → Good (is a with is b)
good_with a b ha hb = subst Good (sym (with_is a b)) (go (combine_fault a b) refl)
  where
    go : (f : ℕ) → combine_fault a b ≡ f → Good (outcome f (combined_of a b))
    go zero e = good_both a b ha hb e
    go (suc f) e = tt

good_next : (o : Outcome) (b : HaplotypeMeta) → Good o → Held b → Good (o with is b)
good_next refused b g h = tt
good_next (is a) b g h = good_with a b g.0 h

good_from : (o : Outcome) (xs : List HaplotypeMeta) → Good o → All Held xs → Good (from o xs)
good_from o [] g h = g
good_from o (b ∷ rest) g h = good_from (o with is b) rest (good_next o b g h.0) h.1

-- ---- the second part first
later_first : (o : Outcome) (b : HaplotypeMeta) (ys : List HaplotypeMeta) → Good o → Held b → All Held ys → from (o with is b) ys ≡ o with from (alone b) ys
later_first o b [] g h k = right_alone o b
later_first refused b (c ∷ ys) g h k = from_refused ys
later_first (is a) b (c ∷ ys) g h k =
    ap (λ (o : Outcome). from o ys) (either_way a b c g.0 h k.0)
    ∙ next (is b with is c) (good_with b c h k.0) (λ m w. later_first (is a) m ys g w k.1)
    ∙ ap (λ (o : Outcome). is a with from o ys) (sym (left_alone b c))
  where
    next : (x : Outcome) → Good x → ((m : HaplotypeMeta) → Held m → from (is a with is m) ys ≡ is a with from (alone m) ys) → from (is a with x) ys ≡ is a with from x ys
    next refused w fewer = from_refused ys ∙ ap (λ (o : Outcome). is a with o) (sym (from_refused ys))
    next (is m) w fewer = fewer m w.0 ∙ ap (λ (n : ℕ). is a with from (outcome n m) ys) w.1

pub cut_anywhere : (a b : HaplotypeMeta) (xs ys : List HaplotypeMeta) → All Held (a ∷ xs) → All Held (b ∷ ys)
    → told (all_made ((a ∷ xs) ++ (b ∷ ys))) ≡ told (all_made (a ∷ xs)) with told (all_made (b ∷ ys))
cut_anywhere a b xs ys h k =
    told_all a (xs ++ (b ∷ ys))
    ∙ from_both (alone a) xs (b ∷ ys)
    ∙ later_first (from (alone a) xs) b ys (good_from (alone a) xs (good_alone a h.0) h.1) k.0 k.1
    ∙ sym (ap₂ ◌with◌ (told_all a xs) (told_all b ys))
