-- The rule of overlap, read either way round; and what it is of a zero-length interval. Cites no law about `overlaps_of`. Assumes nothing.
use Rattle.std.proofs.Common.{◌≡◌, ℕ, ◌<◌, ◌≤◌, min, max, Bool, true, false, ◌&&◌, ◌||◌, eqb, ltb, refl, ◌∙◌, arith, ltb-true, le-ltb, lt-ltb, eq-eqb, ne_eqb}
use Rattle.metrics.specs.Similarity.{lies_inside, overlaps_of}
use Rattle.metrics.specs.Overlap.{OverlapRule}

or_swap : (a b c : Bool) → (a || (b || c)) ≡ (a || (c || b))
or_swap true b c = refl
or_swap false true true = refl
or_swap false true false = refl
or_swap false false true = refl
or_swap false false false = refl

or_none : (b : Bool) → (b || false) ≡ b
or_none true = refl
or_none false = refl

and_none : (b : Bool) → (b && false) ≡ false
and_none true = refl
and_none false = refl

symmetric : (s1 e1 s2 e2 : ℕ) → overlaps_of s1 e1 s2 e2 ≡ overlaps_of s2 e2 s1 e1
unfolding overlaps_of
symmetric s1 e1 s2 e2 =
    let starts : max s1 s2 ≡ max s2 s1 = omega arith in
    let ends : min e1 e2 ≡ min e2 e1 = omega arith in
    rw (starts, ends) (or_swap (ltb (max s2 s1) (min e2 e1)) (lies_inside s1 e1 s2 e2) (lies_inside s2 e2 s1 e1))

-- nothing lies strictly inside a zero-length interval
none_inside : (s e p : ℕ) → lies_inside s e p p ≡ false
none_inside s e p = go (ltb p s) refl
  where
    go : (t : Bool) → ltb p s ≡ t → lies_inside s e p p ≡ false
    go true h = rw (h, le-ltb s p (omega (arith, ltb-true p s h))) (and_none (eqb s e))
    go false h = rw h (and_none (eqb s e))

inside : (p start end : ℕ) → overlaps_of p p start end ≡ (ltb start p && ltb p end)
unfolding overlaps_of
inside p start end = rw (le-ltb (max p start) (min p end) (omega arith), eq-eqb p p refl, none_inside start end p) (or_none (ltb start p && ltb p end))

points : (p q : ℕ) → overlaps_of p p q q ≡ false
points p q = inside p q q ∙ go (ltb q p) refl
  where
    go : (t : Bool) → ltb q p ≡ t → (ltb q p && ltb p q) ≡ false
    go true h = rw (h, le-ltb p q (omega (arith, ltb-true q p h)))
    go false h = rw h

lengths : (s1 e1 s2 e2 : ℕ) → s1 < e1 → s2 < e2 → overlaps_of s1 e1 s2 e2 ≡ ltb (max s1 s2) (min e1 e2)
unfolding overlaps_of
lengths s1 e1 s2 e2 h k = rw (ne_eqb s1 e1 (λ z. omega arith), ne_eqb s2 e2 (λ z. omega arith)) (or_none (ltb (max s1 s2) (min e1 e2)))

-- ---- what the tests of the code find
module _ (s e start end : ℕ) where
  pub inside_tested : s ≡ e → start < s → ltb s end ≡ lies_inside s e start end
  inside_tested h k = rw (eq-eqb s e h, lt-ltb start s k)

  pub inside_early : s ≡ e → s ≤ start → ltb start s ≡ lies_inside s e start end
  inside_early h k = rw (eq-eqb s e h, le-ltb start s k)

  pub inside_long : (s ≡ e → ⊥) → eqb s e ≡ lies_inside s e start end
  inside_long h = rw (ne_eqb s e h)

module _ (s1 e1 s2 e2 : ℕ) {start end : ℕ} (a : start ≡ max s1 s2) (b : end ≡ min e1 e2) where
  pub overlap_common : start < end → true ≡ overlaps_of s1 e1 s2 e2
  unfolding overlaps_of
  overlap_common h = rw (← a, ← b, lt-ltb start end h)

  pub overlap_first : end ≤ start → true ≡ lies_inside s1 e1 s2 e2 → true ≡ overlaps_of s1 e1 s2 e2
  unfolding overlaps_of
  overlap_first h k = rw (← a, ← b, le-ltb start end h, ← k)

  pub overlap_second : end ≤ start → false ≡ lies_inside s1 e1 s2 e2 → {found : Bool} → found ≡ lies_inside s2 e2 s1 e1 → found ≡ overlaps_of s1 e1 s2 e2
  unfolding overlaps_of
  overlap_second h k l = rw (← a, ← b, le-ltb start end h, ← k, ← l)

pub overlap_rule : OverlapRule
overlap_rule = record { symmetric = symmetric; inside = inside; points = points; lengths = lengths }
