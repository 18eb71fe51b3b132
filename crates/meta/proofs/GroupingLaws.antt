-- Three combined in either grouping: both are accepted exactly where the counts are one and the same and every sum of three fits, and then entry by entry the same. Assumes nothing.
use Prim.Native.Nat.{ℕ, zero, suc, ◌+◌, ◌≤◌, ◌<◌}
use native.Mathlib.Omega.{arith}
use native.Mathlib.Nat.{add_assoc, add-zero, zero-add}
use mathlib.Core.Path.{◌≡◌, refl, sym, ap, ◌∙◌}
use mathlib.Core.Bool.{Bool, true, false}
use mathlib.Core.List.{List}
use borrow.Author.Tests.{le-ltb, ltb-true, ltb-false}
use lib.Dec.{ltb}
use lib.ListN.{length, get_or}
use lib.Bits.{or_zero_l, or_zero_r}
use Rattle.params.specs.Numbers.{any_below}
use Rattle.params.proofs.CheckLaws.{or_no}
use Rattle.meta.specs.Meta.{bad_samples, blank_of, count_fault, joined_first, left_else_right, sum_passes, combine_fault, combined_of, combined_unless}
use Rattle.meta.specs.Grouping.{Held, Tidy, Outcome, refused, is, outcome, ◌with◌, with_id}
use Rattle.meta.specs.declared.HaplotypeMeta.{HaplotypeMeta}
use Rattle.meta.proofs.OrLaws.{or_either_way}
use Rattle.meta.proofs.JoinLaws.{sum_fits}
use Rattle.meta.proofs.FaultLaws.{count_fine, count_passed, count_within, combine_fine, combine_passed, combine_equal, combine_fits}
use Rattle.meta.proofs.EntryLaws.{zero_at, joined_at, joined_behind, joined_length, joined_either_way, zeros_right, zeros_left, kept_either_way, kept_zero}

-- ---- when two are accepted
none_below : (n : ℕ) (test : ℕ → Bool) → ((i : ℕ) → i < n → test i ≡ false) → any_below n test ≡ false
unfolding any_below
none_below zero test h = refl
none_below (suc n) test h = rw (none_below n test (λ i l. h i (omega arith)), h n (omega arith))

module _ (a b : HaplotypeMeta) where
  -- the counts are one and the same, and every sum fits
  pub record Fit : Type 0 where
    pub counted : bad_samples a.samples ≡ false
    pub equal : a.samples ≡ b.samples
    pub sums : (i : ℕ) → i < a.samples → get_or a.coverage i 0 + get_or b.coverage i 0 ≤ 18446744073709551615

  pub fit_accepted : Fit → combine_fault a b ≡ 0
  unfolding sum_passes
  fit_accepted t =
      let own = count_fine a.samples t.counted in
      let its = ap count_fault (sym t.equal) ∙ own in
      sym (combine_fine a b own its t.equal (none_below a.samples (λ i. ltb 18446744073709551615 (get_or a.coverage i 0 + get_or b.coverage i 0))
      (λ i l. le-ltb 18446744073709551615 (get_or a.coverage i 0 + get_or b.coverage i 0) (t.sums i l))))

  pub accepted_fit : combine_fault a b ≡ 0 → Fit
  accepted_fit z =
      let p = combine_passed a b z in record {
        counted = (or_no (bad_samples a.samples) (bad_samples b.samples) p.0).0;
        equal = combine_equal a b z;
        sums = sum_fits a.samples a.coverage b.coverage (combine_fits a b z);
      }

  pub with_is : is a with is b ≡ outcome (combine_fault a b) (combined_of a b)
  with_is = go (combine_fault a b)
    where
      go : (f : ℕ) → outcome (combined_unless f a b).refusal (combined_unless f a b).left ≡ outcome f (combined_of a b)
      go zero = refl
      go (suc f) = refl

few : (n : ℕ) → bad_samples n ≡ false → n ≤ 8
few n h = count_within n (count_fine n h)

-- ---- what is combined
module _ (a b : HaplotypeMeta) (ha : Held a) (hb : Held b) (t : Fit a b) where
  small : a.samples ≤ 8
  small = few a.samples t.counted

  pub sum_at : (i : ℕ) → i < a.samples → get_or (combined_of a b).coverage i 0 ≡ get_or a.coverage i 0 + get_or b.coverage i 0
  unfolding combined_of
  sum_at i h =
      let s = small in
      let p = ha.coverage in
      let q = hb.coverage in
      joined_at ◌+◌ a.samples i a.coverage b.coverage h (omega arith) (omega arith)

  pub combined_held : Held (combined_of a b)
  unfolding combined_of
  combined_held = record {
    coverage = joined_length ◌+◌ a.samples a.coverage b.coverage ∙ ha.coverage;
    ps = joined_length left_else_right a.samples a.ps b.ps ∙ ha.ps;
    hp = joined_length left_else_right a.samples a.hp b.hp ∙ ha.hp;
    fits = λ i. go i (ltb i a.samples) refl;
  }
    where
      go : (i : ℕ) (u : Bool) → ltb i a.samples ≡ u → get_or (joined_first ◌+◌ a.samples a.coverage b.coverage) i 0 ≤ 18446744073709551615
      go i true e =
          let l = ltb-true i a.samples e in
          let h = t.sums i l in
          let k = sum_at i l in
          omega arith
      go i false e =
          let h = ha.fits i in
          let k = joined_behind ◌+◌ a.samples i a.coverage b.coverage (ltb-false i a.samples e) in
          omega arith

-- ---- three
module _ (a b c : HaplotypeMeta) (ha : Held a) (hb : Held b) (hc : Held c) where
  forth : combine_fault a b ≡ 0 → combine_fault (combined_of a b) c ≡ 0 → (combine_fault b c ≡ 0) × (combine_fault a (combined_of b c) ≡ 0)
  unfolding combined_of
  forth z w = (fit_accepted b c later, fit_accepted a (combined_of b c) (record { counted = t.counted; equal = t.equal; sums = whole }))
    where
      t : Fit a b
      t = accepted_fit a b z

      u : Fit (combined_of a b) c
      u = accepted_fit (combined_of a b) c w

      three : (i : ℕ) → i < a.samples → get_or a.coverage i 0 + get_or b.coverage i 0 + get_or c.coverage i 0 ≤ 18446744073709551615
      three i h =
          let k = u.sums i h in
          let e = sum_at a b ha hb t i h in
          omega arith

      later : Fit b c
      later = record {
        counted = ap bad_samples (sym t.equal) ∙ t.counted;
        equal = sym t.equal ∙ u.equal;
        sums = λ i h. let e = t.equal in let k = three i (omega arith) in omega arith;
      }

      whole : (i : ℕ) → i < a.samples → get_or a.coverage i 0 + get_or (combined_of b c).coverage i 0 ≤ 18446744073709551615
      whole i h =
          let q = t.equal in
          let k = three i h in
          let e = sum_at b c hb hc later i (omega arith) in
          omega arith

  back : combine_fault b c ≡ 0 → combine_fault a (combined_of b c) ≡ 0 → (combine_fault a b ≡ 0) × (combine_fault (combined_of a b) c ≡ 0)
  unfolding combined_of
  back z w = (fit_accepted a b first, fit_accepted (combined_of a b) c (record { counted = u.counted; equal = u.equal ∙ t.equal; sums = whole }))
    where
      t : Fit b c
      t = accepted_fit b c z

      u : Fit a (combined_of b c)
      u = accepted_fit a (combined_of b c) w

      three : (i : ℕ) → i < a.samples → get_or a.coverage i 0 + get_or b.coverage i 0 + get_or c.coverage i 0 ≤ 18446744073709551615
      three i h =
          let q = u.equal in
          let k = u.sums i h in
          let e = sum_at b c hb hc t i (omega arith) in
          omega arith

      first : Fit a b
      first = record { counted = u.counted; equal = u.equal; sums = λ i h. let k = three i h in omega arith }

      whole : (i : ℕ) → i < a.samples → get_or (combined_of a b).coverage i 0 + get_or c.coverage i 0 ≤ 18446744073709551615
      whole i h =
          let k = three i h in
          let e = sum_at a b ha hb first i h in
          omega arith

  same : combine_fault a b ≡ 0 → combined_of (combined_of a b) c ≡ combined_of a (combined_of b c)
  unfolding combined_of
  same z = λ i. record {
    id = a.id;
    samples = a.samples;
    samples_flag = or_either_way a.samples_flag b.samples_flag c.samples_flag i;
    coverage = entries ◌+◌ add_assoc a.coverage b.coverage c.coverage hb.coverage i;
    ps = entries left_else_right kept_either_way a.ps b.ps c.ps hb.ps i;
    hp = entries left_else_right kept_either_way a.hp b.hp c.hp hb.hp i;
  }
    where
      t : Fit a b
      t = accepted_fit a b z

      entries : (f : ℕ → ℕ → ℕ) → ((x y z : ℕ) → f (f x y) z ≡ f x (f y z)) → (p q r : List ℕ) → length q ≡ 8
          → joined_first f a.samples (joined_first f a.samples p q) r ≡ joined_first f a.samples p (joined_first f b.samples q r)
      entries f e p q r l =
          let s = few a.samples t.counted in
          let inside : a.samples ≤ length q = omega arith in
          joined_either_way f e a.samples p q r inside ∙ ap (λ (n : ℕ). joined_first f a.samples p (joined_first f n q r)) t.equal

  -- two steps: refused where either is
  abbrev steps : ℕ → ℕ → HaplotypeMeta → Outcome
  steps zero g m = outcome g m
  steps (suc f) g m = refused

  from_left : (is a with is b) with is c ≡ steps (combine_fault a b) (combine_fault (combined_of a b) c) (combined_of (combined_of a b) c)
  from_left = ap (λ (o : Outcome). o with is c) (with_is a b) ∙ go (combine_fault a b)
    where
      go : (f : ℕ) → outcome f (combined_of a b) with is c ≡ steps f (combine_fault (combined_of a b) c) (combined_of (combined_of a b) c)
      go zero = with_is (combined_of a b) c
      go (suc f) = refl

  from_right : is a with (is b with is c) ≡ steps (combine_fault b c) (combine_fault a (combined_of b c)) (combined_of a (combined_of b c))
  from_right = ap (λ (o : Outcome). is a with o) (with_is b c) ∙ go (combine_fault b c)
    where
      go : (f : ℕ) → is a with outcome f (combined_of b c) ≡ steps f (combine_fault a (combined_of b c)) (combined_of a (combined_of b c))
      go zero = with_is a (combined_of b c)
      go (suc f) = refl

  alike : (f g h k : ℕ) {m m' : HaplotypeMeta} → (f ≡ 0 → g ≡ 0 → (h ≡ 0) × (k ≡ 0)) → (h ≡ 0 → k ≡ 0 → (f ≡ 0) × (g ≡ 0)) → (f ≡ 0 → m ≡ m')
      → steps f g m ≡ steps h k m'
  alike zero zero zero zero p q e = ap is (e refl)
  alike zero zero zero (suc k) p q e = absurd (let z = (p refl refl).1 in omega arith)
  alike zero zero (suc h) k p q e = absurd (let z = (p refl refl).0 in omega arith)
  alike zero (suc g) zero zero p q e = absurd (let z = (q refl refl).1 in omega arith)
  alike zero (suc g) zero (suc k) p q e = refl
  alike zero (suc g) (suc h) k p q e = refl
  alike (suc f) g zero zero p q e = absurd (let z = (q refl refl).0 in omega arith)
  alike (suc f) g zero (suc k) p q e = refl
  alike (suc f) g (suc h) k p q e = refl

  pub either_way : (is a with is b) with is c ≡ is a with (is b with is c)
  either_way = from_left ∙ alike (combine_fault a b) (combine_fault (combined_of a b) c) (combine_fault b c) (combine_fault a (combined_of b c)) forth back same ∙ sym from_right

-- ---- a blank
module _ (a : HaplotypeMeta) (h : Held a) (z : count_fault a.samples ≡ 0) where
  abbrev blank : HaplotypeMeta
  blank = blank_of a.samples

  right_fit : Fit a blank
  right_fit = record {
    counted = count_passed a.samples z;
    equal = refl;
    sums = λ i l. let k = h.fits i in let e = zero_at 8 i in omega arith;
  }

  pub blank_right : is a with is blank ≡ is a
  unfolding combined_of
  blank_right = with_is a blank ∙ ap (λ (f : ℕ). outcome f (combined_of a blank)) (fit_accepted a blank right_fit) ∙ ap is whole
    where
      whole : combined_of a blank ≡ a
      whole = λ i. record {
        id = a.id;
        samples = a.samples;
        samples_flag = or_zero_r a.samples_flag i;
        coverage = zeros_right ◌+◌ add-zero a.samples 8 a.coverage i;
        ps = zeros_right left_else_right kept_zero a.samples 8 a.ps i;
        hp = zeros_right left_else_right kept_zero a.samples 8 a.hp i;
      }

  left_fit : Fit blank a
  left_fit = record {
    counted = count_passed a.samples z;
    equal = refl;
    sums = λ i l. let k = h.fits i in let e = zero_at 8 i in omega arith;
  }

  pub blank_left : Tidy a → is blank with is a ≡ is (with_id 0 a)
  unfolding combined_of
  blank_left t = with_is blank a ∙ ap (λ (f : ℕ). outcome f (combined_of blank a)) (fit_accepted blank a left_fit) ∙ ap is whole
    where
      whole : combined_of blank a ≡ with_id 0 a
      whole = λ i. record {
        id = 0;
        samples = a.samples;
        samples_flag = or_zero_l a.samples_flag i;
        coverage = zeros_left ◌+◌ zero-add a.samples 8 a.coverage h.coverage t.coverage i;
        ps = zeros_left left_else_right (λ y. refl) a.samples 8 a.ps h.ps t.ps i;
        hp = zeros_left left_else_right (λ y. refl) a.samples 8 a.hp h.hp t.hp i;
      }
