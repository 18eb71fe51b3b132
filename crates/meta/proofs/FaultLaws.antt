-- Each refusal in its place, and what was made or combined behind them. Assumes nothing.
use Prim.Native.Nat.{ℕ, zero, suc, ◌+◌, ◌*◌, ◌%◌, ◌^◌, ◌≤◌, ◌<◌}
use native.Mathlib.Omega.{arith}
use mathlib.Core.Path.{◌≡◌, refl, sym, ap, ◌∙◌}
use mathlib.Core.Bool.{Bool, true, false}
use mathlib.Core.List.{List}
use borrow.Author.Tests.{eq-eqb, leb-true, leb-false}
use lib.Dec.{leb, lit<}
use lib.Pow.{shl_exact}
use lib.Bits.{bit_or}
use native.Mathlib.Nat.{one-mul}
use Rattle.std.specs.Prelude.{Result, Ok, Err}
use Rattle.std.proofs.lemmas.Grind.{common_steps}
use Rattle.metrics.specs.declared.refusals.Refusal.{Refusal}
use Rattle.metrics.specs.Refusals.{refusal_number, refused_or}
use Rattle.metrics.proofs.RefusalLaws.{never_zero, numbered_is}
use Rattle.params.proofs.CheckLaws.{Passed, none_given, or_no}
use Rattle.meta.specs.Meta.{bad_samples, count_fault, new_fault, made_unless, joined_first, left_else_right, sum_passes, combine_rules, combine_fault}
use Rattle.meta.specs.Meta.{combined_of, combined_unless, not_made, made_result, joined_result}
use Rattle.meta.specs.declared.HaplotypeMeta.{HaplotypeMeta}
use Rattle.meta.specs.declared.NotMade.{NotMade}

-- ---- the count
module _ (n : ℕ) where
  many : 8 < n → bad_samples n ≡ true
  many h = grind (arith, common_steps)

  pub count_many : 8 < n → 50 ≡ count_fault n
  unfolding count_fault
  count_many h = rw (many h)

  count_refused : bad_samples n ≡ true → 50 ≡ count_fault n
  unfolding count_fault
  count_refused e = rw e

  -- the count's own refusal tells whether it is one
  pub count_passed : count_fault n ≡ 0 → bad_samples n ≡ false
  count_passed z = go (bad_samples n) refl
    where
      go : (b : Bool) → bad_samples n ≡ b → bad_samples n ≡ false
      go true e = absurd (let f = count_refused e in omega arith)
      go false e = e

  pub count_given : (count_fault n ≡ 0 → ⊥) → bad_samples n ≡ true
  unfolding count_fault
  count_given h = go (bad_samples n) refl
    where
      go : (b : Bool) → bad_samples n ≡ b → bad_samples n ≡ true
      go true e = e
      go false e = absurd (h (rw e))

  pub count_within : count_fault n ≡ 0 → n ≤ 8
  count_within z = go (leb n 8) refl
    where
      go : (b : Bool) → leb n 8 ≡ b → n ≤ 8
      go true e = leb-true n 8 e
      go false e = absurd (let f = count_many (leb-false n 8 e) in omega arith)

  pub count_fine : bad_samples n ≡ false → count_fault n ≡ 0
  unfolding count_fault
  count_fine e = rw e

-- ---- making
module _ (i n : ℕ) where
  pub new_below : new_fault i n ≡ 0 → i < n
  unfolding new_fault
  new_below z = grind (arith, common_steps)

  pub new_inside : new_fault i n ≡ 0 → i < 8
  unfolding new_fault
  new_inside z = grind (arith, common_steps)

-- the flag of a sample fits, so the shift loses nothing
pub flag_fits : (i : ℕ) → i < 8 → (1 * 2 ^ i) % 18446744073709551616 ≡ 2 ^ i
flag_fits i h = shl_exact 1 i 64 (lit< tt) (omega arith) ∙ one-mul (2 ^ i)

-- what was made or combined, as the code gives it: by its fault alone
pub combined_by : (fault : ℕ) (a b : HaplotypeMeta) → refused_or fault (combined_of a b) ≡ joined_result (combined_unless fault a b)
combined_by zero a b = refl
combined_by (suc f) a b = refl

pub refused_by : (fault : ℕ) (refusal : Refusal) (m : HaplotypeMeta) → refusal_number refusal ≡ fault
    → ◌≡◌ {A = Result HaplotypeMeta NotMade} (Err (not_made refusal)) (made_result (made_unless fault m))
refused_by zero refusal m e = absurd (never_zero refusal e)
refused_by (suc f) refusal m e = ap (λ (r : Refusal). Err (not_made r)) (numbered_is refusal (suc f) e)

pub accepted : {fault : ℕ} {one m : HaplotypeMeta} → 0 ≡ fault → one ≡ m → ◌≡◌ {A = Result HaplotypeMeta NotMade} (Ok one) (made_result (made_unless fault m))
accepted e k = rw (sym e) (ap (λ (x : HaplotypeMeta). Ok x) k)

-- ---- combining
module _ (a b : HaplotypeMeta) where
  pub combine_left : (count_fault a.samples ≡ 0 → ⊥) → 50 ≡ combine_fault a b
  unfolding combine_fault
  combine_left h = rw (count_given a.samples h)

  pub combine_right : count_fault a.samples ≡ 0 → (count_fault b.samples ≡ 0 → ⊥) → 50 ≡ combine_fault a b
  unfolding combine_fault
  combine_right p h = rw (count_passed a.samples p, count_given b.samples h)

  module _ (p : count_fault a.samples ≡ 0) (q : count_fault b.samples ≡ 0) where
    pub combine_fine : a.samples ≡ b.samples → sum_passes a.samples a.coverage b.coverage ≡ false → 0 ≡ combine_fault a b
    unfolding combine_fault
    combine_fine e h = rw (count_passed a.samples p, count_passed b.samples q, eq-eqb a.samples b.samples e, h)

  -- what an accepted combining tells
  pub combine_passed : combine_fault a b ≡ 0 → Passed (combine_rules a b)
  unfolding combine_fault
  combine_passed z = none_given (combine_rules a b) refl z

  pub combine_within : combine_fault a b ≡ 0 → a.samples ≤ 8
  combine_within z = count_within a.samples (count_fine a.samples (or_no (bad_samples a.samples) (bad_samples b.samples) (combine_passed z).0).0)

  pub combine_equal : combine_fault a b ≡ 0 → a.samples ≡ b.samples
  unfolding combine_fault
  combine_equal z = grind (arith, common_steps)

  pub combine_fits : combine_fault a b ≡ 0 → sum_passes a.samples a.coverage b.coverage ≡ false
  unfolding combine_fault
  combine_fits z = grind (arith, common_steps)

  pub combined_whole : {coverage ps hp : List ℕ} → coverage ≡ joined_first ◌+◌ a.samples a.coverage b.coverage
      → ps ≡ joined_first left_else_right a.samples a.ps b.ps → hp ≡ joined_first left_else_right a.samples a.hp b.hp
      → ◌≡◌ {A = HaplotypeMeta} (record {
        id = a.id;
        samples = a.samples;
        samples_flag = bit_or a.samples_flag b.samples_flag;
        coverage = coverage;
        ps = ps;
        hp = hp;
      }) (combined_of a b)
  unfolding combined_of
  combined_whole p q r = λ i. record {
    id = a.id;
    samples = a.samples;
    samples_flag = bit_or a.samples_flag b.samples_flag;
    coverage = p i;
    ps = q i;
    hp = r i;
  }
