-- The two cases of an answer that may be refused, and what an accepted chain count is known to be. Assumes nothing.
use mathlib.Core.Path.{◌≡◌, refl, sym, ap}
use Prim.Native.Nat.{ℕ, zero, suc, ◌≤◌}
use native.Mathlib.Omega.{arith}
use mathlib.Core.List.{List}
use mathlib.Core.Bool.{false}
use lib.Dec.{eqb}
use lib.ListN.{length}
use borrow.Author.Tests.{ltb-false, eqb-true, not-false}
use Rattle.std.specs.Prelude.{Ok, Err}
use Rattle.metrics.specs.declared.refusals.Refusal.{Refusal}
use Rattle.metrics.specs.Refusals.{refusal_number, refused_or}
use Rattle.metrics.proofs.RefusalLaws.{never_zero, numbered_is}
use Rattle.params.specs.Numbers.{falling_start, chain_count_rules, chain_count_fault}
use Rattle.params.proofs.CheckLaws.{none_given}

pub refused_is : {A : Type 0} (refusal : Refusal) (fault : ℕ) (a : A) → refusal_number refusal ≡ fault → Err refusal ≡ refused_or fault a
refused_is refusal zero a e = absurd (never_zero refusal e)
refused_is refusal (suc fault) a e = ap (λ (r : Refusal). Err r) (numbered_is refusal (suc fault) e)

pub answered_is : {A : Type 0} (fault : ℕ) {a b : A} → 0 ≡ fault → a ≡ b → Ok a ≡ refused_or fault b
answered_is zero z e = ap (λ x. Ok x) e
answered_is (suc fault) z e = absurd (omega arith)

-- what an accepted call is known to be
pub count_ready : (starts ends : List ℕ) (cap : ℕ) → 0 ≡ chain_count_fault cap starts ends
    → (length ends ≡ length starts) × (length starts ≤ 64) × (cap ≤ 4096) × (falling_start starts ≡ false)
unfolding chain_count_fault
count_ready starts ends cap e =
    let p = none_given (chain_count_rules cap starts ends) refl (sym e) in (
      eqb-true (length ends) (length starts) (not-false (eqb (length ends) (length starts)) p.1.1.1.0),
      ltb-false 64 (length starts) p.1.1.0,
      ltb-false 4096 cap p.0,
      p.1.1.1.1.1.0,
    )
