-- Numbers of magnitude up to 2 ^ 24 fit an i32 and come back from it as they were; what `signum` says of the sign of two. Assumes nothing.
use mathlib.Core.Path.{◌≡◌, refl, sym, ap, ◌∙◌}
use Prim.Native.Nat.{ℕ, zero, suc, ◌≤◌, min}
use native.Mathlib.Omega.{arith}
use lib.IntN.{ℤ, pos, negsuc, nat_abs, ◌+ℤ◌}
use mir.Syntax.{w32}
use mir.Val.{to_z, of_z, SFits}
use mir.ValLaws.{to_z-of_z}
use Rattle.std.specs.Int.{int_signum}
use Rattle.metrics.proofs.Ints.{add_le}
use Rattle.kplib.specs.Score.{sign}

pub fits : (z : ℤ) → nat_abs z ≤ 16777216 → SFits w32 z
fits (pos n) h = record { sfits = omega arith }
fits (negsuc n) h = record { sfits = omega arith }

pub back : (z : ℤ) → nat_abs z ≤ 16777216 → to_z w32 (of_z w32 z) ≡ z
back z h = to_z-of_z w32 z (fits z h)

-- a sum of two, as the machine reads it back
pub add_fits : (x y : ℤ) → nat_abs x ≤ 8388608 → nat_abs y ≤ 8388608 → SFits w32 (to_z w32 (of_z w32 x) +ℤ to_z w32 (of_z w32 y))
add_fits x y h k = rw (back x (omega arith), back y (omega arith)) (fits (x +ℤ y) (omega (arith, add_le x y)))

pub add_back : (x y : ℤ) → nat_abs x ≤ 8388608 → nat_abs y ≤ 8388608 → to_z w32 (of_z w32 (to_z w32 (of_z w32 x) +ℤ to_z w32 (of_z w32 y))) ≡ x +ℤ y
add_back x y h k = rw (back x (omega arith), back y (omega arith)) (back (x +ℤ y) (omega (arith, add_le x y)))

-- two numbers have the same sign where `signum` gives the same of them
signum_small : (z : ℤ) → nat_abs (int_signum z) ≤ 1
signum_small (pos n) = omega arith
signum_small (negsuc n) = omega arith

one : (n : ℕ) → min (suc n) 1 ≡ 1
one n = omega arith

sign_signum : (z : ℤ) → sign (int_signum z) ≡ sign z
sign_signum (pos zero) = refl
sign_signum (pos (suc n)) = rw (one n)
sign_signum (negsuc n) = refl

signum_sign : (x y : ℤ) → sign x ≡ sign y → int_signum x ≡ int_signum y
signum_sign (pos zero) (pos zero) e = refl
signum_sign (pos (suc m)) (pos (suc n)) e = rw (one m, one n)
signum_sign (negsuc m) (negsuc n) e = refl
signum_sign (pos zero) (pos (suc n)) e = cc
signum_sign (pos zero) (negsuc n) e = cc
signum_sign (pos (suc m)) (pos zero) e = cc
signum_sign (pos (suc m)) (negsuc n) e = cc
signum_sign (negsuc m) (pos zero) e = cc
signum_sign (negsuc m) (pos (suc n)) e = cc

module _ (x y : ℤ) {a b : ℤ} (f : a ≡ int_signum x) (g : b ≡ int_signum y) where
  pub same_sign : of_z w32 a ≡ of_z w32 b → sign x ≡ sign y
  same_sign h =
      let e : int_signum x ≡ int_signum y =
      sym (back (int_signum x) (omega (arith, signum_small x))) ∙ ap (to_z w32) (rw (f, g) at h) ∙ back (int_signum y) (omega (arith, signum_small y)) in
      sym (sign_signum x) ∙ ap sign e ∙ sign_signum y

  pub other_sign : (of_z w32 a ≡ of_z w32 b → ⊥) → sign x ≡ sign y → ⊥
  other_sign h e = h (ap (of_z w32) (f ∙ signum_sign x y e ∙ sym g))
