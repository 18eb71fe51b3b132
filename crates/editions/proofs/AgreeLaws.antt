-- Two lists that begin alike have the same fields, flags and numbers there. Assumes nothing.
use Prim.Native.Nat.{ℕ, zero, suc, ◌+◌, ◌≤◌, ◌<◌}
use native.Mathlib.Omega.{arith}
use mathlib.Core.Path.{◌≡◌, refl, sym, ◌∙◌}
use mathlib.Core.List.{List, ◌++◌}
use lib.ListN.{length, get_or, take, length-append, get_or-append}
use lib.Seq.{get_or-take, length-take-le, ext_get_or}
use Rattle.fields.specs.Fields.{le2, le4, le8}
use Rattle.form.specs.Form.{are_flags}

-- the same first m
abbrev pub Agree : ℕ → List ℕ → List ℕ → Type 0
Agree m a b = (i : ℕ) → i < m → get_or a i 0 ≡ get_or b i 0

module _ (m : ℕ) (a b : List ℕ) (same : Agree m a b) where
  pub flags_agree : (i n : ℕ) → i + n ≤ m → are_flags a i n ≡ are_flags b i n
  flags_agree i zero h = refl
  flags_agree i (suc n) h = rw (same i (omega arith), flags_agree (suc i) n (omega arith))

  two_agree_lem : (i : ℕ) → i + 2 ≤ m → le2 a i ≡ le2 b i
  unfolding le2
  two_agree_lem i h = rw (same i (omega arith), same (i + 1) (omega arith))

  pub four_agree_lem : (i : ℕ) → i + 4 ≤ m → le4 a i ≡ le4 b i
  unfolding le4
  four_agree_lem i h = rw (two_agree_lem i (omega arith), two_agree_lem (i + 2) (omega arith))

  pub eight_agree : (i : ℕ) → i + 8 ≤ m → le8 a i ≡ le8 b i
  unfolding le8
  eight_agree i h = rw (four_agree_lem i (omega arith), four_agree_lem (i + 4) (omega arith))

  pub take_agree : m ≤ length a → m ≤ length b → take m a ≡ take m b
  take_agree h g =
      let la : length (take m a) ≡ m = length-take-le m a h in
      let lb : length (take m b) ≡ m = length-take-le m b g in
      ext_get_or 0 (take m a) (take m b) (la ∙ sym lb) (λ (i : ℕ) (l : i < length (take m a)).
      let k : i < m = omega arith in
      get_or-take m a i 0 k ∙ same i k ∙ sym (get_or-take m b i 0 k))

-- a body's front, whatever stands behind it
pub front_agree : (m : ℕ) (body added rest rest' : List ℕ) → m ≤ length body → Agree m ((take m body ++ added) ++ rest') (body ++ rest)
front_agree m body added rest rest' h i l =
    let lt : length (take m body) ≡ m = length-take-le m body h in
    let ll = length-append (take m body) added in
    get_or-append (take m body ++ added) rest' 0 i (omega arith)
    ∙ get_or-append (take m body) added 0 i (omega arith)
    ∙ get_or-take m body i 0 l
    ∙ sym (get_or-append body rest 0 i (omega arith))
