-- The fields of the settings stored one behind the other are their 40 bytes, and `letters` behind them edition 2's 41. Assumes nothing.
use Prim.Native.Nat.{ℕ, ◌+◌}
use native.Mathlib.Omega.{arith}
use mathlib.Core.Path.{◌≡◌, refl, ap, ◌∙◌}
use mathlib.Core.List.{List, [], ◌∷◌, ◌++◌}
use mathlib.Core.Bool.{Bool, true, false}
use lib.Dec.{eqb}
use lib.ListN.{length}
use lib.Seq.{sets}
use lib.Ieee.{binary32, to_bits}
use mir.Val.{bool_byte}
use Rattle.params.specs.declared.Settings.{Settings}
use Rattle.fields.specs.Fields.{bytes4, bytes2}
use Rattle.form.specs.Settings40.{flag}
use Rattle.form.specs.Settings40.{number_bytes, float_bytes, settings_bytes}
use Rattle.form.specs.Settings41.{settings41_bytes}
use Rattle.fields.proofs.FieldLaws.{join, join4}

module _ (i : ℕ) (s : Settings) where
  pub numbers_stored : (l a b c d e : List ℕ) → a ≡ sets l i (bytes4 s.maxpaths) → b ≡ sets a (i + 4) (bytes4 s.maxnodes) → c ≡ sets b (i + 8) (bytes4 s.fnmax)
      → d ≡ sets c (i + 12) (bytes4 s.pileupmax) → e ≡ sets d (i + 16) (bytes4 s.minkfreq) → e ≡ sets l i (number_bytes s)
  unfolding number_bytes
  numbers_stored l a b c d e p q r t u =
      join4 l a e i (i + 4) s.maxpaths _ _ refl refl p (join4 a b e (i + 4) (i + 8) s.maxnodes _ _ (omega arith) refl q
      (join4 b c e (i + 8) (i + 12) s.fnmax _ _ (omega arith) refl r (join4 c d e (i + 12) (i + 16) s.pileupmax _ _ (omega arith) refl t u)))

  pub floats_stored : (l a b c d : List ℕ) (w x y z : ℕ) → w ≡ to_bits binary32 s.sizesim → x ≡ to_bits binary32 s.seqsim → y ≡ to_bits binary32 s.fpenalty → z ≡ to_bits binary32 s.gpenalty
      → a ≡ sets l i (bytes4 w) → b ≡ sets a (i + 4) (bytes4 x) → c ≡ sets b (i + 8) (bytes4 y) → d ≡ sets c (i + 12) (bytes4 z) → d ≡ sets l i (float_bytes s)
  unfolding float_bytes
  floats_stored l a b c d w x y z hw hx hy hz p q r t =
      join4 l a d i (i + 4) _ w _ refl hw p (join4 a b d (i + 4) (i + 8) _ x _ (omega arith) hx q
      (join4 b c d (i + 8) (i + 12) _ y _ (omega arith) hy r (t ∙ ap (λ (v : ℕ). sets c (i + 12) (bytes4 v)) hz)))

  long_numbers : length (number_bytes s) ≡ 20
  unfolding number_bytes bytes4 bytes2
  long_numbers = refl

  pub settings_stored : (l a b c d e f : List ℕ) (x y z : ℕ) → x ≡ flag s.squish → y ≡ flag s.one_to_one → z ≡ flag s.full
      → a ≡ sets l i (s.k ∷ []) → b ≡ sets a (i + 1) (x ∷ []) → c ≡ sets b (i + 2) (y ∷ []) → d ≡ sets c (i + 3) (z ∷ [])
      → e ≡ sets d (i + 4) (number_bytes s) → f ≡ sets e (i + 24) (float_bytes s) → f ≡ sets l i (settings_bytes s)
  unfolding settings_bytes
  settings_stored l a b c d e f x y z hx hy hz p q r t u v =
      let rest : List ℕ = number_bytes s ++ float_bytes s in
      join l a f i (i + 1) (s.k ∷ []) (flag s.squish ∷ flag s.one_to_one ∷ flag s.full ∷ rest) refl p
      (join a b f (i + 1) (i + 2) (flag s.squish ∷ []) (flag s.one_to_one ∷ flag s.full ∷ rest) (omega arith) (q ∙ ap (λ (n : ℕ). sets a (i + 1) (n ∷ [])) hx)
      (join b c f (i + 2) (i + 3) (flag s.one_to_one ∷ []) (flag s.full ∷ rest) (omega arith) (r ∙ ap (λ (n : ℕ). sets b (i + 2) (n ∷ [])) hy)
      (join c d f (i + 3) (i + 4) (flag s.full ∷ []) rest (omega arith) (t ∙ ap (λ (n : ℕ). sets c (i + 3) (n ∷ [])) hz)
      (join d e f (i + 4) (i + 24) (number_bytes s) (float_bytes s) (rw long_numbers (omega arith)) u v))))

  pub long_settings : length (settings_bytes s) ≡ 40
  unfolding settings_bytes number_bytes float_bytes bytes4 bytes2
  long_settings = refl

  pub letters_stored : (l a b : List ℕ) → a ≡ sets l i (settings_bytes s) → b ≡ sets a (i + 40) (s.letters ∷ []) → b ≡ sets l i (settings41_bytes s)
  unfolding settings41_bytes
  letters_stored l a b p q = join l a b i (i + 40) (settings_bytes s) (s.letters ∷ []) (rw long_settings) p q

pub flag_back : (t : Bool) → eqb (flag t) 1 ≡ t
flag_back true = refl
flag_back false = refl

pub flag_byte : (t : Bool) → bool_byte t ≡ flag t
flag_byte true = refl
flag_byte false = refl
