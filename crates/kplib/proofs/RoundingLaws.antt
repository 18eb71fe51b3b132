-- Rounded addition, subtraction and halving keep the order of floats, so a list scores no more than it would with seqsim 1.0, whatever the settings. Assumes nothing.
use mathlib.Core.Path.{◌≡◌, refl, sym, ap, ◌∙◌, subst}
use mathlib.Core.Bool.{Bool, true, false, cond}
use Prim.Native.Nat.{ℕ, zero, suc, ◌+◌, ◌-◌, ◌*◌, ◌/◌, ◌%◌, ◌^◌, ◌≤◌, ◌<◌, compare}
use native.Mathlib.Nat.{mul_assoc, mul_comm, mul_left_comm, add-mul, mul-pos, mul-le-mul_right}
use native.Mathlib.Omega.{arith}
use borrow.Author.Tests.{ltb-true, ltb-false}
use lib.Dec.{T, ltb, eqb}
use lib.Pow.{pow_pos}
use lib.IntN.{ℤ, pos}
use lib.Ieee.{Float, nan, inf, fin, Format, binary32, prec, emax, low, up, down, size, nearest, odd, units, round, neg, sum, add, sub, mul, div, of_int, lt, le}
use Rattle.metrics.specs.Similarity.{whole, seqsim_value}
use lib.Ieee.Fits.{round_is, down_pos}
use lib.Ieee.Exact.{HasValue, round_exact}
use lib.Ieee.Order.{round_mono}
use Rattle.kplib.specs.Score.{score_value}
use Rattle.params.specs.declared.Settings.{Settings}
use Rattle.metrics.proofs.FloatOrder.{Sides, Le, le→Le, Le→le, le_trans, lt_not_le, zero_of, times_zero}

-- a signed number's part above 0 and its part below
abbrev pub plus_of : Bool → ℕ → ℕ
plus_of false a = a
plus_of true a = 0

abbrev pub minus_of : Bool → ℕ → ℕ
minus_of false a = 0
minus_of true a = a

-- ±a / p ≤ ±b / q, linearly
abbrev pub Lin : Bool → ℕ → ℕ → Bool → ℕ → ℕ → Type 0
Lin s a p t b q = plus_of s a * q + minus_of t b * p ≤ plus_of t b * p + minus_of s a * q

pub lin→sides : (s : Bool) (a p : ℕ) (t : Bool) (b q : ℕ) → 0 < p → 0 < q → Lin s a p t b q → Sides s a p t b q
unfolding Sides
lin→sides false a p false b q P Q h = omega arith
lin→sides false a p true b q P Q h = (zero_of a q Q (omega arith), zero_of b p P (omega arith))
lin→sides true a p false b q P Q h = tt
lin→sides true a p true b q P Q h = omega arith

pub sides→lin : (s : Bool) (a p : ℕ) (t : Bool) (b q : ℕ) → Sides s a p t b q → Lin s a p t b q
unfolding Sides
sides→lin false a p false b q h = omega arith
sides→lin false a p true b q h = omega (arith, times_zero a q h.0, times_zero b p h.1)
sides→lin true a p false b q h = omega arith
sides→lin true a p true b q h = omega arith

-- ---- signs
odd_neg : (d q k l : ℕ) → odd d true q k l ≡ neg (odd d false q k l)
unfolding odd neg
odd_neg d zero k l = refl
odd_neg d (suc q) k l = refl

units_neg : (f : Format) (q k : ℕ) → units f true q k ≡ neg (units f false q k)
unfolding units
units_neg f q k = cond_neg (ltb (q * 2 ^ k) (2 ^ (low f + suc (emax f)))) (odd (suc (prec f)) true q k (low f)) (odd (suc (prec f)) false q k (low f)) (odd_neg (suc (prec f)) q k (low f))
  where
    cond_neg : (t : Bool) (x y : Float) → x ≡ neg y → cond t x (inf true) ≡ neg (cond t y (inf false))
    cond_neg true x y e = e
    cond_neg false x y e = unfold neg in refl

round_neg : (f : Format) (a p : ℕ) → round f true a p ≡ neg (round f false a p)
round_neg f a p =
    let n = a * 2 ^ low f in
    let k = size (n / p) - prec f in
    let u = p * 2 ^ k in
    round_is f true a p ∙ units_neg f (nearest (n / u) (compare (n % u * 2) u)) k ∙ ap neg (sym (round_is f false a p))

Le_neg : (x y : Float) → Le x y → Le (neg y) (neg x)
unfolding Le neg Sides
Le_neg nan y h = absurd h
Le_neg (inf true) nan h = absurd h
Le_neg (inf true) (inf true) h = tt
Le_neg (inf true) (inf false) h = tt
Le_neg (inf true) (fin t n d) h = tt
Le_neg (inf false) nan h = absurd h
Le_neg (inf false) (inf true) h = absurd h
Le_neg (inf false) (inf false) h = tt
Le_neg (inf false) (fin t n d) h = absurd h
Le_neg (fin s m e) nan h = absurd h
Le_neg (fin s m e) (inf true) h = absurd h
Le_neg (fin s m e) (inf false) h = tt
Le_neg (fin false m e) (fin false n d) h = h
Le_neg (fin false m e) (fin true n d) h = (h.1, h.0)
Le_neg (fin true m e) (fin false n d) h = tt
Le_neg (fin true m e) (fin true n d) h = h

-- not below zero, and no NaN
abbrev pub Up : Float → Type 0
Up nan = ⊥
Up (inf s) = s ≡ false
Up (fin s m e) = s ≡ false

odd_up : (d q k l : ℕ) → Up (odd d false q k l)
unfolding odd
odd_up d zero k l = refl
odd_up d (suc q) k l = refl

units_up : (f : Format) (q k : ℕ) → Up (units f false q k)
unfolding units
units_up f q k = cond_up (ltb (q * 2 ^ k) (2 ^ (low f + suc (emax f)))) (odd (suc (prec f)) false q k (low f)) (odd_up (suc (prec f)) q k (low f))
  where
    cond_up : (t : Bool) (x : Float) → Up x → Up (cond t x (inf false))
    cond_up true x u = u
    cond_up false x u = refl

pub round_up : (f : Format) (a p : ℕ) → Up (round f false a p)
round_up f a p =
    let n = a * 2 ^ low f in
    let k = size (n / p) - prec f in
    let u = p * 2 ^ k in
    subst (λ (z : Float). Up z) (sym (round_is f false a p)) (units_up f (nearest (n / u) (compare (n % u * 2) u)) k)

neg_Le : (x y : Float) → Up x → Up y → Le (neg x) y
unfolding Le neg Sides
neg_Le nan y u v = absurd u
neg_Le (inf s) nan u v = absurd v
neg_Le (inf true) (inf t) u v = let z : ◌≡◌ {A = ℕ} 0 1 = cc in absurd (omega arith)
neg_Le (inf false) (inf t) u v = tt
neg_Le (inf true) (fin t n d) u v = let z : ◌≡◌ {A = ℕ} 0 1 = cc in absurd (omega arith)
neg_Le (inf false) (fin t n d) u v = tt
neg_Le (fin s m e) nan u v = absurd v
neg_Le (fin s m e) (inf true) u v = let z : ◌≡◌ {A = ℕ} 0 1 = cc in absurd (omega arith)
neg_Le (fin s m e) (inf false) u v = tt
neg_Le (fin true m e) (fin t n d) u v = let z : ◌≡◌ {A = ℕ} 0 1 = cc in absurd (omega arith)
neg_Le (fin false m e) (fin true n d) u v = let z : ◌≡◌ {A = ℕ} 0 1 = cc in absurd (omega arith)
neg_Le (fin false m e) (fin false n d) u v = tt

-- two zeros
zero_Le : (x y : Float) (p q : ℕ) → 0 < p → 0 < q → HasValue x false 0 p → HasValue y true 0 q → Le x y
unfolding Le Sides
zero_Le nan y p q P Q h k = absurd h
zero_Le (inf s) y p q P Q h k = absurd h
zero_Le (fin true m e) y p q P Q h k = let z : ◌≡◌ {A = ℕ} 0 1 = cc h.0 in absurd (omega arith)
zero_Le (fin false m e) nan p q P Q h k = absurd k
zero_Le (fin false m e) (inf t) p q P Q h k = absurd k
zero_Le (fin false m e) (fin false n d) p q P Q h k = let z : ◌≡◌ {A = ℕ} 0 1 = cc k.0 in absurd (omega arith)
zero_Le (fin false m e) (fin true n d) p q P Q h k = (zero_of (m * up e) p P (omega (arith, h.1)), zero_of (n * up d) q Q (omega (arith, k.1)))

round_zero : (f : Format) (s : Bool) (p : ℕ) → 0 < p → HasValue (round f s 0 p) s 0 p
round_zero f s p P = round_exact f s 0 p 0 0 P (pow_pos (prec f)) (omega (arith, pow_pos (low f + suc (emax f)))) (omega arith)

-- ---- rounding keeps the order, whatever the signs
pub round_sides : (f : Format) (s : Bool) (a p : ℕ) (t : Bool) (b q : ℕ) → 0 < p → 0 < q → Sides s a p t b q → Le (round f s a p) (round f t b q)
unfolding Sides
round_sides f false a p false b q P Q h = le→Le (round f false a p) (round f false b q) (round_mono f a p b q P Q h)
round_sides f false a p true b q P Q h =
    rw (h.0, h.1) (zero_Le (round f false 0 p) (round f true 0 q) p q P Q (round_zero f false p P) (round_zero f true q Q))
round_sides f true a p false b q P Q h = rw (round_neg f a p) (neg_Le (round f false a p) (round f false b q) (round_up f a p) (round_up f b q))
round_sides f true a p true b q P Q h =
    rw (round_neg f a p, round_neg f b q) (Le_neg (round f false b q) (round f false a p) (le→Le (round f false b q) (round f false a p) (round_mono f b q a p Q P h)))

-- ---- a sum, as one signed fraction
pub record Whole (f : Format) (s : Bool) (a : ℕ) (t : Bool) (b c : ℕ) : Type 0 where
  pub sgn : Bool
  pub num : ℕ
  pub is : sum f s a t b c ≡ round f sgn num c
  pub eqn : plus_of sgn num + minus_of s a + minus_of t b ≡ minus_of sgn num + plus_of s a + plus_of t b

module _ (f : Format) (a b c : ℕ) where
  up_down : (x : Bool) → ltb a b ≡ x → Whole f false a true b c
  unfolding sum
  up_down true e = record { sgn = true; num = b - a; is = rw e; eqn = omega (arith, ltb-true a b e) }
  up_down false e = record { sgn = false; num = a - b; is = rw e; eqn = omega (arith, ltb-false a b e) }

  down_up : (x y : Bool) → ltb a b ≡ x → ltb b a ≡ y → Whole f true a false b c
  unfolding sum
  down_up true y e g = record { sgn = false; num = b - a; is = rw e; eqn = omega (arith, ltb-true a b e) }
  down_up false true e g = record { sgn = true; num = a - b; is = rw (e, g); eqn = omega (arith, ltb-true b a g) }
  down_up false false e g = record { sgn = false; num = a - b; is = rw (e, g); eqn = omega (arith, ltb-false a b e, ltb-false b a g) }

pub sum_whole : (f : Format) (s : Bool) (a : ℕ) (t : Bool) (b c : ℕ) → Whole f s a t b c
unfolding sum
sum_whole f false a false b c = record { sgn = false; num = a + b; is = refl; eqn = omega arith }
sum_whole f true a true b c = record { sgn = true; num = a + b; is = refl; eqn = omega arith }
sum_whole f false a true b c = up_down f a b c (ltb a b) refl
sum_whole f true a false b c = down_up f a b c (ltb a b) (ltb b a) refl refl

plus_mul : (s : Bool) (a k : ℕ) → plus_of s (a * k) ≡ plus_of s a * k
plus_mul false a k = refl
plus_mul true a k = omega arith

minus_mul : (s : Bool) (a k : ℕ) → minus_of s (a * k) ≡ minus_of s a * k
minus_mul false a k = omega arith
minus_mul true a k = refl

-- x = ±M / p and x' = ±M' / p', and ±N / r is added to both
module _ (s : Bool) (M p : ℕ) (s' : Bool) (M' p' : ℕ) (t : Bool) (N r : ℕ) where
  -- X * r times p' * r is X * p' times r * r
  swap1 : (X : ℕ) → X * r * (p' * r) ≡ X * p' * (r * r)
  swap1 X = simp (mul_assoc, mul_comm, mul_left_comm)

  swap2 : (X : ℕ) → X * r * (p * r) ≡ X * p * (r * r)
  swap2 X = simp (mul_assoc, mul_comm, mul_left_comm)

  swap3 : (Y : ℕ) → Y * p * (p' * r) ≡ Y * p' * (p * r)
  swap3 Y = simp (mul_assoc, mul_comm, mul_left_comm)

  spread3 : (x y z k : ℕ) → (x + y + z) * k ≡ x * k + y * k + z * k
  spread3 x y z k = add-mul (x + y) z k ∙ ap (λ (w : ℕ). w + z * k) (add-mul x y k)

  spread2 : (x y k : ℕ) → (x + y) * k ≡ x * k + y * k
  spread2 x y k = add-mul x y k

  pub shifted : Lin s M p s' M' p' → (σ σ' : Bool) (D D' : ℕ)
      → plus_of σ D + minus_of s (M * r) + minus_of t (N * p) ≡ minus_of σ D + plus_of s (M * r) + plus_of t (N * p)
      → plus_of σ' D' + minus_of s' (M' * r) + minus_of t (N * p') ≡ minus_of σ' D' + plus_of s' (M' * r) + plus_of t (N * p')
      → Lin σ D (p * r) σ' D' (p' * r)
  shifted h σ σ' D D' g g' =
      let C = p * r in
      let C' = p' * r in
      let k = mul-le-mul_right (r * r) h in
      omega (
        arith,
        sym (spread3 (plus_of σ D) (minus_of s (M * r)) (minus_of t (N * p)) C') ∙ ap (λ (w : ℕ). w * C') g ∙ spread3 (minus_of σ D) (plus_of s (M * r)) (plus_of t (N * p)) C',
        sym (spread3 (plus_of σ' D') (minus_of s' (M' * r)) (minus_of t (N * p')) C) ∙ ap (λ (w : ℕ). w * C) g' ∙ spread3 (minus_of σ' D') (plus_of s' (M' * r)) (plus_of t (N * p')) C,
        ap (λ (w : ℕ). w * C') (plus_mul s M r) ∙ swap1 (plus_of s M),
        ap (λ (w : ℕ). w * C') (minus_mul s M r) ∙ swap1 (minus_of s M),
        ap (λ (w : ℕ). w * C) (plus_mul s' M' r) ∙ swap2 (plus_of s' M'),
        ap (λ (w : ℕ). w * C) (minus_mul s' M' r) ∙ swap2 (minus_of s' M'),
        ap (λ (w : ℕ). w * C') (plus_mul t N p) ∙ swap3 (plus_of t N) ∙ ap (λ (w : ℕ). w * C) (sym (plus_mul t N p')),
        ap (λ (w : ℕ). w * C') (minus_mul t N p) ∙ swap3 (minus_of t N) ∙ ap (λ (w : ℕ). w * C) (sym (minus_mul t N p')),
        sym (spread2 (plus_of s M * p') (minus_of s' M' * p) (r * r)),
        sym (spread2 (plus_of s' M' * p) (minus_of s M * p') (r * r)),
      )

-- ---- the sum of floats keeps the order: where no NaN comes out
pub data Safe : Float → Float → Type 0 where
  lost : {y : Float} → Safe nan y
  gone : {x : Float} → Safe x nan
  kept : {x y : Float} → Le x y → Safe x y

add_fin : (f : Format) (s : Bool) (m : ℕ) (e : ℤ) (s' : Bool) (m' : ℕ) (e' : ℤ) (t : Bool) (n : ℕ) (d : ℤ)
    → Le (fin s m e) (fin s' m' e') → Le (add f (fin s m e) (fin t n d)) (add f (fin s' m' e') (fin t n d))
unfolding Le add
add_fin f s m e s' m' e' t n d h =
    let w = sum_whole f s (m * up e * down d) t (n * up d * down e) (down e * down d) in
    let w' = sum_whole f s' (m' * up e' * down d) t (n * up d * down e') (down e' * down d) in
    let P = mul-pos (down_pos e) (down_pos d) in
    let P' = mul-pos (down_pos e') (down_pos d) in
    rw (w.is, w'.is)
    (round_sides f w.sgn w.num (down e * down d) w'.sgn w'.num (down e' * down d) P P'
    (lin→sides w.sgn w.num (down e * down d) w'.sgn w'.num (down e' * down d) P P'
    (shifted s (m * up e) (down e) s' (m' * up e') (down e') t (n * up d) (down d) (sides→lin s (m * up e) (down e) s' (m' * up e') (down e') h)
    w.sgn w'.sgn w.num w'.num w.eqn w'.eqn)))

up_top : (x : Float) → Up x → Le x (inf false)
unfolding Le
up_top nan u = absurd u
up_top (inf true) u = tt
up_top (inf false) u = tt
up_top (fin s m e) u = tt

up_bottom : (x : Float) → Up x → Le (inf true) x
unfolding Le
up_bottom nan u = absurd u
up_bottom (inf s) u = tt
up_bottom (fin s m e) u = tt

down_top : (x : Float) → Up x → Le (neg x) (inf false)
unfolding Le neg
down_top nan u = absurd u
down_top (inf true) u = tt
down_top (inf false) u = tt
down_top (fin s m e) u = tt

down_bottom : (x : Float) → Up x → Le (inf true) (neg x)
unfolding Le neg
down_bottom nan u = absurd u
down_bottom (inf s) u = tt
down_bottom (fin s m e) u = tt

round_top : (f : Format) (s : Bool) (a c : ℕ) → Le (round f s a c) (inf false)
round_top f false a c = up_top (round f false a c) (round_up f a c)
round_top f true a c = rw (round_neg f a c) (down_top (round f false a c) (round_up f a c))

round_bottom : (f : Format) (s : Bool) (a c : ℕ) → Le (inf true) (round f s a c)
round_bottom f false a c = up_bottom (round f false a c) (round_up f a c)
round_bottom f true a c = rw (round_neg f a c) (down_bottom (round f false a c) (round_up f a c))

sum_top : (f : Format) (s : Bool) (a : ℕ) (t : Bool) (b c : ℕ) → Le (sum f s a t b c) (inf false)
sum_top f s a t b c = let w = sum_whole f s a t b c in rw w.is (round_top f w.sgn w.num c)

sum_bottom : (f : Format) (s : Bool) (a : ℕ) (t : Bool) (b c : ℕ) → Le (inf true) (sum f s a t b c)
sum_bottom f s a t b c = let w = sum_whole f s a t b c in rw w.is (round_bottom f w.sgn w.num c)

add_kept : (f : Format) (x x' y : Float) → Le x x' → Safe (add f x y) (add f x' y)
unfolding Le add
add_kept f nan x' y h = absurd h
add_kept f (inf s) x' nan h = lost
add_kept f (inf true) nan (inf t) h = absurd h
add_kept f (inf true) (inf true) (inf true) h = kept tt
add_kept f (inf true) (inf false) (inf true) h = gone
add_kept f (inf true) (fin s' m' e') (inf true) h = kept tt
add_kept f (inf true) (inf s') (inf false) h = lost
add_kept f (inf true) (fin s' m' e') (inf false) h = lost
add_kept f (inf true) nan (fin t n d) h = absurd h
add_kept f (inf true) (inf s') (fin t n d) h = kept tt
add_kept f (inf true) (fin s' m' e') (fin t n d) h = kept (sum_bottom f s' (m' * up e' * down d) t (n * up d * down e') (down e' * down d))
add_kept f (inf false) nan (inf t) h = absurd h
add_kept f (inf false) nan (fin t n d) h = absurd h
add_kept f (inf false) (inf true) (inf t) h = absurd h
add_kept f (inf false) (inf true) (fin t n d) h = absurd h
add_kept f (inf false) (inf false) (inf true) h = lost
add_kept f (inf false) (inf false) (inf false) h = kept tt
add_kept f (inf false) (inf false) (fin t n d) h = kept tt
add_kept f (inf false) (fin s' m' e') (inf t) h = absurd h
add_kept f (inf false) (fin s' m' e') (fin t n d) h = absurd h
add_kept f (fin s m e) x' nan h = lost
add_kept f (fin s m e) nan (inf t) h = absurd h
add_kept f (fin s m e) nan (fin t n d) h = absurd h
add_kept f (fin s m e) (inf true) (inf t) h = absurd h
add_kept f (fin s m e) (inf true) (fin t n d) h = absurd h
add_kept f (fin s m e) (inf false) (inf true) h = gone
add_kept f (fin s m e) (inf false) (inf false) h = kept tt
add_kept f (fin s m e) (inf false) (fin t n d) h = kept (sum_top f s (m * up e * down d) t (n * up d * down e) (down e * down d))
add_kept f (fin s m e) (fin s' m' e') (inf true) h = kept tt
add_kept f (fin s m e) (fin s' m' e') (inf false) h = kept tt
add_kept f (fin s m e) (fin s' m' e') (fin t n d) h = kept (add_fin f s m e s' m' e' t n d h)

pub add_safe : (f : Format) (x x' y : Float) → Safe x x' → Safe (add f x y) (add f x' y)
unfolding add
add_safe f nan x' y lost = lost
add_safe f x nan y gone = gone
add_safe f x x' y (kept h) = add_kept f x x' y h

pub sub_safe : (f : Format) (x x' y : Float) → Safe x x' → Safe (sub f x y) (sub f x' y)
unfolding sub
sub_safe f x x' y h = add_safe f x x' (neg y) h

-- ---- by 2
two_fin : whole 2 ≡ fin false 1 (pos 1)
unfolding of_int
two_fin = refl

twice : (x q : ℕ) → x * (1 * 2 * q) ≡ 2 * (x * q)
twice x q = let e : 1 * 2 * q ≡ 2 * q = omega arith in ap (λ (w : ℕ). x * w) e ∙ mul_left_comm x 2 q

half_sides : (s : Bool) (a p : ℕ) (t : Bool) (b q : ℕ) → Sides s a p t b q → Sides s (a * 1) (1 * 2 * p) t (b * 1) (1 * 2 * q)
unfolding Sides
half_sides false a p false b q h = omega (arith, twice (a * 1) q, twice (b * 1) p, ap (λ (w : ℕ). w * q) (one_times a), ap (λ (w : ℕ). w * p) (one_times b))
  where
    one_times : (a : ℕ) → a * 1 ≡ a
    one_times a = omega arith
half_sides false a p true b q h = (omega (arith, h.0), omega (arith, h.1))
half_sides true a p false b q h = tt
half_sides true a p true b q h = omega (arith, twice (a * 1) q, twice (b * 1) p, ap (λ (w : ℕ). w * q) (one_times a), ap (λ (w : ℕ). w * p) (one_times b))
  where
    one_times : (a : ℕ) → a * 1 ≡ a
    one_times a = omega arith

half_pos : (p : ℕ) → 0 < p → 0 < 1 * 2 * p
half_pos p h = omega arith

half_fin : (f : Format) (s : Bool) (m : ℕ) (e : ℤ) → div f (fin s m e) (fin false 1 (pos 1)) ≡ round f s (m * up e * 1) (1 * 2 * down e)
unfolding div
half_fin f false m e = refl
half_fin f true m e = refl

half_kept : (f : Format) (x x' : Float) → Le x x' → Safe (div f x (fin false 1 (pos 1))) (div f x' (fin false 1 (pos 1)))
unfolding Le div
half_kept f nan x' h = absurd h
half_kept f (inf true) nan h = absurd h
half_kept f (inf true) (inf true) h = kept tt
half_kept f (inf true) (inf false) h = kept tt
half_kept f (inf true) (fin s' m' e') h = kept (subst (λ (z : Float). Le (inf true) z) (sym (half_fin f s' m' e')) (round_bottom f s' (m' * up e' * 1) (1 * 2 * down e')))
half_kept f (inf false) nan h = absurd h
half_kept f (inf false) (inf true) h = absurd h
half_kept f (inf false) (inf false) h = kept tt
half_kept f (inf false) (fin s' m' e') h = absurd h
half_kept f (fin s m e) nan h = absurd h
half_kept f (fin s m e) (inf true) h = absurd h
half_kept f (fin s m e) (inf false) h = kept (subst (λ (z : Float). Le z (inf false)) (sym (half_fin f s m e)) (round_top f s (m * up e * 1) (1 * 2 * down e)))
half_kept f (fin s m e) (fin s' m' e') h =
    kept (subst (λ (z : Float). Le (div f (fin s m e) (fin false 1 (pos 1))) z) (sym (half_fin f s' m' e'))
    (subst (λ (z : Float). Le z (round f s' (m' * up e' * 1) (1 * 2 * down e'))) (sym (half_fin f s m e))
    (round_sides f s (m * up e * 1) (1 * 2 * down e) s' (m' * up e' * 1) (1 * 2 * down e') (half_pos (down e) (down_pos e)) (half_pos (down e') (down_pos e'))
    (half_sides s (m * up e) (down e) s' (m' * up e') (down e') h))))

pub half_safe : (x x' : Float) → Safe x x' → Safe (div binary32 x (whole 2)) (div binary32 x' (whole 2))
half_safe x x' h = rw two_fin (go x x' h)
  where
    go : (x x' : Float) → Safe x x' → Safe (div binary32 x (fin false 1 (pos 1))) (div binary32 x' (fin false 1 (pos 1)))
    go nan x' lost = unfold div in lost
    go x nan gone = unfold div in gone
    go x x' (kept h) = half_kept binary32 x x' h

-- ---- seqsim is at most 1
abbrev UpN : Float → Type 0
UpN nan = Unit {0}
UpN (inf s) = s ≡ false
UpN (fin s m e) = s ≡ false

up_upn : (x : Float) → Up x → UpN x
up_upn nan u = absurd u
up_upn (inf s) u = u
up_upn (fin s m e) u = u

div_cond : (f : Format) (t u : Bool) (x : Float) → UpN x → UpN (cond t (cond u nan (inf false)) x)
div_cond f true true x h = tt
div_cond f true false x h = refl
div_cond f false u x h = h

div_up : (f : Format) (x y : Float) → Up x → Up y → UpN (div f x y)
unfolding div
div_up f nan y u v = absurd u
div_up f (inf s) nan u v = absurd v
div_up f (inf s) (inf t) u v = tt
div_up f (inf s) (fin t n d) u v = rw (u, v)
div_up f (fin s m e) nan u v = absurd v
div_up f (fin s m e) (inf t) u v = rw (u, v)
div_up f (fin s m e) (fin t n d) u v =
    rw (u, v) (div_cond f (eqb n 0) (eqb m 0) (round f false (m * up e * down d) (n * up d * down e))
    (up_upn (round f false (m * up e * down d) (n * up d * down e)) (round_up f (m * up e * down d) (n * up d * down e))))

one_fin : whole 1 ≡ fin false 1 (pos 0)
unfolding of_int
one_fin = refl

one_round : round binary32 false 1 1 ≡ fin false 1 (pos 0)
unfolding round
one_round = refl

one_less : (y : Float) → UpN y → Safe (sub binary32 (fin false 1 (pos 0)) y) (fin false 1 (pos 0))
unfolding sub add neg Le
one_less nan u = lost
one_less (inf true) u = let z : ◌≡◌ {A = ℕ} 0 1 = cc in absurd (omega arith)
one_less (inf false) u = kept tt
one_less (fin true n d) u = let z : ◌≡◌ {A = ℕ} 0 1 = cc in absurd (omega arith)
one_less (fin false n d) u =
    let w = sum_whole binary32 false (1 * 1 * down d) true (n * up d * 1) (1 * down d) in
    let P : 0 < 1 * down d = omega (arith, down_pos d) in
    let l : Lin w.sgn w.num (1 * down d) false 1 1 = omega (arith, w.eqn) in
    let one : 0 < 1 = omega arith in
    kept (subst (λ (z : Float). Le z (fin false 1 (pos 0))) (sym w.is) (subst (λ (z : Float). Le (round binary32 w.sgn w.num (1 * down d)) z) one_round
    (round_sides binary32 w.sgn w.num (1 * down d) false 1 1 P one (lin→sides w.sgn w.num (1 * down d) false 1 1 P one l))))

zero_fin : whole 0 ≡ fin false 0 (pos 0)
unfolding of_int
zero_fin = refl

zero_one : Le (fin false 0 (pos 0)) (fin false 1 (pos 0))
unfolding Le Sides
zero_one = omega arith

one_one : Le (fin false 1 (pos 0)) (fin false 1 (pos 0))
unfolding Le Sides
one_one = omega arith

pub seq_safe : (d n : ℕ) → Safe (seqsim_value d n) (whole 1)
seq_safe d n = rw one_fin (go (eqb d 0) (eqb n 0))
  where
    go : (t u : Bool) → Safe (cond t (whole 0) (cond u (fin false 1 (pos 0)) (sub binary32 (fin false 1 (pos 0)) (div binary32 (whole n) (whole d))))) (fin false 1 (pos 0))
    go true u = rw zero_fin (kept zero_one)
    go false true = kept one_one
    go false false = one_less (div binary32 (whole n) (whole d))
        (unfold of_int in div_up binary32 (round binary32 false n 1) (round binary32 false d 1) (round_up binary32 n 1) (round_up binary32 d 1))

-- ---- what is at most a number that is at most the best does not beat the best
pub nothing_beats : (x : Float) → lt x nan ≡ false
unfolding lt
nothing_beats nan = refl
nothing_beats (inf s) = refl
nothing_beats (fin s m e) = refl

nan_under : (x : Float) → le nan x ≡ true → ⊥
unfolding le
nan_under x h = let z : ◌≡◌ {A = ℕ} 0 1 = cc in omega arith

pub holds : (t : Bool) → t ≡ true → T t
holds t e = subst (λ (b : Bool). T b) (sym e) tt

pub no : (t : Bool) → (T t → ⊥) → t ≡ false
no true h = absurd (h tt)
no false h = refl

pub beaten : (x y best : Float) → Safe x y → le y best ≡ true → lt best x ≡ false
beaten nan y best lost h = nothing_beats best
beaten x nan best gone h = absurd (nan_under best h)
beaten x y best (kept k) h = no (lt best x) (λ t. lt_not_le best x t (le_trans x y best (Le→le x y k) (holds (le y best) h)))

-- a greater seqsim scores no less
pub score_grows : (s : Settings) (x y size : Float) (partial g : ℕ) → Safe x y → Safe (score_value s x size partial g) (score_value s y size partial g)
score_grows s x y size partial g h =
    sub_safe binary32 _ _ (mul binary32 s.gpenalty (whole g))
    (sub_safe binary32 _ _ (mul binary32 s.fpenalty (whole partial)) (half_safe _ _ (add_safe binary32 x y size h)))

-- the score of a list is at most what it were if its seqsim were 1.0
pub score_safe : (s : Settings) (d n : ℕ) (size : Float) (partial g : ℕ) → Safe (score_value s (seqsim_value d n) size partial g) (score_value s (whole 1) size partial g)
score_safe s d n size partial g = score_grows s (seqsim_value d n) (whole 1) size partial g (seq_safe d n)
