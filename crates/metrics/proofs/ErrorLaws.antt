-- How far a rounded operation is off, and when it is not off at all, for floats that are not negative. A fraction a / c is rounded to `grid f a c`
-- of the format's smallest values, 2 ^ low to the unit. Whoever knows the fraction's binade knows three things of the result:
-- below 2 ^ (prec + j) smallest values it is off by at most half of 2 ^ j (`round_near`) and does not leave the binade (`round_most`);
-- from 2 ^ (prec - 1 + j) on it is a multiple of 2 ^ j (`round_multiple`). Division and subtraction are each one rounding of the exact
-- fraction (`div_whole`, `sub_at`), and a difference that has few enough digits is exact (`sub_exact`). Assumes nothing.
use Rattle.std.proofs.Common.{◌≡◌, ℕ, zero, suc, ◌+◌, ◌-◌, ◌*◌, ◌/◌, ◌%◌, ◌^◌, ◌<◌, ◌≤◌, Bool, true, false, not, T, eqb, ltb, sym, refl, ap, ◌∙◌, subst, true≢false, le_trans}
use Rattle.std.proofs.Common.{le_of_eq, le_refl, lt_of_lt_of_le, lt_of_le_of_lt, le_of_lt, lt_irrefl, mul-le-mul_right, mod-lt, mul_assoc, mul_comm, div-lt_iff_lt-mul, add-mul}
use Rattle.std.proofs.Common.{mul-le-mul, mul-pos, one-mul, lt_of_not-le, div-add-mod', le-div_iff_mul-le, mul_right_comm, le_of_mul-le-mul_right, mul_left_comm, arith, eqb→eq}
use Rattle.std.proofs.Common.{ltb→lt, leb→le, pow_pos, pow_mono, pow-add, shl_lt, le-ltb, ne_eqb}
use Prim.Native.Nat.{compare, Ordering}
use native.Mathlib.Nat.{mul-sub, eq_of_mul-eq-mul_left}
use lib.Dec.{is_le, compare_is_eq, nleb→lt}
use lib.Pow.{pow-lt}
use lib.Ieee.{Float, nan, inf, fin, Format, binary32, prec, emax, low, up, down, size, nearest, round, sum, sub, div, of_int}
use lib.Ieee.Digits.{size-lt, size-le}
use lib.Ieee.Fits.{down_pos, nearest-le, two, two-le_pos}
use lib.Ieee.Exact.{HasValue, round_exact}
use lib.Ieee.Back.{round_whole}
use lib.Ieee.Nearest.{closest}
use lib.Ieee.Order.{drop, kept}
use lib.Ieee.Scale.{round_same, grid, round_val}
use lib.Ieee.Positive.{num, den, den_pos, positive, positive_of_value, value→cross}
use Rattle.metrics.specs.Similarity.{whole}

-- a and b are at most e apart
abbrev pub Near : ℕ → ℕ → ℕ → Type 0
Near e a b = (a ≤ b + e) × (b ≤ a + e)

pub near_times : (u e a b : ℕ) → Near e a b → Near (e * u) (a * u) (b * u)
near_times u e a b h = (le_trans (mul-le-mul_right u h.0) (le_of_eq (add-mul b e u)), le_trans (mul-le-mul_right u h.1) (le_of_eq (add-mul a e u)))

pub near_cancel : (u e a b : ℕ) → 0 < u → Near (e * u) (a * u) (b * u) → Near e a b
near_cancel u e a b U h =
    (le_of_mul-le-mul_right (le_trans h.0 (le_of_eq (sym (add-mul b e u)))) U, le_of_mul-le-mul_right (le_trans h.1 (le_of_eq (sym (add-mul a e u)))) U)

-- ---- a fraction rounded to the nearest whole number is off by at most a half
halfway : (t w r b : ℕ) → w % 2 ≡ t → t < 2 → r * 2 ≡ b → Near b ((w + w % 2) * b * 2) ((w * b + r) * 2)
halfway zero w r b e l h = rw e (omega (arith, add-mul w 0 b), omega (arith, add-mul w 0 b))
halfway (suc zero) w r b e l h = rw e (omega (arith, add-mul w 1 b, one-mul b), omega (arith, add-mul w 1 b, one-mul b))
halfway (suc (suc t)) w r b e l h = absurd (omega arith)

nearest_near : (o : Ordering) (w r b : ℕ) → r < b → (T (is_le o) → r * 2 ≤ b) → (T (not (is_le o)) → b < r * 2) → (T (compare_is_eq o) → r * 2 ≡ b)
    → Near b (nearest w o * b * 2) ((w * b + r) * 2)
nearest_near Ordering.lt w r b l h k e = let low = h tt in (omega arith, omega arith)
nearest_near Ordering.eq w r b l h k e = halfway (w % 2) w r b refl (mod-lt w (pow_pos 1)) (e tt)
nearest_near Ordering.gt w r b l h k e = let high = k tt in (omega (arith, add-mul w 1 b, one-mul b), omega (arith, add-mul w 1 b, one-mul b))

pub closest_near : (a b : ℕ) → 0 < b → Near b (closest a b * b * 2) (a * 2)
closest_near a b B =
    subst (λ (x : ℕ). Near b (closest a b * b * 2) (x * 2)) (div-add-mod' a b)
    (nearest_near (compare (a % b * 2) b) (a / b) (a % b) b (mod-lt a B) (leb→le (a % b * 2) b) (nleb→lt (a % b * 2) b) (eqb→eq (a % b * 2) b))

-- ---- the rounding of a / c, which lies below 2 ^ (prec + j) of the format's smallest values
enough : (z p : ℕ) → z ≤ p + (z - p)
enough z p = omega arith

-- the whole part of n / c has p digits and those dropped, so what is kept is at most 2 ^ p
kept_most : (p n c : ℕ) → 0 < c → kept p n c ≤ 2 ^ p
kept_most p n c C =
    let k = drop p n c in
    let u = c * 2 ^ k in
    let far : n / c < 2 ^ (p + k) = lt_of_lt_of_le (size-lt (n / c)) (pow_mono (enough (size (n / c)) p)) in
    let e : 2 ^ (p + k) * c ≡ 2 ^ p * u = rw (pow-add 2 p k) (simp (mul_assoc, mul_comm, mul_left_comm)) in
    let low : n < 2 ^ p * u = lt_of_lt_of_le ((div-lt_iff_lt-mul C).0 far) (le_of_eq e) in
    le_trans (nearest-le (n / u) (compare (n % u * 2) u)) ((div-lt_iff_lt-mul (mul-pos C (pow_pos k))).1 low)

spare : (z p j : ℕ) → z ≤ p + j → z - p ≤ j
spare z p j h = omega arith

module _ (f : Format) (a c j : ℕ) (C : 0 < c) (below : a * 2 ^ low f < 2 ^ (prec f + j) * c) where
  dropped : drop (prec f) (a * 2 ^ low f) c ≤ j
  dropped = spare (size (a * 2 ^ low f / c)) (prec f) j (size-le (a * 2 ^ low f / c) (prec f + j) ((div-lt_iff_lt-mul C).1 below))

  -- it is off by at most half of 2 ^ j
  pub round_near : Near (c * 2 ^ j) (grid f a c * c * 2) (a * 2 ^ low f * 2)
  round_near =
      let k = drop (prec f) (a * 2 ^ low f) c in
      let q = kept (prec f) (a * 2 ^ low f) c in
      let h = closest_near (a * 2 ^ low f) (c * 2 ^ k) (mul-pos C (pow_pos k)) in
      let e : q * (c * 2 ^ k) ≡ q * 2 ^ k * c = simp (mul_assoc, mul_comm, mul_left_comm) in
      let wide : c * 2 ^ k ≤ c * 2 ^ j = mul-le-mul (le_refl c) (pow_mono dropped) in
      (omega (arith, h.0, e), omega (arith, h.1, e))

  -- and it stays within 2 ^ (prec + j)
  pub round_most : grid f a c ≤ 2 ^ (prec f + j)
  round_most = le_trans (mul-le-mul (kept_most (prec f) (a * 2 ^ low f) c C) (pow_mono dropped)) (le_of_eq (sym (pow-add 2 (prec f) j)))

  -- so where that is in the format's range, it is the value of the rounded fraction
  pub round_value : prec f + j < low f + suc (emax f) → HasValue (round f false a c) false (grid f a c) (2 ^ low f)
  round_value room = round_val f a c (lt_of_le_of_lt round_most (pow-lt room))

-- ---- at or above 2 ^ (prec - 1 + j) of the smallest values the result is a multiple of 2 ^ j
least_size : (z p j : ℕ) → p - 1 + j < z → 0 < p → j ≤ z - p
least_size z p j h P = omega arith

size_above : (n j : ℕ) → 2 ^ j ≤ n → j < size n
size_above n j h = lt_of_not-le (λ (g : size n ≤ j). lt_irrefl n (lt_of_lt_of_le (size-lt n) (le_trans (pow_mono g) h)))

regroup : (q k j : ℕ) → j ≤ k → q * 2 ^ k ≡ q * 2 ^ (k - j) * 2 ^ j
regroup q k j h =
    let e : k - j + j ≡ k = omega arith in
    ap (λ (x : ℕ). q * 2 ^ x) (sym e) ∙ ap (λ (x : ℕ). q * x) (pow-add 2 (k - j) j) ∙ sym (mul_assoc q (2 ^ (k - j)) (2 ^ j))

pub round_multiple : (f : Format) (a c j : ℕ) → 0 < c → 2 ^ (prec f - 1 + j) * c ≤ a * 2 ^ low f → (r : ℕ) × (grid f a c ≡ r * 2 ^ j)
round_multiple f a c j C h =
    let n = a * 2 ^ low f in
    let k = drop (prec f) n c in
    let l : j ≤ k = least_size (size (n / c)) (prec f) j (size_above (n / c) (prec f - 1 + j) ((le-div_iff_mul-le C).1 h)) (two-le_pos (prec f) (two f)) in
    (kept (prec f) n c * 2 ^ (k - j), regroup (kept (prec f) n c) k j l)

-- ---- the exact value of a float, written with another fraction
other_fraction : (x a b c d g : ℕ) → x * c ≡ a * g → a * d ≡ b * c → c * (x * d) ≡ c * (b * g)
other_fraction x a b c d g v h =
    let l : c * (x * d) ≡ d * (x * c) = simp (mul_comm, mul_left_comm) in
    let m : d * (a * g) ≡ g * (a * d) = simp (mul_comm, mul_left_comm) in
    let r : g * (b * c) ≡ c * (b * g) = simp (mul_comm, mul_left_comm) in
    l ∙ ap (λ (z : ℕ). d * z) v ∙ m ∙ ap (λ (z : ℕ). g * z) h ∙ r

pub rescaled : (x : Float) (s : Bool) (a c b d : ℕ) → 0 < c → a * d ≡ b * c → HasValue x s a c → HasValue x s b d
rescaled nan s a c b d C h v = v
rescaled (inf t) s a c b d C h v = v
rescaled (fin t m e) s a c b d C h v =
    (v.0, eq_of_mul-eq-mul_left c C (m * up e * d) (b * down e) (other_fraction (m * up e) a b c d (down e) v.1 h))

pub whole_value : (n : ℕ) → n ≤ 16777216 → HasValue (whole n) false n 1
unfolding of_int
whole_value n h = round_whole binary32 false n h

-- ---- a quotient of whole numbers is one rounding
some_divisor : (n : ℕ) → T (ltb 0 n) → eqb n 0 ≡ false
some_divisor n h = ne_eqb n 0 (λ e. lt_irrefl 0 (subst (λ (k : ℕ). 0 < k) e (ltb→lt 0 n h)))

div_is : (f : Format) (x y : Float) → T (positive x) → T (positive y) → div f x y ≡ round f false (num x * den y) (num y * den x)
unfolding div
div_is f nan y p q = absurd p
div_is f (inf s) y p q = absurd p
div_is f (fin true m e) y p q = absurd p
div_is f (fin false m e) nan p q = absurd q
div_is f (fin false m e) (inf t) p q = absurd q
div_is f (fin false m e) (fin true n d) p q = absurd q
div_is f (fin false m e) (fin false n d) p q = rw (some_divisor n q)

crossed : (a b x y p q : ℕ) → x * 1 ≡ a * p → y * 1 ≡ b * q → x * q * b ≡ a * (y * p)
crossed a b x y p q h k =
    let hx : x ≡ a * p = omega arith in
    let hy : y ≡ b * q = omega arith in
    rw (hx, hy) (simp (mul_assoc, mul_comm, mul_left_comm))

pub div_whole : (n d : ℕ) → 0 < n → 0 < d → n ≤ 16777216 → d ≤ 16777216 → div binary32 (whole n) (whole d) ≡ round binary32 false n d
div_whole n d N D ln ld =
    let x = whole n in
    let y = whole d in
    let hx = value→cross x n 1 (whole_value n ln) in
    let hy = value→cross y d 1 (whole_value d ld) in
    let P : 0 < num y = omega (arith, hy, mul-pos D (den_pos y)) in
    div_is binary32 x y (positive_of_value x n 1 (whole_value n ln) N) (positive_of_value y d 1 (whole_value d ld) D)
    ∙ round_same binary32 false (num x * den y) (num y * den x) n d (mul-pos P (den_pos x)) D (crossed n d (num x) (num y) (den x) (den y) hx hy)

-- ---- a difference of a / c and b / c is one rounding of (a - b) / c
taken : (f : Format) (a b c : ℕ) → b ≤ a → sum f false a true b c ≡ round f false (a - b) c
unfolding sum
taken f a b c h = rw (le-ltb a b h)

over_both : (m u g : ℕ) (a c h : ℕ) → m * u * c ≡ a * g → m * u * h * c ≡ a * (g * h)
over_both m u g a c h e = mul_right_comm (m * u) h c ∙ ap (λ (x : ℕ). x * h) e ∙ mul_assoc a g h

module _ (f : Format) (a b c : ℕ) (C : 0 < c) (h : b ≤ a) where
  pub sub_at : (x y : Float) → HasValue x false a c → HasValue y false b c → sub f x y ≡ round f false (a - b) c
  unfolding sub
  sub_at nan y v w = elim v [ ]
  sub_at (inf _) y v w = elim v [ ]
  sub_at (fin false m e) nan v w = elim w [ ]
  sub_at (fin false m e) (inf _) v w = elim w [ ]
  sub_at (fin true m e) y v w = absurd (true≢false v.0)
  sub_at (fin false m e) (fin true n d) v w = absurd (true≢false w.0)
  sub_at (fin false m e) (fin false n d) v w =
      let A = m * up e * down d in
      let B = n * up d * down e in
      let D = down e * down d in
      let eA : A * c ≡ a * D = over_both m (up e) (down e) a c (down d) v.1 in
      let eB : B * c ≡ b * D = over_both n (up d) (down d) b c (down e) w.1 ∙ ap (λ (z : ℕ). b * z) (mul_comm (down d) (down e)) in
      let le : B ≤ A = le_of_mul-le-mul_right (le_trans (le_of_eq eB) (le_trans (mul-le-mul_right D h) (le_of_eq (sym eA)))) C in
      let same : (A - B) * c ≡ (a - b) * D =
      mul_comm (A - B) c ∙ mul-sub c A B ∙ ap (λ (z : ℕ). z - c * B) (mul_comm c A ∙ eA ∙ mul_comm a D) ∙ ap (λ (z : ℕ). D * a - z) (mul_comm c B ∙ eB ∙ mul_comm b D)
      ∙ sym (mul-sub D a b) ∙ mul_comm D (a - b) in
      taken f A B D le ∙ round_same f false (A - B) D (a - b) c (mul-pos (down_pos e) (down_pos d)) C same

-- and with no more than the format's digits, on a grid that both lie on, it is exact
pub sub_exact : (f : Format) (x y : Float) (a b j : ℕ) → b ≤ a → a - b < 2 ^ prec f → prec f + j < low f + suc (emax f)
    → HasValue x false (a * 2 ^ j) (2 ^ low f) → HasValue y false (b * 2 ^ j) (2 ^ low f) → HasValue (sub f x y) false ((a - b) * 2 ^ j) (2 ^ low f)
sub_exact f x y a b j h few room v w =
    let l = 2 ^ low f in
    let e : a * 2 ^ j - b * 2 ^ j ≡ (a - b) * 2 ^ j = sub_mul a b (2 ^ j) in
    let fine : (a - b) * 2 ^ j < 2 ^ (low f + suc (emax f)) = lt_of_lt_of_le (shl_lt (prec f) j few) (pow_mono (le_of_lt room)) in
    subst (λ (z : Float). HasValue z false ((a - b) * 2 ^ j) l)
    (sym (sub_at f (a * 2 ^ j) (b * 2 ^ j) l (pow_pos (low f)) (mul-le-mul_right (2 ^ j) h) x y v w ∙ ap (λ (z : ℕ). round f false z l) e))
    (round_exact f false ((a - b) * 2 ^ j) l (a - b) j (pow_pos (low f)) few fine refl)
  where
    sub_mul : (a b u : ℕ) → a * u - b * u ≡ (a - b) * u
    sub_mul a b u = ap (λ (z : ℕ). z - b * u) (mul_comm a u) ∙ ap (λ (z : ℕ). u * a - z) (mul_comm b u) ∙ sym (mul-sub u a b) ∙ mul_comm u (a - b)
