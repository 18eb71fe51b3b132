-- What a buffer holds in which n haplotypes have laid down their lists: stretch i begins with the list of haplotype i, and what lies behind a list, in its stretch or
-- behind the last one, is as it was. Each list is no longer than its stretch. Assumes nothing.
use Prim.Native.Nat.{ℕ, zero, suc, ◌+◌, ◌-◌, ◌*◌, ◌≤◌, ◌<◌}
use native.Mathlib.Omega.{arith}
use native.Mathlib.Nat.{mul-le-mul_right, suc-mul}
use mathlib.Core.Path.{◌≡◌, refl, sym, ap, ◌∙◌}
use mathlib.Core.Bool.{Bool, true, false}
use mathlib.Core.List.{List, [], ◌∷◌, ◌++◌, append_assoc}
use borrow.Author.Tests.{ltb-true, ltb-false}
use lib.Dec.{ltb}
use lib.ListN.{length, take, drop}
use lib.Seq.{sets, sets-eq, take-set-le, drop-set-lt, take_at, drop_at, drop-drop, take-append-add, take-take, length-take-le}
use Rattle.metrics.specs.Placed.{placed}
use Rattle.kplib.specs.Haplotypes.{laid}
use Rattle.kplib.proofs.StretchLaws.{laid_length}

-- ---- one list stored from `at` on
take_inside : (m k : ℕ) (l : List ℕ) → take m (drop k l) ≡ drop k (take (k + m) l)
take_inside m zero l = let z : 0 + m ≡ m = omega arith in rw z refl
take_inside zero (suc k) [] = let z : suc k + 0 ≡ suc k = omega arith in rw z refl
take_inside (suc m) (suc k) [] = let z : suc k + suc m ≡ suc (k + suc m) = omega arith in rw z refl
take_inside m (suc k) (x ∷ l) = let z : suc k + m ≡ suc (k + m) = omega arith in rw z (take_inside m k l)

first_kept : (j at : ℕ) (l ys : List ℕ) → j ≤ at → take j (sets l at ys) ≡ take j l
first_kept j at l [] h = refl
first_kept j at l (y ∷ ys) h = first_kept j (suc at) _ ys (omega arith) ∙ take-set-le j l at y h

kept_before : (m k at : ℕ) (l ys : List ℕ) → k + m ≤ at → take m (drop k (sets l at ys)) ≡ take m (drop k l)
kept_before m k at l ys h = take_inside m k (sets l at ys) ∙ (ap (λ (t : List ℕ). drop k t) (first_kept (k + m) at l ys h) ∙ sym (take_inside m k l))

kept_behind : (k at : ℕ) (l ys : List ℕ) → at + length ys ≤ k → drop k (sets l at ys) ≡ drop k l
kept_behind k at l [] h = refl
kept_behind k at l (y ∷ ys) h = kept_behind k (suc at) _ ys (omega arith) ∙ drop-set-lt k l at y (omega arith)

drop_part : (n w : ℕ) (l : List ℕ) → n ≤ w → drop n (take w l) ≡ take (w - n) (drop n l)
drop_part n w l h = let z : n + (w - n) ≡ w = omega arith in sym (take_inside (w - n) n l ∙ rw z refl)

stored_here : (at w : ℕ) (l ys : List ℕ) → at + w ≤ length l → length ys ≤ w → take w (drop at (sets l at ys)) ≡ placed (take w (drop at l)) ys
stored_here at w l ys room few =
    let z : length ys + (w - length ys) ≡ w = omega arith in
    let stored : drop at (sets l at ys) ≡ ys ++ drop (at + length ys) l =
    ap (λ (m : List ℕ). drop at m) (sets-eq ys l at (omega arith) ∙ append_assoc (take at l) ys (drop (at + length ys) l))
    ∙ drop_at (take at l) (ys ++ drop (at + length ys) l) at (length-take-le at l (omega arith)) in
    let cut : take w (ys ++ drop (at + length ys) l) ≡ ys ++ take (w - length ys) (drop (at + length ys) l) = rw z at (take-append-add ys (drop (at + length ys) l) (w - length ys)) in
    ap (λ (m : List ℕ). take w m) stored
    ∙ (cut ∙ ap (λ (m : List ℕ). ys ++ m) (ap (λ (m : List ℕ). take (w - length ys) m) (sym (drop-drop (length ys) at l)) ∙ sym (drop_part (length ys) w (drop at l) few)))

-- ---- the lists of n haplotypes
module _ (w : ℕ) (each : ℕ → List ℕ) (buffer : List ℕ) where
  pub laid_behind : (n k : ℕ) → ((j : ℕ) → j < n → length (each j) ≤ w) → n * w ≤ k → drop k (laid w each n buffer) ≡ drop k buffer
  unfolding laid
  laid_behind zero k fits h = refl
  laid_behind (suc n) k fits h =
      kept_behind k (n * w) (laid w each n buffer) (each n) (omega (arith, fits n (omega arith), suc-mul n w))
      ∙ laid_behind n k (λ j l. fits j (omega arith)) (omega (arith, suc-mul n w))

  pub laid_at : (n i : ℕ) → i < n → ((j : ℕ) → j < n → length (each j) ≤ w) → n * w ≤ length buffer
      → take w (drop (i * w) (laid w each n buffer)) ≡ placed (take w (drop (i * w) buffer)) (each i)
  unfolding laid
  laid_at zero i l fits room = absurd (omega arith)
  laid_at (suc n) i l fits room = go (ltb i n) refl (λ m. laid_at n i m (λ j q. fits j (omega arith)) (omega (arith, suc-mul n w)))
    where
      go : (b : Bool) → ltb i n ≡ b → (i < n → take w (drop (i * w) (laid w each n buffer)) ≡ placed (take w (drop (i * w) buffer)) (each i))
          → take w (drop (i * w) (sets (laid w each n buffer) (n * w) (each n))) ≡ placed (take w (drop (i * w) buffer)) (each i)
      go true e before =
          let m = ltb-true i n e in
          kept_before w (i * w) (n * w) (laid w each n buffer) (each n) (omega (arith, mul-le-mul_right w m, suc-mul i w)) ∙ before m
      go false e before =
          let same : i ≡ n = omega (arith, ltb-false i n e) in
          let long = laid_length w each buffer n in
          rw same (stored_here (n * w) w (laid w each n buffer) (each n) (omega (arith, long, room, suc-mul n w)) (fits n (omega arith))
          ∙ ap (λ (m : List ℕ). placed (take w m) (each n)) (laid_behind n (n * w) (λ j q. fits j (omega arith)) (omega arith)))

  -- so a stretch begins with its list
  pub laid_first : (n i : ℕ) → i < n → ((j : ℕ) → j < n → length (each j) ≤ w) → n * w ≤ length buffer → take (length (each i)) (drop (i * w) (laid w each n buffer)) ≡ each i
  laid_first n i l fits room =
      sym (take-take (length (each i)) w (drop (i * w) (laid w each n buffer)) (fits i l))
      ∙ (ap (λ (m : List ℕ). take (length (each i)) m) (laid_at n i l fits room) ∙ take_at (each i) (drop (length (each i)) (take w (drop (i * w) buffer))) (length (each i)) refl)

  -- and lists that are alike are laid down alike
  pub laid_alike : (other : ℕ → List ℕ) (n : ℕ) → ((j : ℕ) → j < n → each j ≡ other j) → laid w each n buffer ≡ laid w other n buffer
  unfolding laid
  laid_alike other zero same = refl
  laid_alike other (suc n) same =
      ap (λ (l : List ℕ). sets l (n * w) (each n)) (laid_alike other n (λ j l. same j (omega arith)))
      ∙ ap (λ (l : List ℕ). sets (laid w other n buffer) (n * w) l) (same n (omega arith))
