-- A list laid at the front of a stretch that was lent apart is that list stored in the whole. Assumes nothing.
use Prim.Native.Nat.{ℕ, zero, suc, ◌+◌, ◌*◌, ◌≤◌}
use native.Mathlib.Omega.{arith}
use native.Mathlib.Numerals.{add-one}
use mathlib.Core.Path.{◌≡◌, refl, sym, ap, ◌∙◌}
use mathlib.Core.List.{List, [], ◌∷◌, ◌++◌, append_assoc}
use lib.ListN.{length, take, drop, length-append, length-drop, take-append-drop}
use lib.Seq.{sets, sets-eq, length-sets, length-take-le, drop-drop}
use borrow.Rule.Slice.PartMut.{put_mid}
use Rattle.metrics.specs.Placed.{placed}
use Rattle.kplib.specs.Haplotypes.{laid}

-- the rest of a part, and what lies behind the part
rest_joined : (n k : ℕ) (l : List ℕ) → n ≤ k → drop n (take k l) ++ drop k l ≡ drop n l
rest_joined zero k l h = take-append-drop k l
rest_joined (suc n) zero l h = absurd (omega arith)
rest_joined (suc n) (suc k) [] h = refl
rest_joined (suc n) (suc k) (x ∷ l) h = rest_joined n k l (omega arith)

pub lent_length : (at k : ℕ) (old : List ℕ) → at + k ≤ length old → length (take k (drop at old)) ≡ k
lent_length at k old room = length-take-le k (drop at old) (omega (arith, length-drop at old))

module _ (at k : ℕ) (old xs : List ℕ) (room : at + k ≤ length old) where
  -- a list of the stretch's whole length is stored as it is
  pub all_stored : {part : List ℕ} → part ≡ xs → length part ≡ k → put_mid at k old part ≡ sets old at xs
  all_stored e l =
      let n : length xs ≡ k = sym (ap length e) ∙ l in
      ap (λ (m : List ℕ). take at old ++ (m ++ drop k (drop at old))) e
      ∙ (ap (λ (m : List ℕ). take at old ++ (xs ++ m)) (drop-drop k at old ∙ ap (λ (j : ℕ). drop (at + j) old) (sym n))
      ∙ (sym (append_assoc (take at old) xs (drop (at + length xs) old)) ∙ sym (sets-eq xs old at (omega arith))))

  pub stretch_stored : {part : List ℕ} → part ≡ placed (take k (drop at old)) xs → length part ≡ length (take k (drop at old)) → put_mid at k old part ≡ sets old at xs
  stretch_stored e l =
      let behind = drop (length xs) (take k (drop at old)) in
      let long : length xs + length behind ≡ k = sym (length-append xs behind) ∙ (sym (ap length e) ∙ (l ∙ lent_length at k old room)) in
      ap (λ (m : List ℕ). take at old ++ (m ++ drop k (drop at old))) e
      ∙ (ap (λ (m : List ℕ). take at old ++ m) (append_assoc xs behind (drop k (drop at old)))
      ∙ (ap (λ (m : List ℕ). take at old ++ (xs ++ m)) (rest_joined (length xs) k (drop at old) (omega arith) ∙ drop-drop (length xs) at old)
      ∙ (sym (append_assoc (take at old) xs (drop (at + length xs) old)) ∙ sym (sets-eq xs old at (omega arith)))))

module _ (width : ℕ) (each : ℕ → List ℕ) (buffer : List ℕ) where
  pub none_laid : buffer ≡ laid width each 0 buffer
  unfolding laid
  none_laid = refl

  pub laid_length : (n : ℕ) → length (laid width each n buffer) ≡ length buffer
  unfolding laid
  laid_length zero = refl
  laid_length (suc n) = length-sets (laid width each n buffer) (n * width) (each n) ∙ laid_length n

  pub one_more : (n : ℕ) {old : List ℕ} → old ≡ laid width each n buffer → sets old (n * width) (each n) ≡ laid width each (n + 1) buffer
  unfolding laid
  one_more n e = ap (λ (l : List ℕ). sets l (n * width) (each n)) e ∙ rw (add-one n)
