-- Letters, and breaks, stored record by record: what is stored plus what the rest of the walk will give is the whole. Assumes nothing.
use Prim.Native.Nat.{ℕ, zero, suc, ◌+◌, ◌-◌, ◌≤◌, ◌<◌, ◌/◌}
use native.Mathlib.Omega.{arith}
use native.Mathlib.Numerals.{add-one}
use mathlib.Core.Path.{◌≡◌, refl, sym, ap, ◌∙◌}
use mathlib.Core.List.{List, [], ◌∷◌, ◌++◌}
use lib.ListN.{length, get_or, take, drop, set, drop_of_length-le}
use lib.Seq.{drop-cons, drop-nil, drop-drop}
use Rattle.form.specs.declared.records.Kind.{Kind}
use Rattle.form.specs.declared.records.Record.{Record}
use Rattle.form.specs.Form.{body_len, count_of, record_at}
use Rattle.form.specs.Job.{letters_in, part_here}
use Rattle.form.specs.Steps.{letters_given, letters_owed, letters_walk, break_here, breaks_walk}
use Rattle.form.proofs.FormLaws.{rest_is, record_kind, record_count, record_next}
use Rattle.form.proofs.GatherLaws.{long_letters}
use Rattle.reader.specs.Steps.{stores}
use Rattle.reader.proofs.FillLaws.{stores_append}

-- ---- the letters of one record, one by one
module _ (b : List ℕ) (n at : ℕ) (out : List ℕ) where
  pub copy_start : stores set out (at + 0) (letters_in (4 ∷ b) 0 (n - 0)) ≡ stores set out at (letters_in (4 ∷ b) 0 n)
  copy_start =
      let h : at + 0 ≡ at = omega arith in
      let g : n - 0 ≡ n = omega arith in
      rw (h, g)

  pub copy_more : (i x : ℕ) (u : List ℕ) → i < n → n ≤ 16 → x ≡ get_or b i 0 → u ≡ set out (at + i) x
      → stores set u (at + (i + 1)) (letters_in (4 ∷ b) (i + 1) (n - (i + 1))) ≡ stores set out (at + i) (letters_in (4 ∷ b) i (n - i))
  unfolding letters_in stores
  copy_more i x u h m e w =
      let g : n - i ≡ suc (n - suc i) = omega arith in
      let f : at + suc i ≡ suc (at + i) = omega arith in
      let p : 1 + i + i / 16 ≡ suc i = omega arith in
      rw (add-one i, g, f, w, e, p)

  pub copy_done : (i : ℕ) → n ≤ i → stores set out (at + i) (letters_in (4 ∷ b) i (n - i)) ≡ out
  unfolding letters_in stores
  copy_done i h = let g : n - i ≡ 0 = omega arith in rw g

pub laid_letters : (out : List ℕ) (at : ℕ) (b : List ℕ) (n m : ℕ) (u : List ℕ) → n ≡ m
    → u ≡ stores set out at (letters_in (4 ∷ b) 0 n) → u ≡ stores set out at (letters_in (4 ∷ b) 0 m)
laid_letters out at b n m u e h = h ∙ ap (λ (j : ℕ). stores set out at (letters_in (4 ∷ b) 0 j)) e

-- ---- the walk
walk_skip : (s : List ℕ) (n left : ℕ) → letters_walk s n left ≡ letters_walk (drop n s) 0 left
unfolding letters_walk
walk_skip [] n left = simp drop-nil
walk_skip (k ∷ b) zero left = refl
walk_skip (k ∷ b) (suc n) left = walk_skip b n left

module _ (s : List ℕ) (at : ℕ) where
  pub walk_done : (t : List ℕ) (l left : ℕ) → length s ≤ at → stores set t l (letters_walk (drop at s) 0 left) ≡ t
  unfolding stores letters_walk
  walk_done t l left h = rw (drop_of_length-le s {i = at} h)

  module _ (inside : at < length s) (here : Record) (is : here ≡ record_at s at) where
    -- the part of the slice that the code takes
    abbrev body : List ℕ
    body = take (length s - (at + 1)) (drop (at + 1) s)

    walk_here : (left : ℕ)
        → letters_walk (drop at s) 0 left ≡ letters_in (4 ∷ body) 0 (letters_given here.kind left) ++ letters_walk (drop here.next s) 0 (letters_owed here.kind here.count left)
    unfolding letters_walk
    walk_here left =
        let h : suc at + body_len here.kind ≡ here.next = omega (arith, record_next s at inside here is) in
        let rest : List ℕ = drop (suc at) s in
        let c : here.count ≡ count_of here.kind rest = record_count s at inside here is ∙ ap (count_of here.kind) (rest_is s at inside) in
        ap (λ (l : List ℕ). letters_walk l 0 left) (drop-cons s at 0 inside)
        ∙ ap (λ (k : Kind). letters_in (4 ∷ rest) 0 (letters_given k left) ++ letters_walk rest (body_len k) (letters_owed k (count_of k rest) left)) (sym (record_kind s at inside here is))
        ∙ rw (rest_is s at inside, c) (ap (λ (l : List ℕ). letters_in (4 ∷ rest) 0 (letters_given here.kind left) ++ l)
        (walk_skip rest (body_len here.kind) (letters_owed here.kind (count_of here.kind rest) left)
        ∙ ap (λ (l : List ℕ). letters_walk l 0 (letters_owed here.kind (count_of here.kind rest) left)) (drop-drop (body_len here.kind) (suc at) s ∙ ap (λ (j : ℕ). drop j s) h)))

    pub walk_more : (t u : List ℕ) (l r left owed : ℕ) → owed ≡ letters_owed here.kind here.count left → r ≡ l + letters_given here.kind left
        → u ≡ stores set t l (letters_in (4 ∷ body) 0 (letters_given here.kind left))
        → stores set u r (letters_walk (drop here.next s) 0 owed) ≡ stores set t l (letters_walk (drop at s) 0 left)
    walk_more t u l r left owed o g f = rw (f, g, o, walk_here left, stores_append, long_letters)

-- ---- the breaks
breaks_skip : (s : List ℕ) (n p : ℕ) → breaks_walk s n p ≡ breaks_walk (drop n s) 0 p
unfolding breaks_walk
breaks_skip [] n p = simp drop-nil
breaks_skip (k ∷ b) zero p = refl
breaks_skip (k ∷ b) (suc n) p = breaks_skip b n p

module _ (s : List ℕ) (at : ℕ) where
  pub breaks_done : (t : List ℕ) (v p : ℕ) → length s ≤ at → stores set t v (breaks_walk (drop at s) 0 p) ≡ t
  unfolding stores breaks_walk
  breaks_done t v p h = rw (drop_of_length-le s {i = at} h)

  module _ (inside : at < length s) (here : Record) (is : here ≡ record_at s at) where
    breaks_here : (p : ℕ) → breaks_walk (drop at s) 0 p ≡ break_here here.kind p ++ breaks_walk (drop here.next s) 0 (p + length (part_here here.kind (body s at inside here is)))
    unfolding breaks_walk
    breaks_here p =
        let h : suc at + body_len here.kind ≡ here.next = omega (arith, record_next s at inside here is) in
        let rest : List ℕ = drop (suc at) s in
        ap (λ (l : List ℕ). breaks_walk l 0 p) (drop-cons s at 0 inside)
        ∙ ap (λ (k : Kind). break_here k p ++ breaks_walk rest (body_len k) (p + length (part_here k rest))) (sym (record_kind s at inside here is))
        ∙ rw (rest_is s at inside) (ap (λ (l : List ℕ). break_here here.kind p ++ l)
        (breaks_skip rest (body_len here.kind) (p + length (part_here here.kind rest))
        ∙ ap (λ (l : List ℕ). breaks_walk l 0 (p + length (part_here here.kind rest))) (drop-drop (body_len here.kind) (suc at) s ∙ ap (λ (j : ℕ). drop j s) h)))

    pub breaks_more : (t u : List ℕ) (v r p q : ℕ) → u ≡ stores set t v (break_here here.kind p) → r ≡ v + length (break_here here.kind p)
        → q ≡ p + length (part_here here.kind (body s at inside here is))
        → stores set u r (breaks_walk (drop here.next s) 0 q) ≡ stores set t v (breaks_walk (drop at s) 0 p)
    breaks_more t u v r p q f g e = rw (f, g, e, breaks_here p, stores_append)
