-- What the two walks do at each record: the rest from here and what is done come to the whole. Assumes nothing.
use Prim.Native.Nat.{ℕ, suc, ◌+◌, ◌-◌, ◌%◌, ◌/◌, ◌≤◌, ◌<◌, min}
use native.Mathlib.Omega.{arith}
use native.Mathlib.Numerals.{add-one}
use mathlib.Core.Path.{◌≡◌, refl, sym, ap, ◌∙◌}
use mathlib.Core.Bool.{Bool, true, false, cond, not, ◌&&◌, ◌||◌}
use mathlib.Core.List.{List, [], ◌∷◌, ◌++◌}
use mathlib.Core.Logic.{⊎_elim}
use lib.Dec.{ltb, leb, eqb}
use lib.ListN.{length, get_or, take, drop, set, length-append, length-take, drop_of_length-le}
use lib.Seq.{sets, sets-eq, drop-cons, drop-drop, get_or-take, length-take-le, take_all}
use borrow.Author.Tests.{le-ltb, lt-ltb, leb-true, leb-false}
use Rattle.fields.specs.Fields.{le4, bytes2, bytes4}
use Rattle.fields.proofs.FieldLaws.{sets_append}
use Rattle.metrics.specs.Placed.{placed}
use Rattle.form.specs.declared.records.Kind.{Kind}
use Rattle.form.specs.declared.records.Record.{Record}
use Rattle.form.specs.declared.records.Edition.{Edition}
use Rattle.form.specs.Form.{kind_of, is_variant, is_second, body_len, record_at}
use Rattle.form.specs.Job.{gather, number_here}
use Rattle.form.proofs.FormLaws.{split, rest_is, record_kind, record_next}
use Rattle.form.proofs.GatherLaws.{gather_here, gather_done}
use Rattle.editions.specs.Moving.{byte_in, shared_len, added_in, record_in, next_row, moved_from, moved, off_row}
use Rattle.editions.specs.Steps.{has_number, Put}
use Rattle.editions.proofs.MoveLaws.{move_skip}

-- ---- a record number
module _ (kind : Kind) (b : List ℕ) where
  no_number : has_number kind b ≡ false → number_here kind b ≡ []
  unfolding has_number number_here
  no_number h = go (is_variant kind) (is_second kind) (leb (body_len kind) (length b)) refl h
    where
      go : (t u w : Bool) → leb (body_len kind) (length b) ≡ w → t && (u && w) ≡ false
          → cond t (cond u (cond (ltb (length b) (body_len kind)) [] (le4 b 25 ∷ [])) []) [] ≡ []
      go true true true e h = let z : ◌≡◌ {A = ℕ} 0 1 = cc in let no : ⊥ = omega arith in absurd no
      go true true false e h = rw (lt-ltb (length b) (body_len kind) (leb-false _ _ e))
      go true false w e h = refl
      go false u w e h = refl

  some_number : has_number kind b ≡ true → number_here kind b ≡ le4 b 25 ∷ []
  unfolding has_number number_here
  some_number h = go (is_variant kind) (is_second kind) (leb (body_len kind) (length b)) refl h
    where
      go : (t u w : Bool) → leb (body_len kind) (length b) ≡ w → t && (u && w) ≡ true
          → cond t (cond u (cond (ltb (length b) (body_len kind)) [] (le4 b 25 ∷ [])) []) [] ≡ le4 b 25 ∷ []
      go true true true e h = rw (le-ltb (length b) (body_len kind) (leb-true _ _ e))
      go true true false e h = let z : ◌≡◌ {A = ℕ} 0 1 = cc in let no : ⊥ = omega arith in absurd no
      go true false w e h = let z : ◌≡◌ {A = ℕ} 0 1 = cc in let no : ⊥ = omega arith in absurd no
      go false u w e h = let z : ◌≡◌ {A = ℕ} 0 1 = cc in let no : ⊥ = omega arith in absurd no

  pub off_none : (row : ℕ) → has_number kind b ≡ false → false ≡ off_row row (number_here kind b)
  unfolding off_row
  off_none row h = sym (rw (no_number h))

  pub off_some : (row n : ℕ) → has_number kind b ≡ true → n ≡ le4 b 25 → not (eqb n row) ≡ off_row row (number_here kind b)
  unfolding off_row
  off_some row n h e = sym (rw (some_number h, sym e) (last (not (eqb n row))))
    where
      last : (t : Bool) → t || false ≡ t
      last true = refl
      last false = refl

  pub row_none : (row : ℕ) → has_number kind b ≡ false → (row ≡ row + length (number_here kind b)) × (row ≤ row + 1)
  row_none row h = (rw (no_number h) (omega arith), omega arith)

  pub row_some : (row : ℕ) → has_number kind b ≡ true → (row + 1 ≡ row + length (number_here kind b)) × (row + 1 ≤ row + 1)
  row_some row h = (rw (some_number h), omega arith)

off_append : (row : ℕ) (xs ys : List ℕ) → off_row row (xs ++ ys) ≡ (off_row row xs || off_row (row + length xs) ys)
unfolding off_row
off_append row [] ys = let z : row + 0 ≡ row = omega arith in rw z
off_append row (x ∷ xs) ys =
    let z : suc row + length xs ≡ row + suc (length xs) = omega arith in
    go (not (eqb x row)) (off_row (suc row) (xs ++ ys)) (off_row (suc row) xs) (off_row (row + suc (length xs)) ys) (off_append (suc row) xs ys ∙ rw z)
  where
    go : (t a b c : Bool) → a ≡ (b || c) → (t || a) ≡ ((t || b) || c)
    go true a b c e = refl
    go false a b c e = e

module _ (s : List ℕ) (at row : ℕ) where
  pub off_done : length s ≤ at → false ≡ off_row row (gather number_here (drop at s) 0)
  unfolding off_row
  off_done h = sym (rw (gather_done number_here s at h))

  module _ (inside : at < length s) (here : Record) (is : here ≡ record_at s at) where
    abbrev body : List ℕ
    body = take (length s - (at + 1)) (drop (at + 1) s)

    off_here : off_row row (gather number_here (drop at s) 0)
        ≡ (off_row row (number_here here.kind body) || off_row (row + length (number_here here.kind body)) (gather number_here (drop here.next s) 0))
    off_here = ap (off_row row) (gather_here number_here s at inside here is) ∙ off_append row (number_here here.kind body) (gather number_here (drop here.next s) 0)

    pub off_found : off_row row (number_here here.kind body) ≡ true → true ≡ off_row row (gather number_here (drop at s) 0)
    off_found h = sym (off_here ∙ rw h)

    pub off_more : (next : ℕ) → off_row row (number_here here.kind body) ≡ false → next ≡ row + length (number_here here.kind body)
        → off_row next (gather number_here (drop here.next s) 0) ≡ off_row row (gather number_here (drop at s) 0)
    off_more next h e = sym (off_here ∙ rw (h, sym e))

-- ---- bytes copied one by one
module _ (b : List ℕ) (n at : ℕ) (out : List ℕ) where
  pub copy_start : sets out (at + 0) (drop 0 (take n b)) ≡ sets out at (take n b)
  copy_start = let h : at + 0 ≡ at = omega arith in rw h

  pub copy_more : (i : ℕ) → i < n → n ≤ length b
      → sets (set out (at + i) (get_or b i 0)) (at + (i + 1)) (drop (i + 1) (take n b)) ≡ sets out (at + i) (drop i (take n b))
  copy_more i h l =
      let f : at + suc i ≡ suc (at + i) = omega arith in
      let inside : i < length (take n b) = rw (length-take-le n b l) h in
      rw (add-one i, f) (sym (ap (λ (q : List ℕ). sets out (at + i) q) (drop-cons (take n b) i 0 inside) ∙ rw (get_or-take n b i 0 h)))

  pub copy_done : (i : ℕ) → n ≤ i → n ≤ length b → sets out (at + i) (drop i (take n b)) ≡ out
  copy_done i h l = let g : length (take n b) ≤ i = rw (length-take-le n b l) h in rw (drop_of_length-le (take n b) {i = i} g)

pub copy_next : (b : List ℕ) (n at : ℕ) → n ≤ length b → at + n ≡ at + length (take n b)
copy_next b n at l = rw (length-take-le n b l)

-- as many bytes as there are
pub take_smaller : (m : ℕ) (b : List ℕ) → take (min m (length b)) b ≡ take m b
take_smaller m b = ⊎_elim
    (λ (t : leb m (length b) ≡ true). let h : m ≤ length b = leb-true _ _ t in let e : min m (length b) ≡ m = omega arith in rw e)
    (λ (t : leb m (length b) ≡ false).
    let h : length b < m = leb-false m (length b) t in
    let e : min m (length b) ≡ length b = omega arith in
    rw e (take_all (length b) b (omega arith) ∙ sym (take_all m b (omega arith))))
    (split (leb m (length b)))

-- ---- what edition 2 has behind
low_same : (x : ℕ) → x % 4294967296 % 65536 ≡ x % 65536
low_same x = omega arith

high_low : (x : ℕ) → x % 4294967296 / 65536 ≡ x / 65536 % 65536
high_low x = omega arith

half_low : (x : ℕ) → x % 65536 % 256 ≡ x % 256
half_low x = omega arith

half_high : (x : ℕ) → x % 65536 / 256 % 256 ≡ x / 256 % 256
half_high x = omega arith

pub word_bytes : (x : ℕ) → bytes4 (x % 4294967296) ≡ bytes4 x
unfolding bytes4 bytes2
word_bytes x = rw (low_same x, high_low x, half_low (x / 65536), half_high (x / 65536))

-- ---- one record, its three pieces one behind the other
module _ (e : Edition) (byte : ℕ) (b : List ℕ) (row : ℕ) where
  pub long_record : length (record_in e byte b row) ≡ suc (min (shared_len (kind_of byte)) (length b) + length (added_in e (kind_of byte) row))
  unfolding record_in
  long_record = ap suc (length-append (take (shared_len (kind_of byte)) b) (added_in e (kind_of byte) row) ∙ rw (length-take (shared_len (kind_of byte)) b))

  pub copy_fits : (kind : Kind) (m n at len : ℕ) → kind ≡ kind_of byte → m ≡ shared_len kind → n ≡ min m (length b) → at + length (record_in e byte b row) ≤ len
      → (n ≤ length b) × (at + 1 + n ≤ len)
  copy_fits kind m n at len k i j h =
      let l : length (record_in e byte b row) ≡ suc (n + length (added_in e (kind_of byte) row)) = long_record ∙ rw (sym k, sym i, sym j) in
      (omega arith, omega arith)

  pub record_put : (out first copied laid : List ℕ) (at end r k m n : ℕ) (kind : Kind) → kind ≡ kind_of byte → k ≡ byte_in e byte → m ≡ shared_len kind → n ≡ min m (length b)
      → first ≡ set out at k → Put first copied (at + 1) end (take n b) → Put copied laid end r (added_in e kind row)
      → Put out laid at r (record_in e byte b row)
  unfolding record_in
  record_put out first copied laid at end r k m n kind i kis mis nis fis c a =
      let few : n ≡ min (shared_len (kind_of byte)) (length b) = nis ∙ ap (λ (j : ℕ). min j (length b)) (mis ∙ ap shared_len i) in
      let shared : take n b ≡ take (shared_len (kind_of byte)) b = ap (λ (j : ℕ). take j b) few ∙ take_smaller (shared_len (kind_of byte)) b in
      let z : at + 1 ≡ suc at = omega arith in
      let xs : List ℕ = take n b in
      let ys : List ℕ = added_in e kind row in
      let is : laid ≡ sets out at (k ∷ (xs ++ ys)) =
      a.is ∙ rw (c.is, c.next, fis, z) (sym (sets_append (set out at k) (suc at) xs ys)) in
      let next : r ≡ at + length (k ∷ (xs ++ ys)) = omega (arith, a.next, c.next, length-append xs ys) in
      rw (sym kis, sym shared, sym i) (record { is = is; next = next })

-- ---- the walk that lays them
module _ (e : Edition) (s : List ℕ) (at row : ℕ) where
  pub move_done : length s ≤ at → moved_from e (drop at s) 0 row ≡ []
  unfolding moved_from
  move_done h = rw (drop_of_length-le s {i = at} h)

  module _ (inside : at < length s) (here : Record) (is : here ≡ record_at s at) where
    pub move_here : moved_from e (drop at s) 0 row
        ≡ record_in e (get_or s at 0) (body s at row inside here is) row ++ moved_from e (drop here.next s) 0 (next_row here.kind row)
    unfolding moved_from
    move_here =
        let h : suc at + body_len here.kind ≡ here.next = omega (arith, record_next s at inside here is) in
        let k : here.kind ≡ kind_of (get_or s at 0) = record_kind s at inside here is in
        let rest : List ℕ = drop (suc at) s in
        ap (λ (l : List ℕ). moved_from e l 0 row) (drop-cons s at 0 inside)
        ∙ ap (λ (d : Kind). record_in e (get_or s at 0) rest row ++ moved_from e rest (body_len d) (next_row d row)) (sym k)
        ∙ rw (rest_is s at inside) (ap (λ (l : List ℕ). record_in e (get_or s at 0) rest row ++ l)
        (move_skip e rest (body_len here.kind) (next_row here.kind row)
        ∙ ap (λ (l : List ℕ). moved_from e l 0 (next_row here.kind row)) (drop-drop (body_len here.kind) (suc at) s ∙ ap (λ (j : ℕ). drop j s) h)))

    pub lay_fits : (end whole : ℕ) → end + length (moved_from e (drop at s) 0 row) ≡ whole → end + length (record_in e (get_or s at 0) (body s at row inside here is) row) ≤ whole
    lay_fits end whole h =
        omega (arith, ap length move_here, length-append (record_in e (get_or s at 0) (body s at row inside here is) row) (moved_from e (drop here.next s) 0 (next_row here.kind row)))

    pub lay_more : (out laid : List ℕ) (end r next : ℕ) → Put out laid end r (record_in e (get_or s at 0) (body s at row inside here is) row) → next ≡ next_row here.kind row
        → (sets laid r (moved_from e (drop here.next s) 0 next) ≡ sets out end (moved_from e (drop at s) 0 row))
        × (r + length (moved_from e (drop here.next s) 0 next) ≡ end + length (moved_from e (drop at s) 0 row))
    lay_more out laid end r next p n =
        let x : List ℕ = record_in e (get_or s at 0) (body s at row inside here is) row in
        let y : List ℕ = moved_from e (drop here.next s) 0 (next_row here.kind row) in (
          rw (n, p.is, p.next, move_here) (sym (sets_append out end x y)),
          rw n (omega (arith, p.next, ap length move_here, length-append x y)),
        )

pub lay_done : (e : Edition) (s out first : List ℕ) (at end row : ℕ) → length s ≤ at → sets out end (moved_from e (drop at s) 0 row) ≡ sets first 0 (moved e s)
    → end + length (moved_from e (drop at s) 0 row) ≡ length (moved e s) → Put first out 0 end (moved e s)
lay_done e s out first at end row h p q =
    let d : moved_from e (drop at s) 0 row ≡ [] = move_done e s at row h in
    let z : end + length (moved_from e (drop at s) 0 row) ≡ end + 0 = ap (λ (l : List ℕ). end + length l) d in
    record { is = sym (ap (λ (l : List ℕ). sets out end l) d) ∙ p; next = omega arith }

-- bytes stored from the front on, where there is room for them
pub front_placed : (out bytes : List ℕ) → length bytes ≤ length out → sets out 0 bytes ≡ placed out bytes
front_placed out bytes h = let z : 0 + length bytes ≡ length bytes = omega arith in sets-eq bytes out 0 (omega arith) ∙ rw z
