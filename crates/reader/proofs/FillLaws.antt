-- Storing what a form's records add, one after the other: what is stored plus what the rest will add is the whole. Assumes nothing.
use Prim.Native.Nat.{ℕ, suc, ◌+◌, ◌-◌, ◌≤◌, ◌<◌}
use native.Mathlib.Omega.{arith}
use native.Mathlib.Nat.{add-zero, add-suc, suc-add}
use mathlib.Core.Path.{◌≡◌, refl, sym, ap, ◌∙◌}
use mathlib.Core.List.{List, [], ◌∷◌, ◌++◌}
use mathlib.Core.Bool.{Bool, true}
use lib.IntN.{ℤ}
use lib.Dec.{eqb}
use lib.ListN.{length, get_or, take, drop, set}
use lib.Seq.{sets}
use borrow.Author.Tests.{le-ltb}
use Rattle.fields.specs.Fields.{le4, le8, signed_of}
use Rattle.form.specs.declared.records.Kind.{Kind}
use Rattle.form.specs.declared.records.Kind.TheVariants.{Variant}
use Rattle.form.specs.declared.records.Record.{Record}
use Rattle.form.specs.Form.{is_variant, is_part, body_len, count_of, record_at}
use Rattle.form.specs.Job.{letters_in, letters_after, variant_of, part_of, variant_here, part_here, gather}
use Rattle.reader.specs.Steps.{Rows, rows, put_row, PartRows, part_rows, put_part, stores, Stored}
use Rattle.form.proofs.GatherLaws.{gather_here, gather_done, long_letters}

-- ---- storing
module _ {T A : Type 0} (put : T → ℕ → A → T) where
  pub stores_append : (t : T) (v : ℕ) (xs ys : List A) → stores put t v (xs ++ ys) ≡ stores put (stores put t v xs) (v + length xs) ys
  unfolding stores
  stores_append t v [] ys = rw (add-zero v)
  stores_append t v (x ∷ xs) ys = stores_append (put t v x) (suc v) xs ys ∙ ap (λ (n : ℕ). stores put (stores put (put t v x) (suc v) xs) n ys) (suc-add v (length xs) ∙ sym (add-suc v (length xs)))

  pub keeps : (g : T → ℕ) → ((t : T) (v : ℕ) (x : A) → g (put t v x) ≡ g t) → (t : T) (v : ℕ) (xs : List A) → g (stores put t v xs) ≡ g t
  unfolding stores
  keeps g h t v [] = refl
  keeps g h t v (x ∷ xs) = keeps g h (put t v x) (suc v) xs ∙ h t v x

  pub stays : (g : T → ℕ) → ((t : T) (v : ℕ) (x : A) → g (put t v x) ≡ g t) → {u : T} (t : T) (v : ℕ) (xs : List A) → u ≡ stores put t v xs → g u ≡ g t
  stays g h t v xs e = ap g e ∙ keeps g h t v xs

  module _ (here : Kind → List ℕ → List A) (s : List ℕ) (at : ℕ) where
    pub put_done : (t : T) (v : ℕ) → length s ≤ at → stores put t v (gather here (drop at s) 0) ≡ t
    unfolding stores
    put_done t v h = rw (gather_done here s at h)

    pub put_more : (inside : at < length s) (k : Record) → k ≡ record_at s at → (t u : T) (v r : ℕ)
        → u ≡ stores put t v (here k.kind (take (length s - (at + 1)) (drop (at + 1) s)))
        → r ≡ v + length (here k.kind (take (length s - (at + 1)) (drop (at + 1) s)))
        → stores put u r (gather here (drop k.next s) 0) ≡ stores put t v (gather here (drop at s) 0)
    put_more inside k is t u v r f g = rw (f, g, gather_here here s at inside k is, stores_append)

pub stores_sets : {A : Type 0} (l : List A) (i : ℕ) (xs : List A) → stores set l i xs ≡ sets l i xs
unfolding stores
stores_sets l i [] = refl
stores_sets l i (x ∷ xs) = stores_sets (set l i x) (suc i) xs

-- ---- a variant's row, and a part's
pub variant_put : (t : Rows) (v : ℕ) (b : List ℕ) {f l c : List ℕ} {n : List Bool} {s : List ℤ} {p q x w : ℕ} {z : ℤ}
    → f ≡ set t.starts v p → p ≡ le8 b 0 → l ≡ set t.ends v q → q ≡ le8 b 8 → s ≡ set t.sizes v z → z ≡ signed_of x → x ≡ le4 b 16
    → n ≡ set t.negatives v (eqb (get_or b 20 0) 1) → c ≡ set t.counts v w → w ≡ le4 b 21 → rows f l s n c ≡ put_row t v (variant_of Variant b)
unfolding variant_of letters_after count_of
variant_put t v b hf hp hl hq hs hz hx hn hc hw = rw (hf, hp, hl, hq, hs, hz, hx, hn, hc, hw, long_letters)

pub part_put : (t : PartRows) (v : ℕ) (b : List ℕ) {c : List ℕ} {n : List Bool} {s : List ℤ} {x w : ℕ} {z : ℤ}
    → s ≡ set t.sizes v z → z ≡ signed_of x → x ≡ le4 b 0
    → n ≡ set t.negatives v (eqb (get_or b 4 0) 1) → c ≡ set t.counts v w → w ≡ le4 b 5 → part_rows s n c ≡ put_part t v (part_of b)
unfolding part_of letters_after count_of
part_put t v b hs hz hx hn hc hw = rw (hs, hz, hx, hn, hc, hw, long_letters)

-- a variant of either edition has the fields of edition 1's, and its row is that one's
same_count : (kind : Kind) (b : List ℕ) → is_variant kind ≡ true → count_of Variant b ≡ count_of kind b
unfolding count_of
same_count kind b h = grind arith

pub same_row : (t : Rows) (v : ℕ) (kind : Kind) (b : List ℕ) → is_variant kind ≡ true → put_row t v (variant_of Variant b) ≡ put_row t v (variant_of kind b)
unfolding variant_of letters_after
same_row t v kind b h =
    let e : length (letters_in (drop (body_len Variant) b) 0 (count_of Variant b)) ≡ length (letters_in (drop (body_len kind) b) 0 (count_of kind b)) =
    long_letters (drop (body_len Variant) b) 0 (count_of Variant b) ∙ same_count kind b h ∙ sym (long_letters (drop (body_len kind) b) 0 (count_of kind b)) in
    ap (λ (n : ℕ). rows (set t.starts v (le8 b 0)) (set t.ends v (le8 b 8)) (set t.sizes v (signed_of (le4 b 16))) (set t.negatives v (eqb (get_or b 20 0) 1))
    (set t.counts v n)) e

-- a record that adds nothing, and one that adds one
module _ {T A : Type 0} (put : T → ℕ → A → T) (t : T) (v : ℕ) where
  pub adds_none : {xs : List A} → xs ≡ [] → Stored put t t v v xs
  unfolding stores
  adds_none e = rw e (record { is = refl; next = sym (add-zero v); one = omega arith })

  pub adds_one : {xs : List A} {u : T} (x : A) → xs ≡ x ∷ [] → u ≡ put t v x → Stored put t u v (v + 1) xs
  unfolding stores
  adds_one x e w = rw e (record { is = w; next = refl; one = omega arith })

module _ (kind : Kind) (b : List ℕ) where
  pub one_variant : {n : ℕ} → is_variant kind ≡ true → n ≡ body_len kind → n ≤ length b → variant_here kind b ≡ variant_of kind b ∷ []
  unfolding variant_here
  one_variant h e g = rw (h, sym e, le-ltb (length b) _ g)

  pub one_part : is_part kind ≡ true → 9 ≤ length b → part_here kind b ≡ part_of b ∷ []
  unfolding part_here
  one_part h g = rw (h, le-ltb (length b) 9 g)
