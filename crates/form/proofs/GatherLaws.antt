-- The walk over a form's records, and how many letters a record or some rows announce: what reader and writer share. Assumes nothing.
use Prim.Native.Nat.{ℕ, zero, suc, ◌+◌, ◌-◌, ◌≤◌, ◌<◌}
use native.Mathlib.Omega.{arith}
use native.Mathlib.Numerals.{add-one}
use mathlib.Core.Path.{◌≡◌, refl, sym, ap, ◌∙◌}
use mathlib.Core.List.{List, [], ◌∷◌, ◌++◌}
use lib.ListN.{length, get_or, take, drop, drop_of_length-le}
use lib.Seq.{drop-cons, drop-nil, drop-drop}
use Rattle.form.specs.declared.records.Kind.{Kind}
use Rattle.form.specs.declared.records.Record.{Record}
use Rattle.form.specs.Form.{kind_of, body_len, record_at}
use Rattle.form.specs.Job.{letters_in, gather}
use Rattle.form.specs.Lent.{sum}
use Rattle.form.proofs.FormLaws.{rest_is, record_kind, record_next}

-- ---- the walk over the records
module _ {A : Type 0} (here : Kind → List ℕ → List A) where
  pub gather_skip : (s : List ℕ) (n : ℕ) → gather here s n ≡ gather here (drop n s) 0
  unfolding gather
  gather_skip [] n = simp drop-nil
  gather_skip (k ∷ b) zero = refl
  gather_skip (k ∷ b) (suc n) = gather_skip b n

  module _ (s : List ℕ) (at : ℕ) where
    pub gather_done : length s ≤ at → gather here (drop at s) 0 ≡ []
    unfolding gather
    gather_done h = rw (drop_of_length-le s {i = at} h)

    pub gather_here : (inside : at < length s) (r : Record) → r ≡ record_at s at
        → gather here (drop at s) 0 ≡ here r.kind (take (length s - (at + 1)) (drop (at + 1) s)) ++ gather here (drop r.next s) 0
    unfolding gather
    gather_here inside r is =
        let h : suc at + body_len r.kind ≡ r.next = omega (arith, record_next s at inside r is) in
        let e : r.kind ≡ kind_of (get_or s at 0) = record_kind s at inside r is in
        ap (λ (l : List ℕ). gather here l 0) (drop-cons s at 0 inside)
        ∙ ap (λ (k : Kind). here k (drop (suc at) s) ++ gather here (drop (suc at) s) (body_len k)) (sym e)
        ∙ rw (rest_is s at inside) (ap (λ (l : List A). here r.kind (drop (suc at) s) ++ l)
        (gather_skip (drop (suc at) s) (body_len r.kind) ∙ ap (λ (l : List ℕ). gather here l 0) (drop-drop (body_len r.kind) (suc at) s ∙ ap (λ (j : ℕ). drop j s) h)))

-- ---- letters
pub long_letters : (b : List ℕ) (i n : ℕ) → length (letters_in b i n) ≡ n
unfolding letters_in
long_letters b i zero = refl
long_letters b i (suc n) = ap suc (long_letters b (suc i) n)

pub sum_next : (counts : List ℕ) (r : ℕ) → r < length counts → sum (drop r counts) ≡ get_or counts r 0 + sum (drop (r + 1) counts)
unfolding sum
sum_next counts r h = rw (add-one r) (ap sum (drop-cons counts r 0 h))
