-- Laws of the form's definitions, over plain numbers and lists: a proof cites one at a need, where the same rewriting would be slow.
-- Assumes nothing.
use Prim.Native.Nat.{ℕ, zero, suc, ◌+◌, ◌-◌, ◌≤◌, ◌<◌}
use native.Mathlib.Omega.{arith}
use native.Mathlib.Numerals.{add-one}
use mathlib.Core.Path.{◌≡◌, refl, sym, ap, ◌∙◌}
use mathlib.Core.Bool.{Bool, true, false, ◌&&◌}
use mathlib.Core.List.{List, [], ◌∷◌}
use lib.Dec.{ltb}
use lib.ListN.{length, get_or, take, drop, length-take, length-drop}
use lib.Seq.{drop-cons, drop-nil}
use borrow.Author.Tests.{lt-ltb, le-ltb, eq-eqb, ne_eqb}
use borrow.Author.Tests.{ltb-false}
use mathlib.Core.Logic.{◌⊎◌, inl, inr, ⊎_elim}
use lib.Seq.{take_all, drop-drop}
use lib.ListN.{drop_of_length-le}
use Rattle.std.specs.Prelude.{Result, Ok, Err}
use Rattle.metrics.specs.declared.refusals.Refusal.{Refusal}
use Rattle.form.specs.declared.records.Counts.{Counts}
use Rattle.metrics.specs.declared.refusals.Refusal.TheVariants.{CutShort}
use Rattle.metrics.specs.Refusals.{refusal_number}
use Rattle.metrics.proofs.RefusalLaws.{refusal_is, never_zero}
use Rattle.form.specs.declared.records.Kind.{Kind}
use Rattle.form.specs.declared.records.Kind.TheVariants.{End, Letters, Unknown}
use Rattle.form.specs.declared.records.Record.{Record}
use Rattle.form.specs.Form.{kind_of, is_end, is_variant, is_part, is_letters, is_next, is_unknown, body_len, in_place, are_flags, flags_ok}
use Rattle.form.specs.Form.{count_of, record_of, record_at, pad_ok, too_many, fault_of, after, run, judge, counted}
use Rattle.form.specs.declared.records.State.{State}

pub both : (a b : Bool) → a && b ≡ true → (a ≡ true) × (b ≡ true)
both true b e = (refl, e)
both false b e = let z : ◌≡◌ {A = ℕ} 0 1 = cc in absurd (no z)
  where
    no : {n : ℕ} → 0 ≡ suc n → ⊥
    no e = omega arith

pub split : (t : Bool) → (t ≡ true) ⊎ (t ≡ false)
split true = inl refl
split false = inr refl

pub mixed : {A : Type 0} → true ≡ false → A
mixed e = let z : ◌≡◌ {A = ℕ} 0 1 = cc in let w : ⊥ = omega arith in absurd w

-- ---- lengths and counts by the kind
pub letters_kind_lem : (kind : Kind) → is_letters kind ≡ true → kind ≡ Letters
letters_kind_lem kind e = grind arith

pub end_kind_lem : (kind : Kind) → is_end kind ≡ true → kind ≡ End
end_kind_lem kind e = grind arith

pub short_body : (kind : Kind) → body_len kind ≤ 41
unfolding body_len
short_body kind = grind arith

pub count_rest : (kind : Kind) (b : List ℕ) → is_variant kind ≡ false → is_part kind ≡ false → count_of kind b ≡ 0
unfolding count_of
count_rest kind b p q = grind arith

-- ---- flags, one by one
module _ (b : List ℕ) (from n : ℕ) where
  module _ (i x : ℕ) (inside : i < n) (here : x ≡ get_or b (from + i) 0) where
    flag_next : are_flags b (from + i) (n - i) ≡ ltb x 2 && are_flags b (from + (i + 1)) (n - (i + 1))
    flag_next =
        let g : n - i ≡ suc (n - (i + 1)) = omega arith in
        let f : suc (from + i) ≡ from + (i + 1) = omega arith in
        rw (g, here, sym f)

    pub flag_more : x < 2 → are_flags b (from + (i + 1)) (n - (i + 1)) ≡ are_flags b (from + i) (n - i)
    flag_more h = sym (flag_next ∙ rw (lt-ltb x 2 h))

-- ---- what does not apply to a kind
pub pad_rest : (st : State) (kind : Kind) (b : List ℕ) → is_letters kind ≡ false → true ≡ pad_ok st kind b
unfolding pad_ok
pad_rest st kind b h = sym (rw h)

pub not_next : (st : State) (kind : Kind) → is_next kind ≡ false → false ≡ too_many st kind
unfolding too_many
not_next st kind h = sym (rw h)

-- ---- no fault
module _ (st : State) (kind : Kind) (b : List ℕ) where
  module _ (known : is_unknown kind ≡ false) where
    module _ (n : ℕ) (ln : n ≡ body_len kind) (whole : n ≤ length b) where
      whole' : body_len kind ≤ length b
      whole' = rw ln at whole

      module _ (placed : in_place st kind ≡ true) where
        module _ (within : too_many st kind ≡ false) where
          module _ (flags : flags_ok kind b ≡ true) where
            module _ (few : count_of kind b ≤ 131072) where
              module _ (padded : pad_ok st kind b ≡ true) where
                pub fault_none_end : is_end kind ≡ true → length b ≤ 0 → 0 ≡ fault_of st kind b
                unfolding fault_of
                fault_none_end h g = simp (known, le-ltb _ _ whole', placed, within, flags, le-ltb _ _ few, padded, h, le-ltb _ _ g)

                pub fault_none : is_end kind ≡ false → 0 ≡ fault_of st kind b
                unfolding fault_of
                fault_none h = simp (known, le-ltb _ _ whole', placed, within, flags, le-ltb _ _ few, padded, h)

-- ---- reading on
pub fault_long : (st : State) (kind : Kind) (b : List ℕ) → fault_of st kind b ≡ 0 → body_len kind ≤ length b
unfolding fault_of
fault_long st kind b e = ⊎_elim
    (λ (h : ltb (length b) (body_len kind) ≡ true). ⊎_elim
    (λ (g : is_unknown kind ≡ true). let z : ◌≡◌ {A = ℕ} 20 0 = simp g at e in omega arith)
    (λ (g : is_unknown kind ≡ false). let z : ◌≡◌ {A = ℕ} 21 0 = simp (g, h) at e in omega arith)
    (split (is_unknown kind)))
    (λ (h : ltb (length b) (body_len kind) ≡ false). ltb-false _ _ h)
    (split (ltb (length b) (body_len kind)))

pub skip : (s : List ℕ) (n : ℕ) (st : State) → run s n st ≡ run (drop n s) 0 st
unfolding run
skip [] n st = simp drop-nil
skip (k ∷ b) zero st = refl
skip (k ∷ b) (suc n) st = skip b n st

pub judge_done : (f : ℕ) (kind : Kind) (st : State) (rest : Result Counts Refusal) → f ≡ 0 → is_end kind ≡ true → judge f kind st rest ≡ Ok (counted st)
judge_done f kind st rest p q = rw (eq-eqb f 0 p, q)

pub judge_more : (f : ℕ) (kind : Kind) (st : State) (rest : Result Counts Refusal) → f ≡ 0 → is_end kind ≡ false → judge f kind st rest ≡ rest
judge_more f kind st rest p q = rw (eq-eqb f 0 p, q)

pub record_none : (s : List ℕ) (at : ℕ) → length s ≤ at → record { kind = Unknown; count = 0; next = at } ≡ record_at s at
unfolding record_at
record_none s at h = sym (rw (le-ltb at (length s) h))

-- ---- the record at a place inside
module _ (s : List ℕ) (at : ℕ) (inside : at < length s) where
  -- the part of the slice that the code takes
  abbrev body : List ℕ
  body = take (length s - (at + 1)) (drop (at + 1) s)

  pub rest_is : body ≡ drop (suc at) s
  rest_is = take_all (length s - (at + 1)) (drop (at + 1) s) (simp length-drop (omega arith)) ∙ rw add-one

  there : record_at s at ≡ record_of (kind_of (get_or s at 0)) (drop (suc at) s) at
  unfolding record_at
  there = rw (lt-ltb at (length s) inside)

  pub record_here : (kind : Kind) (count n : ℕ) → kind ≡ kind_of (get_or s at 0) → count ≡ count_of kind body → n ≡ body_len kind → record
      { kind = kind; count = count; next = at + 1 + n } ≡ record_at s at
  record_here kind count n k c b = rw (c, b, rest_is, k) (sym there)

  module _ (r : Record) (is : r ≡ record_at s at) where
    pub record_kind : r.kind ≡ kind_of (get_or s at 0)
    record_kind = ap (λ (x : Record). x.kind) (is ∙ there)

    pub record_count : r.count ≡ count_of r.kind body
    record_count = ap (λ (x : Record). x.count) (is ∙ there) ∙ sym (rw (record_kind, rest_is))

    pub record_next : r.next ≡ at + 1 + body_len r.kind
    record_next = ap (λ (x : Record). x.next) (is ∙ there) ∙ sym (rw record_kind)

pub run_end : (s : List ℕ) (at : ℕ) (st : State) → length s ≤ at → Err CutShort ≡ run (drop at s) 0 st
unfolding run
run_end s at st h = rw (drop_of_length-le s {i = at} h)

module _ (s : List ℕ) (at : ℕ) (st : State) (inside : at < length s) (here : Record) (is : here ≡ record_at s at) where
  abbrev rest : List ℕ
  rest = body s at inside

  run_here : run (drop at s) 0 st ≡ judge (fault_of st here.kind rest) here.kind st (run rest (body_len here.kind) (after st here.kind rest))
  unfolding run
  run_here = rw (record_kind s at inside here is, rest_is s at inside) (ap (λ (l : List ℕ). run l 0 st) (drop-cons s at 0 inside))

  pub run_refused : (refusal : Refusal) → refusal_number refusal ≡ fault_of st here.kind rest → Err refusal ≡ run (drop at s) 0 st
  run_refused refusal fault = sym (run_here ∙ rw (sym fault, ne_eqb _ 0 (never_zero refusal)) (ap (λ (found : Refusal). Err found) (refusal_is refusal)))

  module _ (none : 0 ≡ fault_of st here.kind rest) where
    pub room : here.next ≤ length s
    room =
        let h : body_len here.kind ≤ length rest = fault_long st here.kind rest (sym none) in
        omega (arith, simp (length-take, length-drop) at h, record_next s at inside here is)

    pub run_done : is_end here.kind ≡ true → Ok (counted st) ≡ run (drop at s) 0 st
    run_done n = sym (run_here ∙ judge_done _ here.kind st _ (sym none) n)

    pub run_more : is_end here.kind ≡ false → (r : State) → r ≡ after st here.kind rest → run (drop here.next s) 0 r ≡ run (drop at s) 0 st
    run_more k r a =
        let h : suc at + body_len here.kind ≡ here.next = omega (arith, record_next s at inside here is) in
        rw a (sym (run_here ∙ judge_more _ here.kind st _ (sym none) k ∙ skip rest _ _
        ∙ ap (λ (l : List ℕ). run l 0 (after st here.kind rest)) (ap (drop (body_len here.kind)) (rest_is s at inside)
        ∙ drop-drop (body_len here.kind) (suc at) s ∙ ap (λ (j : ℕ). drop j s) h)))
