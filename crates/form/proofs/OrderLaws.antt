-- In good form the letters in the order of the bytes are those of the variants and then those of the parts:
-- a sequence's letters stand behind its record, sixteen in each letters record, and no variant comes behind a part. Assumes nothing.
use Prim.Native.Nat.{ℕ, zero, suc, ◌+◌, ◌-◌, ◌≤◌, ◌<◌, ◌/◌}
use native.Mathlib.Omega.{arith}
use native.Mathlib.Nat.{zero-add, add-zero, suc-add}
use mathlib.Core.Path.{◌≡◌, refl, sym, ap, subst, ◌∙◌}
use mathlib.Core.Bool.{true, false}
use mathlib.Core.List.{List, [], ◌∷◌, ◌++◌, append_assoc, append-nil}
use mathlib.Core.Logic.{◌⊎◌, inl, inr, ⊎_elim}
use lib.Dec.{leb, eqb}
use lib.ListN.{length, get_or, drop}
use lib.Seq.{get_or-drop}
use borrow.Author.Tests.{le-ltb, leb-false, eqb-true}
use Rattle.form.specs.declared.records.Kind.{Kind}
use Rattle.form.specs.declared.records.Kind.TheVariants.{End, Settings, Variant, Part, Letters, Next, Settings2, Variant2, Unknown}
use Rattle.form.specs.declared.records.State.{State}
use Rattle.form.specs.declared.records.Counts.{Counts}
use Rattle.std.specs.Prelude.{Result, Ok, Err}
use Rattle.metrics.specs.declared.refusals.Refusal.{Refusal}
use Rattle.metrics.specs.Refusals.{refusal_of}
use Rattle.form.specs.Form.{kind_of, is_end, is_settings, is_variant, is_part, is_letters, is_next, body_len, in_place, count_of, fault_of, after, judge, run, outset}
use Rattle.form.specs.Job.{letters_in, letters_after, gather}
use Rattle.form.specs.Steps.{variant_letters_here, part_letters_here, letters_given, letters_owed, letters_walk}
use Rattle.form.proofs.FormLaws.{split, both, mixed, count_rest, end_kind_lem}
use Rattle.form.proofs.CountLaws.{none_placed, none_whole, end_empty, owed_none, never}

-- ---- a record's sixteen letters, and the rest of its sequence
in_append : (b : List ℕ) (i m n : ℕ) → letters_in b i (m + n) ≡ letters_in b i m ++ letters_in b (i + m) n
unfolding letters_in
in_append b i zero n = rw (zero-add n, add-zero i)
in_append b i (suc m) n =
    let e : i + suc m ≡ suc i + m = omega arith in
    rw (suc-add m n, e) (ap (λ (l : List ℕ). get_or b (1 + i + i / 16) 0 ∷ l) (in_append b (suc i) m n))

in_next : (k : ℕ) (b : List ℕ) (i n : ℕ) → letters_in (k ∷ b) (16 + i) n ≡ letters_in (drop 16 b) i n
unfolding letters_in
in_next k b i zero = refl
in_next k b i (suc n) =
    let e : 1 + (16 + i) + (16 + i) / 16 ≡ suc (16 + (1 + i + i / 16)) = omega arith in
    let f : suc (16 + i) ≡ 16 + suc i = omega arith in
    let g : get_or (k ∷ b) (1 + (16 + i) + (16 + i) / 16) 0 ≡ get_or (drop 16 b) (1 + i + i / 16) 0 =
    ap (λ (m : ℕ). get_or (k ∷ b) m 0) e ∙ sym (get_or-drop 16 b (1 + i + i / 16) 0) in
    rw (g, f) (ap (λ (l : List ℕ). get_or (drop 16 b) (1 + i + i / 16) 0 ∷ l) (in_next k b (suc i) n))

-- the letters that are owed, as a letters record and those behind it give them
in_record : (b : List ℕ) (left : ℕ) → letters_in (4 ∷ b) 0 left ≡ letters_in (4 ∷ b) 0 (letters_given Letters left) ++ letters_in (drop 16 b) 0 (letters_owed Letters 0 left)
unfolding letters_in letters_given letters_owed
in_record b left = ⊎_elim
    (λ (t : leb left 16 ≡ true). rw t (sym (append-nil (letters_in (4 ∷ b) 0 left))))
    (λ (t : leb left 16 ≡ false).
    let h : 16 < left = leb-false left 16 t in
    let e : left ≡ 16 + (left - 16) = omega arith in
    rw t (ap (λ (n : ℕ). letters_in (4 ∷ b) 0 n) e ∙ in_append (4 ∷ b) 0 16 (left - 16)
    ∙ ap (λ (l : List ℕ). letters_in (4 ∷ b) 0 16 ++ l) (in_next 4 b 0 (left - 16))))
    (split (leb left 16))

-- ---- a form in good order, one record at a time
pub sound : (st : State) (kind : Kind) (b : List ℕ) (c : Counts) (rest : Result Counts Refusal) → judge (fault_of st kind b) kind st rest ≡ Ok c
    → (fault_of st kind b ≡ 0) × ((is_end kind ≡ true) ⊎ (rest ≡ Ok c))
sound st kind b c rest e = ⊎_elim
    (λ (f : eqb (fault_of st kind b) 0 ≡ true). (
      eqb-true _ _ f,
      ⊎_elim
          (λ (g : is_end kind ≡ true). inl g)
          (λ (g : is_end kind ≡ false). let r : rest ≡ Ok c = simp (f, g) at e in inr r)
          (split (is_end kind)),
    ))
    (λ (f : eqb (fault_of st kind b) 0 ≡ false).
    let w : ◌≡◌ {A = Result Counts Refusal} (Err (refusal_of (fault_of st kind b))) (Ok c) = simp f at e in
    let z : ◌≡◌ {A = ℕ} 1 0 = cc in absurd (never z))
    (split (eqb (fault_of st kind b) 0))

-- behind a part neither settings nor a variant is in place
module _ (st : State) (late : st.phase ≡ 2) where
  late_kind : (kind : Kind) → in_place st kind ≡ true → (is_settings kind ≡ false) × (is_variant kind ≡ false)
  unfolding in_place
  late_kind End h = (refl, refl)
  late_kind Settings h = let p : eqb st.phase 0 ≡ true = (both (eqb st.left 0) _ h).1 in let e : false ≡ true = rw late at p in mixed (sym e)
  late_kind Variant h = let p : eqb st.phase 1 ≡ true = (both (eqb st.left 0) _ h).1 in let e : false ≡ true = rw late at p in mixed (sym e)
  late_kind Part h = (refl, refl)
  late_kind Letters h = (refl, refl)
  late_kind Next h = (refl, refl)
  late_kind Settings2 h = let p : eqb st.phase 0 ≡ true = (both (eqb st.left 0) _ h).1 in let e : false ≡ true = rw late at p in mixed (sym e)
  late_kind Variant2 h = let p : eqb st.phase 3 ≡ true = (both (eqb st.left 0) _ h).1 in let e : false ≡ true = rw late at p in mixed (sym e)
  late_kind Unknown h = (refl, refl)

  module _ (kind : Kind) (b : List ℕ) (none : fault_of st kind b ≡ 0) where
    no_letters : variant_letters_here kind b ≡ []
    unfolding variant_letters_here
    no_letters = rw (late_kind kind (none_placed st kind b none)).1

    stays_late : (after st kind b).phase ≡ 2
    unfolding after
    stays_late = ⊎_elim
        (λ (t : is_part kind ≡ true). rw t)
        (λ (t : is_part kind ≡ false). ⊎_elim
        (λ (u : is_next kind ≡ true). rw (t, u) cc)
        (λ (u : is_next kind ≡ false). rw (t, u, (late_kind kind (none_placed st kind b none)).0) late)
        (split (is_next kind)))
        (split (is_part kind))

no_more_variants : (s : List ℕ) (n : ℕ) (st : State) (c : Counts) → run s n st ≡ Ok c → st.phase ≡ 2 → gather variant_letters_here s n ≡ []
unfolding gather run
no_more_variants [] n st c e p = refl
no_more_variants (k ∷ b) (suc n) st c e p = no_more_variants b n st c e p
no_more_variants (k ∷ b) zero st c e p =
    let h = sound st (kind_of k) b c (run b (body_len (kind_of k)) (after st (kind_of k) b)) e in
    rw (no_letters st p (kind_of k) b h.0) (⊎_elim
    (λ (z : is_end (kind_of k) ≡ true). ap (λ (l : List ℕ). gather variant_letters_here l (body_len (kind_of k))) (end_empty st (kind_of k) b h.0 z))
    (λ (r : run b (body_len (kind_of k)) (after st (kind_of k) b) ≡ Ok c). no_more_variants b (body_len (kind_of k)) (after st (kind_of k) b) c r (stays_late st p (kind_of k) b h.0))
    h.1)

-- ---- one record more
-- W: what the walk gives behind the record, B: the letters owed then, C: the letters of the records behind it
grown : (A B C W X : List ℕ) → W ≡ B ++ C → X ≡ A ++ B → A ++ W ≡ X ++ C
grown A B C W X p q = rw (p, q) (sym (append_assoc A B C))

module _ (st : State) (b : List ℕ) (G2 G3 : List ℕ) where
  abbrev owed : Kind → ℕ
  owed kind = letters_owed kind (count_of kind b) st.left

  abbrev Turn : Kind → Type 0
  Turn kind = fault_of st kind b ≡ 0
      → letters_walk b (body_len kind) (owed kind) ≡ letters_in (drop (body_len kind) b) 0 (owed kind) ++ (G2 ++ G3)
      → (is_part kind ≡ true → G2 ≡ [])
      → letters_in (4 ∷ b) 0 (letters_given kind st.left) ++ letters_walk b (body_len kind) (owed kind)
      ≡ letters_in (4 ∷ b) 0 st.left ++ ((variant_letters_here kind b ++ G2) ++ (part_letters_here kind b ++ G3))

  turn_letters : Turn Letters
  unfolding variant_letters_here part_letters_here body_len count_of
  turn_letters f w g = grown (letters_in (4 ∷ b) 0 (letters_given Letters st.left)) (letters_in (drop 16 b) 0 (owed Letters)) (G2 ++ G3) _ (letters_in (4 ∷ b) 0 st.left) w (in_record b st.left)

  -- of either edition
  turn_variant : (kind : Kind) → is_variant kind ≡ true → is_part kind ≡ false → is_letters kind ≡ false → Turn kind
  unfolding variant_letters_here part_letters_here letters_after letters_given letters_owed letters_in
  turn_variant kind v p l f w g =
      let none : st.left ≡ 0 = owed_none st kind (none_placed st kind b f) l in
      let whole : body_len kind ≤ length b = none_whole st kind b f in
      let w' : letters_walk b (body_len kind) (count_of kind b) ≡ letters_in (drop (body_len kind) b) 0 (count_of kind b) ++ (G2 ++ G3) = rw l at w in
      rw (v, p, l, none, le-ltb (length b) (body_len kind) whole) (w' ∙ sym (append_assoc (letters_in (drop (body_len kind) b) 0 (count_of kind b)) G2 G3))

  turn_part : Turn Part
  unfolding variant_letters_here part_letters_here letters_after letters_given letters_owed letters_in body_len
  turn_part f w g =
      let none : st.left ≡ 0 = owed_none st Part (none_placed st Part b f) refl in
      let whole : 9 ≤ length b = none_whole st Part b f in
      rw (none, le-ltb (length b) 9 whole, g refl) (w ∙ rw (g refl))

  turn_rest : (kind : Kind) → is_variant kind ≡ false → is_part kind ≡ false → is_letters kind ≡ false → Turn kind
  unfolding variant_letters_here part_letters_here letters_in letters_given letters_owed
  turn_rest kind p q r f w g =
      let none : st.left ≡ 0 = owed_none st kind (none_placed st kind b f) r in
      let n : count_of kind b ≡ 0 = count_rest kind b p q in
      let v : letters_walk b (body_len kind) 0 ≡ G2 ++ G3 = rw (r, n) at w in
      rw (r, none, p, q, n) v

  turn : (kind : Kind) → Turn kind
  turn End = turn_rest End refl refl refl
  turn Settings = turn_rest Settings refl refl refl
  turn Variant = turn_variant Variant refl refl refl
  turn Part = turn_part
  turn Letters = turn_letters
  turn Next = turn_rest Next refl refl refl
  turn Settings2 = turn_rest Settings2 refl refl refl
  turn Variant2 = turn_variant Variant2 refl refl refl
  turn Unknown = turn_rest Unknown refl refl refl

at_end : (st : State) (k : ℕ) → kind_of k ≡ End → st.left ≡ 0
    → letters_walk (k ∷ []) 0 st.left ≡ letters_in (k ∷ []) 0 st.left ++ (gather variant_letters_here (k ∷ []) 0 ++ gather part_letters_here (k ∷ []) 0)
unfolding letters_walk letters_given letters_in variant_letters_here part_letters_here gather
at_end st k e none = rw (none, e)

part_phase : (st : State) (kind : Kind) (b : List ℕ) → is_part kind ≡ true → (after st kind b).phase ≡ 2
unfolding after
part_phase st kind b x = rw x

-- the first byte is no letter
any_first : (j k : ℕ) (b : List ℕ) (i n : ℕ) → letters_in (j ∷ b) i n ≡ letters_in (k ∷ b) i n
unfolding letters_in
any_first j k b i zero = refl
any_first j k b i (suc n) = let e : 1 + i + i / 16 ≡ suc (i + i / 16) = omega arith in rw (e, any_first j k b (suc i) n)

-- the letters owed, and then those of the records behind
owed_first : (s : List ℕ) (n : ℕ) (st : State) (c : Counts) → run s n st ≡ Ok c
    → letters_walk s n st.left ≡ letters_in (drop n s) 0 st.left ++ (gather variant_letters_here s n ++ gather part_letters_here s n)
unfolding run gather letters_walk after letters_owed
owed_first [] n st c e = let z : ◌≡◌ {A = ℕ} 1 0 = cc in absurd (never z)
owed_first (k ∷ b) (suc n) st c e = owed_first b n st c e
owed_first (k ∷ b) zero st c e =
    let h = sound st (kind_of k) b c (run b (body_len (kind_of k)) (after st (kind_of k) b)) e in
    ⊎_elim
    (λ (z : is_end (kind_of k) ≡ true).
    let i : kind_of k ≡ End = end_kind_lem (kind_of k) z in
    let o : st.left ≡ 0 = owed_none st (kind_of k) (none_placed st (kind_of k) b h.0) (ap is_letters i) in
    subst (λ (l : List ℕ). letters_walk (k ∷ l) 0 st.left ≡ letters_in (k ∷ l) 0 st.left ++ (gather variant_letters_here (k ∷ l) 0 ++ gather part_letters_here (k ∷ l) 0))
    (sym (end_empty st (kind_of k) b h.0 z)) (at_end st k i o))
    (λ (r : run b (body_len (kind_of k)) (after st (kind_of k) b) ≡ Ok c).
    rw (any_first k 4 b 0 st.left) (turn st b (gather variant_letters_here b (body_len (kind_of k))) (gather part_letters_here b (body_len (kind_of k))) (kind_of k) h.0
    (owed_first b (body_len (kind_of k)) (after st (kind_of k) b) c r)
    (λ (x : is_part (kind_of k) ≡ true). no_more_variants b (body_len (kind_of k)) (after st (kind_of k) b) c r (part_phase st (kind_of k) b x))))
    h.1

pub in_order : (s : List ℕ) (c : Counts) → run s 0 outset ≡ Ok c → letters_walk s 0 0 ≡ gather variant_letters_here s 0 ++ gather part_letters_here s 0
unfolding letters_in
in_order s c e = owed_first s 0 outset c e
