-- The counts of a form in good order are those of its job: each record adds to the counts what it adds to the lists,
-- and letters that are read plus letters that are owed grow by what a record announces. Assumes nothing.
use Prim.Native.Nat.{ℕ, zero, suc, ◌+◌, ◌-◌, ◌≤◌, ◌<◌}
use native.Mathlib.Omega.{arith}
use native.Mathlib.Nat.{add-zero}
use mathlib.Core.Path.{◌≡◌, refl, sym, ap, subst, ◌∙◌}
use mathlib.Core.Bool.{Bool, true, false, not, cond, ◌&&◌}
use mathlib.Core.List.{List, [], ◌∷◌, ◌++◌, flatten, append_assoc, append-nil}
use mathlib.Core.Logic.{⊎_elim}
use lib.Dec.{ltb, leb, eqb}
use lib.ListN.{length, length-append}
use borrow.Author.Tests.{le-ltb, leb-false, ltb-false, eqb-true}
use Rattle.form.specs.declared.records.Kind.{Kind}
use Rattle.form.specs.declared.records.Kind.TheVariants.{End, Settings, Variant as VariantRecord, Part as PartRecord, Letters, Next, Settings2, Variant2, Unknown}
use Rattle.form.specs.declared.records.State.{State}
use Rattle.form.specs.declared.records.Counts.{Counts}
use Rattle.std.specs.Prelude.{Result, Ok, Err}
use Rattle.metrics.specs.declared.refusals.Refusal.{Refusal}
use Rattle.metrics.specs.Refusals.{refusal_of}
use Rattle.metrics.proofs.RefusalLaws.{refusal_is}
use Rattle.form.specs.Form.{kind_of, is_end, is_variant, is_part, is_letters, is_next, is_unknown, body_len, in_place, too_many, flags_ok, count_of, pad_ok, fault_of, after, run, outset, counted}
use Rattle.form.specs.Job.{Variant, Part, letters_after, variant_of, part_of, variant_here, part_here, gather, to_first, haplotypes_here, haplotypes_in, job_of, read_of, read_job}
use Rattle.form.specs.Lent.{variant_letters, part_letters, breaks_of, job_counts, scan_of}
use Rattle.form.specs.Steps.{variant_letters_here, part_letters_here}
use Rattle.form.proofs.FormLaws.{split, both, mixed, count_rest, end_kind_lem}
use Rattle.form.proofs.GatherLaws.{long_letters}
use Rattle.form.proofs.HaplotypeLaws.{long_next, long_other, some_haplotype, long_breaks, flat_haplotypes}

-- ---- a record with no fault fails none of the tests
pub record Clear (a b c d e f g h : Bool) : Type 0 where
  pub known : a ≡ false
  pub whole : b ≡ false
  pub placed : c ≡ false
  pub within : d ≡ false
  pub flags : e ≡ false
  pub few : f ≡ false
  pub padded : g ≡ false
  pub last : h ≡ false

pub never : {n : ℕ} → suc n ≡ 0 → ⊥
never e = omega arith

clear : (a b c d e f g h : Bool) → ◌≡◌ {A = ℕ} (cond a 20 (cond b 21 (cond c 22 (cond d 27 (cond e 24 (cond f 13 (cond g 23 (cond h 25 0)))))))) 0 → Clear a b c d e f g h
clear true b c d e f g h z = absurd (never z)
clear false true c d e f g h z = absurd (never z)
clear false false true d e f g h z = absurd (never z)
clear false false false true e f g h z = absurd (never z)
clear false false false false true f g h z = absurd (never z)
clear false false false false false true g h z = absurd (never z)
clear false false false false false false true h z = absurd (never z)
clear false false false false false false false true z = absurd (never z)
clear false false false false false false false false z = record { known = refl; whole = refl; placed = refl; within = refl; flags = refl; few = refl; padded = refl; last = refl }

pub not_back : (t : Bool) → not t ≡ false → t ≡ true
not_back true e = refl
not_back false e = let z : ◌≡◌ {A = ℕ} 1 0 = cc in absurd (never z)

module _ (st : State) (kind : Kind) (b : List ℕ) (none : fault_of st kind b ≡ 0) where
  pub tests : Clear (is_unknown kind) (ltb (length b) (body_len kind)) (not (in_place st kind)) (too_many st kind)
      (not (flags_ok kind b)) (ltb 131072 (count_of kind b)) (not (pad_ok st kind b)) (is_end kind && ltb 0 (length b))
  unfolding fault_of
  tests = clear _ _ _ _ _ _ _ _ none

  pub none_placed : in_place st kind ≡ true
  none_placed = not_back _ tests.placed

  pub none_whole : body_len kind ≤ length b
  none_whole = ltb-false _ _ tests.whole

  pub none_flags : flags_ok kind b ≡ true
  none_flags = not_back _ tests.flags

  pub none_last : is_end kind ≡ true → length b ≤ 0
  none_last e = ltb-false 0 (length b) (go (ltb 0 (length b)) (subst (λ (t : Bool). t && ltb 0 (length b) ≡ false) e tests.last))
    where
      go : (t : Bool) → true && t ≡ false → t ≡ false
      go true e = e
      go false e = refl

-- while letters are owed, only letters are in place
pub owed_none : (st : State) (kind : Kind) → in_place st kind ≡ true → is_letters kind ≡ false → st.left ≡ 0
unfolding in_place
owed_none st End h other = eqb-true _ _ (both _ _ h).0
owed_none st Settings h other = eqb-true _ _ (both _ _ h).0
owed_none st VariantRecord h other = eqb-true _ _ (both _ _ h).0
owed_none st PartRecord h other = eqb-true _ _ (both _ _ h).0
owed_none st Letters h other = mixed other
owed_none st Next h other = eqb-true _ _ (both _ _ h).0
owed_none st Settings2 h other = eqb-true _ _ (both _ _ h).0
owed_none st Variant2 h other = eqb-true _ _ (both _ _ h).0
owed_none st Unknown h other = mixed (sym h)

-- ---- one record
record Turn (st : State) (kind : Kind) (b : List ℕ) : Type 0 where
  variants : (after st kind b).variants ≡ st.variants + length (variant_here kind b)
  parts : (after st kind b).parts ≡ st.parts + length (part_here kind b)
  letters : (after st kind b).letters + (after st kind b).left ≡ st.letters + st.left + (length (variant_letters_here kind b) + length (part_letters_here kind b))

-- of either edition
turn_variant : (st : State) (kind : Kind) (b : List ℕ) → is_variant kind ≡ true → is_part kind ≡ false → is_letters kind ≡ false → body_len kind ≤ length b → st.left ≡ 0 → Turn st kind b
unfolding after variant_here part_here variant_letters_here part_letters_here letters_after
turn_variant st kind b v p l h e = record {
  variants = rw (v, le-ltb (length b) (body_len kind) h);
  parts = rw p (sym (add-zero st.parts));
  letters = rw (v, p, l, le-ltb (length b) (body_len kind) h, long_letters) (omega arith);
}

turn_part : (st : State) (b : List ℕ) → 9 ≤ length b → st.left ≡ 0 → Turn st PartRecord b
unfolding after variant_here part_here variant_letters_here part_letters_here letters_after body_len count_of
turn_part st b h e = record {
  variants = sym (add-zero st.variants);
  parts = rw (le-ltb (length b) 9 h);
  letters = rw (le-ltb (length b) 9 h, long_letters) (omega arith);
}

turn_letters : (st : State) (b : List ℕ) → Turn st Letters b
unfolding after variant_here part_here variant_letters_here part_letters_here letters_after body_len count_of
turn_letters st b = record { variants = sym (add-zero st.variants); parts = sym (add-zero st.parts); letters = owed st.left }
  where
    owed : (n : ℕ) → st.letters + cond (leb n 16) n 16 + cond (leb n 16) 0 (n - 16) ≡ st.letters + n + (0 + 0)
    owed n = ⊎_elim
        (λ (t : leb n 16 ≡ true). rw t (omega arith))
        (λ (t : leb n 16 ≡ false). let h : 16 < n = leb-false n 16 t in rw t (omega arith))
        (split (leb n 16))

turn_rest : (st : State) (kind : Kind) (b : List ℕ) → is_variant kind ≡ false → is_part kind ≡ false → is_letters kind ≡ false → st.left ≡ 0 → Turn st kind b
unfolding after variant_here part_here variant_letters_here part_letters_here
turn_rest st kind b p q r e = record {
  variants = rw p (sym (add-zero st.variants));
  parts = rw q (sym (add-zero st.parts));
  letters = rw (p, q, r, count_rest kind b p q) (omega arith);
}

turn : (st : State) (kind : Kind) (b : List ℕ) → fault_of st kind b ≡ 0 → Turn st kind b
unfolding body_len
turn st End b f = turn_rest st End b refl refl refl (owed_none st End (none_placed st End b f) refl)
turn st Settings b f = turn_rest st Settings b refl refl refl (owed_none st Settings (none_placed st Settings b f) refl)
turn st VariantRecord b f = turn_variant st VariantRecord b refl refl refl (none_whole st VariantRecord b f) (owed_none st VariantRecord (none_placed st VariantRecord b f) refl)
turn st PartRecord b f = turn_part st b (none_whole st PartRecord b f) (owed_none st PartRecord (none_placed st PartRecord b f) refl)
turn st Letters b f = turn_letters st b
turn st Next b f = turn_rest st Next b refl refl refl (owed_none st Next (none_placed st Next b f) refl)
turn st Settings2 b f = turn_rest st Settings2 b refl refl refl (owed_none st Settings2 (none_placed st Settings2 b f) refl)
turn st Variant2 b f = turn_variant st Variant2 b refl refl refl (none_whole st Variant2 b f) (owed_none st Variant2 (none_placed st Variant2 b f) refl)
turn st Unknown b f = turn_rest st Unknown b refl refl refl (owed_none st Unknown (none_placed st Unknown b f) refl)

-- a record that begins a haplotype is one break more, and one haplotype more
break_turn : (st : State) (kind : Kind) (b : List ℕ) (rest : List (List Part)) → 1 ≤ length rest
    → st.breaks + length (haplotypes_here kind b rest) ≡ (after st kind b).breaks + length rest
unfolding after
break_turn st kind b rest h = ⊎_elim
    (λ (e : is_next kind ≡ true). rw (long_next kind b rest h e, e) (omega arith))
    (λ (e : is_next kind ≡ false). rw (long_other kind b rest h e, e))
    (split (is_next kind))

-- ---- the whole form
pub record Tally (s : List ℕ) (n : ℕ) (st : State) (c : Counts) : Type 0 where
  pub variants : c.variants ≡ st.variants + length (gather variant_here s n)
  pub parts : c.parts ≡ st.parts + length (gather part_here s n)
  pub breaks : c.breaks + 1 ≡ st.breaks + length (haplotypes_in s n)
  pub letters : c.letters ≡ st.letters + st.left + (length (gather variant_letters_here s n) + length (gather part_letters_here s n))

good_is : {c d : Counts} → ◌≡◌ {A = Result Counts Refusal} (Ok c) (Ok d) → c ≡ d
good_is e = cc

-- behind the end there is nothing
pub end_empty : (st : State) (kind : Kind) (b : List ℕ) → fault_of st kind b ≡ 0 → is_end kind ≡ true → b ≡ []
end_empty st kind [] f e = refl
end_empty st kind (x ∷ b) f e = let h : length (x ∷ b) ≤ 0 = none_last st kind (x ∷ b) f e in let z : ⊥ = omega arith in absurd z

at_end : (st : State) (k : ℕ) (c : Counts) → kind_of k ≡ End → st.left ≡ 0 → ◌≡◌ {A = Result Counts Refusal} (Ok (counted st)) (Ok c) → Tally (k ∷ []) 0 st c
unfolding gather haplotypes_in haplotypes_here to_first variant_here part_here variant_letters_here part_letters_here
at_end st k c e z g =
    subst (λ (d : Counts). Tally (k ∷ []) 0 st d) (good_is g) (record { variants = rw e (omega arith); parts = rw e (omega arith); breaks = rw e; letters = rw e (omega arith) })

pub tally : (s : List ℕ) (n : ℕ) (st : State) (c : Counts) → run s n st ≡ Ok c → Tally s n st c
unfolding run gather haplotypes_in
tally [] n st c e = let z : ◌≡◌ {A = ℕ} 1 0 = cc in absurd (never z)
tally (k ∷ b) (suc n) st c e = let t = tally b n st c e in record { variants = t.variants; parts = t.parts; breaks = t.breaks; letters = t.letters }
tally (k ∷ b) zero st c e = ⊎_elim
    (λ (f : eqb (fault_of st (kind_of k) b) 0 ≡ true).
    let z : fault_of st (kind_of k) b ≡ 0 = eqb-true _ _ f in
    ⊎_elim
    (λ (g : is_end (kind_of k) ≡ true).
    let e' : ◌≡◌ {A = Result Counts Refusal} (Ok (counted st)) (Ok c) = simp (f, g) at e in
    let i : kind_of k ≡ End = end_kind_lem (kind_of k) g in
    let o : st.left ≡ 0 = owed_none st (kind_of k) (none_placed st (kind_of k) b z) (ap is_letters i) in
    subst (λ (l : List ℕ). Tally (k ∷ l) 0 st c) (sym (end_empty st (kind_of k) b z g)) (at_end st k c i o e'))
    (λ (g : is_end (kind_of k) ≡ false).
    let e' : run b (body_len (kind_of k)) (after st (kind_of k) b) ≡ Ok c = simp (f, g) at e in
    let t = tally b (body_len (kind_of k)) (after st (kind_of k) b) c e' in
    let u = turn st (kind_of k) b z in
    record {
      variants = t.variants ∙ simp length-append (omega (arith, u.variants));
      parts = t.parts ∙ simp length-append (omega (arith, u.parts));
      breaks = t.breaks ∙ sym (break_turn st (kind_of k) b _ (some_haplotype b (body_len (kind_of k))));
      letters = t.letters ∙ simp length-append (omega (arith, u.letters));
    })
    (split (is_end (kind_of k))))
    (λ (f : eqb (fault_of st (kind_of k) b) 0 ≡ false).
    let w : ◌≡◌ {A = Result Counts Refusal} (Err (refusal_of (fault_of st (kind_of k) b))) (Ok c) = simp f at e in
    let z : ◌≡◌ {A = ℕ} 1 0 = cc in absurd (never z))
    (split (eqb (fault_of st (kind_of k) b) 0))

-- ---- the letters of the job
variant_letters_append : (xs ys : List Variant) → variant_letters (xs ++ ys) ≡ variant_letters xs ++ variant_letters ys
unfolding variant_letters
variant_letters_append [] ys = refl
variant_letters_append (x ∷ xs) ys = ap (λ (l : List ℕ). x.letters ++ l) (variant_letters_append xs ys) ∙ sym (append_assoc x.letters (variant_letters xs) (variant_letters ys))

part_letters_append : (xs ys : List Part) → part_letters (xs ++ ys) ≡ part_letters xs ++ part_letters ys
unfolding part_letters
part_letters_append [] ys = refl
part_letters_append (x ∷ xs) ys = ap (λ (l : List ℕ). x.letters ++ l) (part_letters_append xs ys) ∙ sym (append_assoc x.letters (part_letters xs) (part_letters ys))

variant_letters_here_lem : (kind : Kind) (b : List ℕ) → variant_letters (variant_here kind b) ≡ variant_letters_here kind b
unfolding variant_letters variant_here variant_of variant_letters_here
variant_letters_here_lem kind b = go (is_variant kind) (ltb (length b) (body_len kind))
  where
    go : (t u : Bool) → variant_letters (cond t (cond u [] (variant_of kind b ∷ [])) []) ≡ cond t (cond u [] (letters_after kind b)) []
    go true true = refl
    go true false = append-nil (letters_after kind b)
    go false u = refl

part_letters_here_lem : (kind : Kind) (b : List ℕ) → part_letters (part_here kind b) ≡ part_letters_here kind b
unfolding part_letters part_here part_of part_letters_here body_len
part_letters_here_lem kind b = go (is_part kind) (ltb (length b) 9)
  where
    go : (t u : Bool) → part_letters (cond t (cond u [] (part_of b ∷ [])) []) ≡ cond t (cond u [] (letters_after PartRecord b)) []
    go true true = refl
    go true false = append-nil (letters_after PartRecord b)
    go false u = refl

pub letters_of_variants : (s : List ℕ) (n : ℕ) → variant_letters (gather variant_here s n) ≡ gather variant_letters_here s n
unfolding gather variant_letters
letters_of_variants [] n = refl
letters_of_variants (k ∷ b) (suc n) = letters_of_variants b n
letters_of_variants (k ∷ b) zero = variant_letters_append (variant_here (kind_of k) b) _ ∙ rw (variant_letters_here_lem (kind_of k) b, letters_of_variants b (body_len (kind_of k)))

pub letters_of_parts : (s : List ℕ) (n : ℕ) → part_letters (gather part_here s n) ≡ gather part_letters_here s n
unfolding gather part_letters
letters_of_parts [] n = refl
letters_of_parts (k ∷ b) (suc n) = letters_of_parts b n
letters_of_parts (k ∷ b) zero = part_letters_append (part_here (kind_of k) b) _ ∙ rw (part_letters_here_lem (kind_of k) b, letters_of_parts b (body_len (kind_of k)))

pub counts_are : (s : List ℕ) (c : Counts) → run s 0 outset ≡ Ok c → c ≡ job_counts (job_of s)
unfolding job_counts job_of
counts_are s c e =
    let t = tally s 0 outset c e in
    let p : c.variants ≡ length (gather variant_here s 0) = t.variants ∙ omega arith in
    let q : c.parts ≡ length (flatten (haplotypes_in s 0)) = rw (flat_haplotypes s 0) (t.parts ∙ omega arith) in
    let b : c.breaks ≡ length (breaks_of (haplotypes_in s 0)) = omega (arith, t.breaks, long_breaks (haplotypes_in s 0) (some_haplotype s 0)) in
    let r : c.letters ≡ length (variant_letters (gather variant_here s 0) ++ part_letters (flatten (haplotypes_in s 0))) =
    rw (flat_haplotypes s 0, letters_of_variants s 0, letters_of_parts s 0, length-append) (t.letters ∙ omega arith) in
    λ i. record { variants = p i; parts = q i; breaks = b i; letters = r i }

pub scan_is : (s : List ℕ) → run s 0 outset ≡ scan_of (read_job s)
unfolding read_job scan_of
scan_is s = go (run s 0 outset) refl
  where
    go : (v : Result Counts Refusal) → run s 0 outset ≡ v → v ≡ scan_of (read_of v (job_of s))
    go (Err refusal) e = ap (λ (found : Refusal). Err found) (sym (refusal_is refusal))
    go (Ok c) e = ap (λ (counts : Counts). Ok counts) (counts_are s c e)
