-- What a job in good form has in either edition. Its first record is settings, whose flags are all 0 or 1: so `letters` is at most 1.
-- Behind edition 2's settings only edition 2's variants are in place: so there are as many record numbers as variants. Assumes nothing.
use Prim.Native.Nat.{ℕ, zero, suc, ◌≤◌, zero-le}
use native.Mathlib.Omega.{arith}
use mathlib.Core.Path.{◌≡◌, refl, sym, ap, subst, ◌∙◌}
use mathlib.Core.Bool.{Bool, true, false, cond, ◌&&◌}
use mathlib.Core.List.{List, [], ◌∷◌}
use mathlib.Core.Logic.{⊎_elim}
use lib.Dec.{ltb, eqb}
use lib.ListN.{length, get_or, length-append}
use borrow.Author.Tests.{ltb-true, eqb-true}
use Rattle.form.specs.declared.records.Edition.TheVariants.{One, Two}
use Rattle.form.specs.declared.records.Kind.{Kind}
use Rattle.form.specs.declared.records.Kind.TheVariants.{End, Settings, Variant as VariantRecord, Part, Letters, Next, Settings2, Variant2, Unknown}
use Rattle.form.specs.declared.records.State.{State}
use Rattle.form.specs.declared.records.Counts.{Counts}
use Rattle.std.specs.Prelude.{Ok}
use Rattle.fields.specs.Fields.{le4}
use Rattle.form.specs.Form.{kind_of, is_end, is_settings, is_second, letters_place, number_place, body_len, in_place, are_flags, flags_ok, fault_of, after, run, outset}
use Rattle.form.specs.Settings40.{settings_in}
use Rattle.form.specs.Settings41.{settings41_in}
use Rattle.form.specs.Job.{Job, variant_of, variant_here, gather, settings_by, job_of, number_here, row_numbers, numbers_by, numbers_of, read_of, Held, read_job}
use Rattle.form.specs.Lent.{job_counts, scan_of}
use Rattle.form.proofs.FormLaws.{both, mixed}
use Rattle.form.proofs.CountLaws.{none_placed, none_flags, end_empty, never, scan_is}
use Rattle.form.proofs.OrderLaws.{sound}

-- ---- a job that was read
module _ (s : List ℕ) {job : Job} (held : read_job s ≡ Held job) where
  pub held_good : run s 0 outset ≡ Ok (job_counts job)
  unfolding scan_of
  held_good = scan_is s ∙ ap scan_of held

  pub held_job : job_of s ≡ job
  unfolding read_job
  held_job = let e : read_of (Ok (job_counts job)) (job_of s) ≡ Held job = rw held_good at held in cc

-- ---- the first record
first_settings : (kind : Kind) → in_place outset kind ≡ true → is_settings kind ≡ true
unfolding in_place
first_settings End h = mixed (sym h)
first_settings Settings h = refl
first_settings VariantRecord h = mixed (sym h)
first_settings Part h = mixed (sym h)
first_settings Letters h = mixed (sym h)
first_settings Next h = mixed (sym h)
first_settings Settings2 h = refl
first_settings Variant2 h = mixed (sym h)
first_settings Unknown h = mixed (sym h)

-- it has no fault, and is settings
pub first_record : (k : ℕ) (b : List ℕ) {c : Counts} → run (k ∷ b) 0 outset ≡ Ok c → (fault_of outset (kind_of k) b ≡ 0) × (is_settings (kind_of k) ≡ true)
unfolding run
first_record k b {c} e = let h = (sound outset (kind_of k) b c _ e).0 in (h, first_settings (kind_of k) (none_placed outset (kind_of k) b h))

flag_few : (kind : Kind) (b : List ℕ) → is_settings kind ≡ true → flags_ok kind b ≡ true → (settings_by (cond (is_second kind) Two One) b).letters ≤ 1
unfolding settings_by settings_in settings41_in flags_ok
flag_few Settings b h f = zero-le
flag_few Settings2 b h f =
    let g : ltb (get_or b letters_place 0) 2 ≡ true = (both (ltb (get_or b letters_place 0) 2) true (both (are_flags b 1 3) _ f).1).0 in
    omega (arith, ltb-true (get_or b letters_place 0) 2 g)
flag_few End b h f = mixed (sym h)
flag_few VariantRecord b h f = mixed (sym h)
flag_few Part b h f = mixed (sym h)
flag_few Letters b h f = mixed (sym h)
flag_few Next b h f = mixed (sym h)
flag_few Variant2 b h f = mixed (sym h)
flag_few Unknown b h f = mixed (sym h)

letters_few : (s : List ℕ) (c : Counts) → run s 0 outset ≡ Ok c → (job_of s).settings.letters ≤ 1
unfolding run job_of
letters_few [] c e = let z : ◌≡◌ {A = ℕ} 1 0 = cc in absurd (never z)
letters_few (k ∷ b) c e = let h = first_record k b e in flag_few (kind_of k) b h.1 (none_flags outset (kind_of k) b h.0)

-- a reading of letters that the counter knows
pub letters_known : (s : List ℕ) {job : Job} → read_job s ≡ Held job → job.settings.letters ≤ 1
letters_known s held = subst (λ (j : Job). j.settings.letters ≤ 1) (held_job s held) (letters_few s _ (held_good s held))

-- ---- as many record numbers as variants
pub long_rows : (n : ℕ) → length (row_numbers n) ≡ n
unfolding row_numbers
long_rows zero = refl
long_rows (suc n) = simp length-append (rw (long_rows n) (omega arith))

-- no phase of edition 1, and no settings any more
abbrev Second : State → Type 0
Second st = 2 ≤ st.phase

module _ (st : State) (second : Second st) where
  not_phase : {A : Type 0} (left : Bool) (n : ℕ) → n ≤ 1 → left && eqb st.phase n ≡ true → A
  not_phase true n h e = let p : st.phase ≡ n = eqb-true _ _ e in let z : ⊥ = omega arith in absurd z
  not_phase false n h e = mixed (sym e)

  one_each : (kind : Kind) (b : List ℕ) → in_place st kind ≡ true → length (number_here kind b) ≡ length (variant_here kind b)
  unfolding in_place number_here variant_here
  one_each End b h = refl
  one_each Settings b h = refl
  one_each VariantRecord b h = not_phase (eqb st.left 0) 1 (omega arith) h
  one_each Part b h = refl
  one_each Letters b h = refl
  one_each Next b h = refl
  one_each Settings2 b h = refl
  one_each Variant2 b h = go (ltb (length b) (body_len Variant2))
    where
      go : (short : Bool) → length (cond short [] (le4 b number_place ∷ [])) ≡ length (cond short [] (variant_of Variant2 b ∷ []))
      go true = refl
      go false = refl
  one_each Unknown b h = refl

  stays_second : (kind : Kind) (b : List ℕ) → in_place st kind ≡ true → Second (after st kind b)
  unfolding in_place after
  stays_second End b h = second
  stays_second Settings b h = not_phase (eqb st.left 0) 0 zero-le h
  stays_second VariantRecord b h = second
  stays_second Part b h = omega arith
  stays_second Letters b h = second
  stays_second Next b h = omega arith
  stays_second Settings2 b h = omega arith
  stays_second Variant2 b h = second
  stays_second Unknown b h = second

-- a record that adds as many numbers as variants, and the records behind it
numbers_step : (k : ℕ) (b : List ℕ) (st : State) (c : Counts) → run (k ∷ b) 0 st ≡ Ok c → length (number_here (kind_of k) b) ≡ length (variant_here (kind_of k) b)
    → (run b (body_len (kind_of k)) (after st (kind_of k) b) ≡ Ok c → length (gather number_here b (body_len (kind_of k))) ≡ length (gather variant_here b (body_len (kind_of k))))
    → length (gather number_here (k ∷ b) 0) ≡ length (gather variant_here (k ∷ b) 0)
unfolding gather run
numbers_step k b st c e here rest =
    let h = sound st (kind_of k) b c (run b (body_len (kind_of k)) (after st (kind_of k) b)) e in
    let behind : length (gather number_here b (body_len (kind_of k))) ≡ length (gather variant_here b (body_len (kind_of k))) = ⊎_elim
    (λ (z : is_end (kind_of k) ≡ true). rw (end_empty st (kind_of k) b h.0 z))
    rest
    h.1 in
    simp length-append (omega arith)

numbers_rest : (s : List ℕ) (n : ℕ) (st : State) (c : Counts) → run s n st ≡ Ok c → Second st → length (gather number_here s n) ≡ length (gather variant_here s n)
unfolding gather run
numbers_rest [] n st c e p = refl
numbers_rest (k ∷ b) (suc n) st c e p = numbers_rest b n st c e p
numbers_rest (k ∷ b) zero st c e p =
    let i = none_placed st (kind_of k) b (sound st (kind_of k) b c _ e).0 in
    numbers_step k b st c e (one_each st p (kind_of k) b i) (λ r. numbers_rest b (body_len (kind_of k)) (after st (kind_of k) b) c r (stays_second st p (kind_of k) b i))

-- edition 2's settings add neither, and lead to its phase
first_second : (kind : Kind) (b : List ℕ) → is_settings kind ≡ true → is_second kind ≡ true → (length (number_here kind b) ≡ length (variant_here kind b)) × Second (after outset kind b)
unfolding number_here variant_here after
first_second End b h g = mixed (sym h)
first_second Settings b h g = mixed (sym g)
first_second VariantRecord b h g = mixed (sym h)
first_second Part b h g = mixed (sym h)
first_second Letters b h g = mixed (sym h)
first_second Next b h g = mixed (sym h)
first_second Settings2 b h g = (refl, omega arith)
first_second Variant2 b h g = mixed (sym h)
first_second Unknown b h g = mixed (sym h)

pub numbers_many : (s : List ℕ) {c : Counts} → run s 0 outset ≡ Ok c → length (numbers_of s) ≡ length (gather variant_here s 0)
unfolding run numbers_by
numbers_many [] e = let z : ◌≡◌ {A = ℕ} 1 0 = cc in absurd (never z)
numbers_many (k ∷ b) {c} e = go (is_second (kind_of k)) refl
  where
    go : (t : Bool) → is_second (kind_of k) ≡ t → length (numbers_by (cond t Two One) (k ∷ b)) ≡ length (gather variant_here (k ∷ b) 0)
    go false g = long_rows (length (gather variant_here (k ∷ b) 0))
    go true g =
        let h = first_second (kind_of k) b (first_record k b e).1 g in
        numbers_step k b outset c e h.0 (λ r. numbers_rest b (body_len (kind_of k)) (after outset (kind_of k) b) c r h.1)

pub numbers_known : (s : List ℕ) {job : Job} → read_job s ≡ Held job → length (numbers_of s) ≡ length job.variants
unfolding job_of
numbers_known s held = numbers_many s (held_good s held) ∙ ap (λ (j : Job). length j.variants) (held_job s held)
