-- The bytes of a job are in good form, record by record: from each record's state the rest is good, in either edition, which the settings decide. Assumes nothing.
use Prim.Native.Nat.{ℕ, zero, suc, ◌+◌, ◌-◌, ◌*◌, ◌/◌, ◌≤◌, ◌<◌}
use native.Mathlib.Omega.{arith}
use mathlib.Core.Path.{◌≡◌, refl, sym, ap, subst, ◌∙◌}
use mathlib.Core.Bool.{Bool, true, false, cond}
use mathlib.Core.List.{List, [], ◌∷◌, ◌++◌, append_assoc}
use mathlib.Core.Logic.{⊎_elim}
use lib.Dec.{ltb, leb}
use lib.ListN.{length, get_or, take, drop, replicate, length-append, length-drop}
use lib.Seq.{take_at, drop_at}
use borrow.Author.Tests.{lt-ltb, lt-leb, leb-true}
use Rattle.params.specs.declared.Settings.{Settings}
use Rattle.form.specs.declared.records.State.{State}
use Rattle.form.specs.declared.records.Counts.{Counts}
use Rattle.std.specs.Prelude.{Result, Ok, Err}
use Rattle.metrics.specs.declared.refusals.Refusal.{Refusal}
use Rattle.metrics.specs.declared.refusals.Refusal.TheVariants.{CutShort}
use Rattle.fields.specs.Fields.{le2, le4, bytes2, bytes4, bytes8}
use Rattle.form.specs.Settings40.{flag}
use Rattle.form.specs.Settings40.{settings_bytes, number_bytes, float_bytes}
use Rattle.form.specs.Settings41.{settings41_bytes}
use Rattle.form.specs.declared.records.Edition.{Edition}
use Rattle.form.specs.declared.records.Edition.TheVariants.{One, Two}
use Rattle.form.specs.declared.records.Kind.{Kind}
use Rattle.form.specs.declared.records.Kind.TheVariants.{End, Part as PartRecord, Letters, Next}
use Rattle.form.specs.Form.{kind_of, is_end, body_len, in_place, flags_ok, count_of, pad_ok, all_zero, too_many, fault_of, after, run, outset, counted}
use Rattle.form.specs.Job.{Variant, Part, Job}
use Rattle.form.specs.Job.{padded, letters_records, records_for, sequence_bytes, part_body, variant_body, variant_bytes, part_bytes, variants_bytes, parts_bytes, further_bytes, haplotypes_bytes}
use Rattle.form.specs.Job.{settings_record, job_bytes}
use Rattle.writer.specs.Writing.{by_edition}
use Rattle.writer.specs.Steps.{variant_kind_by}
use Rattle.writer.specs.Holds.{LettersHold, VariantHolds, PartHolds, VariantsHold, PartsHold, HaplotypesHold, JobHolds}
use Rattle.fields.proofs.FieldLaws.{four_back}
use Rattle.form.proofs.FormLaws.{split, skip, judge_done, judge_more, fault_none, fault_none_end, pad_rest, not_next}
use Rattle.writer.proofs.WriteLaws.{long_padded}
use Rattle.writer.proofs.EditionLaws.{settings_byte, settings_kind_by, settings_body, settings_record_lem, settings_kind_lem, long_settings_body, plain_settings}
use Rattle.writer.proofs.EditionLaws.{variant_record_by, numbered_body, variant_record_lem, variant_kind_lem, long_variant_body, variant_count, plain_variant}

-- ---- one record
run_record : (st : State) (k n : ℕ) (kind : Kind) (body rest : List ℕ) → kind_of k ≡ kind → is_end kind ≡ false → n ≡ body_len kind → length body ≡ n → fault_of st kind (body ++ rest) ≡ 0
    → run (k ∷ (body ++ rest)) 0 st ≡ run rest 0 (after st kind (body ++ rest))
unfolding run
run_record st k n kind body rest is other e l f =
    rw is (judge_more (fault_of st kind (body ++ rest)) kind st (run (body ++ rest) (body_len kind) (after st kind (body ++ rest))) f other
    ∙ skip (body ++ rest) (body_len kind) (after st kind (body ++ rest))
    ∙ ap (λ (q : List ℕ). run q 0 (after st kind (body ++ rest))) (drop_at body rest (body_len kind) (l ∙ e)))

flag_low : (t : Bool) → ltb (flag t) 2 ≡ true
flag_low true = refl
flag_low false = refl

-- ---- the settings
settings_flags : (e : Edition) (s : Settings) (rest : List ℕ) → LettersHold e s.letters → flags_ok (settings_kind_by e) (settings_body e s ++ rest) ≡ true
unfolding flags_ok settings41_bytes settings_bytes number_bytes float_bytes bytes4 bytes2
settings_flags One s rest h = rw (flag_low s.squish, flag_low s.one_to_one, flag_low s.full)
settings_flags Two s rest h =
    let low : s.letters < 2 = omega (arith, h) in
    rw (flag_low s.squish, flag_low s.one_to_one, flag_low s.full, lt-ltb s.letters 2 low)

settings_few : (e : Edition) (b : List ℕ) → count_of (settings_kind_by e) b ≤ 131072
unfolding count_of
settings_few One b = omega arith
settings_few Two b = omega arith

settings_placed : (e : Edition) → in_place outset (settings_kind_by e) ≡ true
unfolding in_place
settings_placed One = refl
settings_placed Two = refl

-- in which phase an edition's variants stand, and the state behind its settings
abbrev table_phase : Edition → ℕ
table_phase e = by_edition 1 3 e

abbrev begun : Edition → State
begun e = record { phase = table_phase e; left = 0; variants = 0; parts = 0; breaks = 0; letters = 0 }

settings_after : (e : Edition) (b : List ℕ) → after outset (settings_kind_by e) b ≡ begun e
unfolding after count_of
settings_after One b = refl
settings_after Two b = refl

module _ (e : Edition) (s : Settings) (h : LettersHold e s.letters) (rest : List ℕ) where
  settings_whole : body_len (settings_kind_by e) ≤ length (settings_body e s ++ rest)
  settings_whole = let a = length-append (settings_body e s) rest in let b = long_settings_body e s in omega (arith, a, b)

  settings_sound : fault_of outset (settings_kind_by e) (settings_body e s ++ rest) ≡ 0
  settings_sound =
      let kind = plain_settings e in
      sym (fault_none outset (settings_kind_by e) (settings_body e s ++ rest) kind.unknown (body_len (settings_kind_by e)) refl settings_whole (settings_placed e)
      (sym (not_next outset (settings_kind_by e) kind.next)) (settings_flags e s rest h) (settings_few e (settings_body e s ++ rest))
      (sym (pad_rest outset (settings_kind_by e) (settings_body e s ++ rest) kind.letters)) kind.end)

  settings_step : run (settings_record e s ++ rest) 0 outset ≡ run rest 0 (begun e)
  settings_step =
      ap (λ (q : List ℕ). run (q ++ rest) 0 outset) (settings_record_lem e s)
      ∙ run_record outset (settings_byte e) (body_len (settings_kind_by e)) (settings_kind_by e) (settings_body e s) rest (settings_kind_lem e) (plain_settings e).end refl
      (long_settings_body e s) settings_sound
      ∙ ap (run rest 0) (settings_after e (settings_body e s ++ rest))

-- ---- letters records
zeros : (n m : ℕ) → all_zero (take n (replicate m 0)) ≡ true
zeros zero m = refl
zeros (suc n) zero = refl
zeros (suc n) (suc m) = zeros n m

tail_zero : (l : List ℕ) (n m : ℕ) → all_zero (drop (length l) (take n (l ++ replicate m 0))) ≡ true
tail_zero [] n m = zeros n m
tail_zero (x ∷ l) zero m = refl
tail_zero (x ∷ l) (suc n) m = tail_zero l n m

padded_tail : (l : List ℕ) → all_zero (drop (length l) (padded l)) ≡ true
unfolding padded
padded_tail l = tail_zero l 16 16

module _ (l : List ℕ) (some : 0 < length l) (rest : List ℕ) (st : State) (left : st.left ≡ length l) where
  letters_placed : in_place st Letters ≡ true
  unfolding in_place
  letters_placed = rw left (simp (lt-ltb _ _ some))

  letters_flags : flags_ok Letters (padded l ++ rest) ≡ true
  unfolding flags_ok
  letters_flags = refl

  letters_few : count_of Letters (padded l ++ rest) ≤ 131072
  unfolding count_of
  letters_few = omega arith

  letters_padded : pad_ok st Letters (padded l ++ rest) ≡ true
  unfolding pad_ok
  letters_padded = rw (take_at (padded l) rest 16 (long_padded l), left) (padded_tail l)

  letters_whole : 16 ≤ length (padded l ++ rest)
  letters_whole = let e = length-append (padded l) rest in let f = long_padded l in omega (arith, e, f)

  letters_sound : fault_of st Letters (padded l ++ rest) ≡ 0
  unfolding kind_of body_len
  letters_sound = sym (fault_none st Letters (padded l ++ rest) refl 16 refl letters_whole letters_placed (sym (not_next st Letters refl)) letters_flags letters_few letters_padded refl)

  letters_step : run (4 ∷ (padded l ++ rest)) 0 st ≡ run rest 0 (after st Letters (padded l ++ rest))
  unfolding kind_of body_len
  letters_step = run_record st 4 16 Letters (padded l) rest refl refl refl (long_padded l) letters_sound

-- what is known behind a record: the phase, the letters that are owed, and how many haplotypes after the first have begun
record Owes (st : State) (phase left breaks : ℕ) : Type 0 where
  phase_is : st.phase ≡ phase
  left_is : st.left ≡ left
  breaks_are : st.breaks ≡ breaks

owed_less : (st : State) (b l : List ℕ) (phase breaks : ℕ) → Owes st phase (length l) breaks → Owes (after st Letters b) phase (length (drop 16 l)) breaks
unfolding after
owed_less st b l phase breaks o = record { phase_is = o.phase_is; breaks_are = o.breaks_are; left_is = ap (λ (n : ℕ). cond (leb n 16) 0 (n - 16)) o.left_is ∙ go }
  where
    go : cond (leb (length l) 16) 0 (length l - 16) ≡ length (drop 16 l)
    go = ⊎_elim
        (λ (t : leb (length l) 16 ≡ true). let h = leb-true (length l) 16 t in let d = length-drop 16 l in rw t (omega (arith, h, d)))
        (λ (t : leb (length l) 16 ≡ false). rw t (sym (length-drop 16 l)))
        (split (leb (length l) 16))

-- good, whatever the counts
IsGood : Result Counts Refusal → Type 0
IsGood v = (c : Counts) × (v ≡ Ok c)

-- from any state of a phase in which nothing is owed, the rest is good
GoodFrom : List ℕ → ℕ → ℕ → Type 0
GoodFrom rest phase breaks = (st : State) → Owes st phase 0 breaks → IsGood (run rest 0 st)

-- and so behind the settings, whether a part stood there or not
Later : List ℕ → ℕ → Type 0
Later rest breaks = (phase : ℕ) → (phase ≡ 0 → ⊥) → GoodFrom rest phase breaks

records_good : (n : ℕ) (l rest : List ℕ) (phase breaks : ℕ) → length l ≤ 16 * n → 16 * n < length l + 16 → GoodFrom rest phase breaks
    → (st : State) → Owes st phase (length l) breaks → IsGood (run (letters_records n l ++ rest) 0 st)
unfolding letters_records IsGood GoodFrom
records_good zero l rest phase breaks a b next st o = next st (record { phase_is = o.phase_is; breaks_are = o.breaks_are; left_is = let e = o.left_is in omega (arith, e, a) })
records_good (suc n) l rest phase breaks a b next st o =
    let h : 0 < length l = omega arith in
    let d = length-drop 16 l in
    let r : List ℕ = letters_records n (drop 16 l) ++ rest in
    let g = records_good n (drop 16 l) rest phase breaks (omega (arith, d)) (omega (arith, d)) next (after st Letters (padded l ++ r)) (owed_less st (padded l ++ r) l phase breaks o) in
    (g.0, ap (λ (q : List ℕ). run (4 ∷ q) 0 st) (append_assoc (padded l) (letters_records n (drop 16 l)) rest) ∙ letters_step l h r st o.left_is ∙ g.1)

sequence_good : (l rest : List ℕ) (phase breaks : ℕ) → GoodFrom rest phase breaks → (st : State) → Owes st phase (length l) breaks → IsGood (run (sequence_bytes l ++ rest) 0 st)
unfolding sequence_bytes
sequence_good l rest phase breaks next st o = records_good (records_for (length l)) l rest phase breaks
    (let k : length l ≤ 16 * ((length l + 15) / 16) = omega arith in k) (let k : 16 * ((length l + 15) / 16) < length l + 16 = omega arith in k) next st o

-- ---- a variant: its record's body, and what stands behind it
abbrev pub vbody : Edition → ℕ → Variant → List ℕ
vbody e number x = numbered_body e number x.start x.end x.size x.negative (length x.letters)

abbrev pub vrest : Variant → List ℕ → List ℕ
vrest x rest = sequence_bytes x.letters ++ rest

variant_flags : (e : Edition) (number : ℕ) (x : Variant) (rest : List ℕ) → flags_ok (variant_record_by e) (vbody e number x ++ rest) ≡ true
unfolding flags_ok variant_body part_body bytes8 bytes4 bytes2
variant_flags One number x rest = rw (flag_low x.negative)
variant_flags Two number x rest = rw (flag_low x.negative)

variant_placed : (e : Edition) (st : State) (breaks : ℕ) → Owes st (table_phase e) 0 breaks → in_place st (variant_record_by e) ≡ true
unfolding in_place
variant_placed One st breaks o = rw (o.left_is, o.phase_is)
variant_placed Two st breaks o = rw (o.left_is, o.phase_is)

variant_after : (e : Edition) (st : State) (b : List ℕ) (n breaks : ℕ) → Owes st (table_phase e) 0 breaks → count_of (variant_record_by e) b ≡ n
    → Owes (after st (variant_record_by e) b) (table_phase e) n breaks
unfolding after
variant_after One st b n breaks o count = record { phase_is = o.phase_is; left_is = count; breaks_are = o.breaks_are }
variant_after Two st b n breaks o count = record { phase_is = o.phase_is; left_is = count; breaks_are = o.breaks_are }

module _ (e : Edition) (number : ℕ) (x : Variant) (rest : List ℕ) where
  pub variant_bytes_lem : variant_bytes e number x ++ rest ≡ variant_kind_by e ∷ (vbody e number x ++ vrest x rest)
  unfolding variant_bytes
  variant_bytes_lem =
      ap (λ (q : List ℕ). (q ++ sequence_bytes x.letters) ++ rest) (variant_record_lem e number x.start x.end x.size x.negative (length x.letters))
      ∙ ap (λ (q : List ℕ). variant_kind_by e ∷ q) (append_assoc (vbody e number x) (sequence_bytes x.letters) rest)

  pub long_vbody : length (vbody e number x) ≡ body_len (variant_record_by e)
  long_vbody = long_variant_body e number x.start x.end x.size x.negative (length x.letters)

  pub v_whole : body_len (variant_record_by e) ≤ length (vbody e number x ++ vrest x rest)
  v_whole = let a = length-append (vbody e number x) (vrest x rest) in let b = long_vbody in omega (arith, a, b)

  module _ (h : VariantHolds x) where
    v_count : count_of (variant_record_by e) (vbody e number x ++ vrest x rest) ≡ length x.letters
    v_count = let n : length x.letters < 4294967296 = omega (arith, h.letters) in
        variant_count e number x.start x.end x.size x.negative (length x.letters) (vrest x rest) n

    module _ (breaks : ℕ) (st : State) (o : Owes st (table_phase e) 0 breaks) where
      v_sound : fault_of st (variant_record_by e) (vbody e number x ++ vrest x rest) ≡ 0
      v_sound =
          let kind = plain_variant e in
          sym (fault_none st (variant_record_by e) (vbody e number x ++ vrest x rest) kind.unknown (body_len (variant_record_by e)) refl v_whole (variant_placed e st breaks o)
          (sym (not_next st (variant_record_by e) kind.next)) (variant_flags e number x (vrest x rest)) (rw v_count h.letters)
          (sym (pad_rest st (variant_record_by e) (vbody e number x ++ vrest x rest) kind.letters)) kind.end)

      variant_good : GoodFrom rest (table_phase e) breaks → IsGood (run (variant_bytes e number x ++ rest) 0 st)
      unfolding IsGood
      variant_good next =
          let later = variant_after e st (vbody e number x ++ vrest x rest) (length x.letters) breaks o v_count in
          let g = sequence_good x.letters rest (table_phase e) breaks next (after st (variant_record_by e) (vbody e number x ++ vrest x rest)) later in (
            g.0,
            ap (λ (q : List ℕ). run q 0 st) variant_bytes_lem
                ∙ run_record st (variant_kind_by e) (body_len (variant_record_by e)) (variant_record_by e) (vbody e number x) (vrest x rest) (variant_kind_lem e) (plain_variant e).end refl
                long_vbody v_sound ∙ g.1,
          )

-- ---- a part, likewise
abbrev pub pbody : Part → List ℕ
pbody x = part_body x.size x.negative (length x.letters)

abbrev pub prest : Part → List ℕ → List ℕ
prest x rest = sequence_bytes x.letters ++ rest

module _ (x : Part) (h : PartHolds x) (rest : List ℕ) where
  pub long_pbody : length (pbody x) ≡ 9
  unfolding part_body bytes4 bytes2
  long_pbody = refl

  pub p_whole : 9 ≤ length (pbody x ++ prest x rest)
  p_whole = let e = length-append (pbody x) (prest x rest) in let f = long_pbody in omega (arith, e, f)

  p_flags : flags_ok PartRecord (pbody x ++ prest x rest) ≡ true
  unfolding flags_ok part_body bytes4 bytes2
  p_flags = rw (flag_low x.negative)

  p_count : count_of PartRecord (pbody x ++ prest x rest) ≡ length x.letters
  unfolding count_of part_body bytes4 bytes2 le4 le2
  p_count = let n : length x.letters < 4294967296 = omega (arith, h.letters) in four_back (length x.letters) n

  module _ (breaks phase : ℕ) (later : phase ≡ 0 → ⊥) (st : State) (o : Owes st phase 0 breaks) where
    p_placed : in_place st PartRecord ≡ true
    unfolding in_place
    p_placed = let h : 0 < phase = omega arith in rw (o.left_is, o.phase_is, lt-ltb 0 phase h)

    p_sound : fault_of st PartRecord (pbody x ++ prest x rest) ≡ 0
    unfolding kind_of body_len
    p_sound = sym (fault_none st PartRecord (pbody x ++ prest x rest) refl 9 refl p_whole p_placed (sym (not_next st PartRecord refl)) p_flags (rw p_count h.letters)
        (sym (pad_rest st PartRecord (pbody x ++ prest x rest) refl)) refl)

    p_owes : Owes (after st PartRecord (pbody x ++ prest x rest)) 2 (length x.letters) breaks
    unfolding after
    p_owes = record { phase_is = refl; left_is = p_count; breaks_are = o.breaks_are }

    part_good : GoodFrom rest 2 breaks → IsGood (run (part_bytes x ++ rest) 0 st)
    unfolding part_bytes kind_of body_len IsGood
    part_good next =
        let g = sequence_good x.letters rest 2 breaks next (after st PartRecord (pbody x ++ prest x rest)) p_owes in (
          g.0,
          ap (λ (q : List ℕ). run (3 ∷ q) 0 st) (append_assoc (pbody x) (sequence_bytes x.letters) rest)
              ∙ run_record st 3 9 PartRecord (pbody x) (prest x rest) refl refl refl long_pbody p_sound ∙ g.1,
        )

-- ---- the end
module _ (breaks phase : ℕ) (later : phase ≡ 0 → ⊥) (st : State) (o : Owes st phase 0 breaks) where
  end_placed : in_place st End ≡ true
  unfolding in_place
  end_placed = let h : 0 < phase = omega arith in rw (o.left_is, o.phase_is, lt-ltb 0 phase h)

  end_flags : flags_ok End [] ≡ true
  unfolding flags_ok
  end_flags = refl

  end_few : count_of End [] ≤ 131072
  unfolding count_of
  end_few = omega arith

  end_sound : fault_of st End [] ≡ 0
  unfolding kind_of body_len
  end_sound = sym (fault_none_end st End [] refl 0 refl (omega arith) end_placed (sym (not_next st End refl)) end_flags end_few (sym (pad_rest st End [] refl)) refl (omega arith))

  end_step : run (0 ∷ []) 0 st ≡ Ok (counted st)
  unfolding run kind_of body_len
  end_step = judge_done (fault_of st End []) End st (Err CutShort) end_sound refl

end_good : (breaks : ℕ) → Later (0 ∷ []) breaks
unfolding Later GoodFrom IsGood
end_good breaks phase later st o = (counted st, end_step breaks phase later st o)

-- ---- the record that begins the next haplotype
module _ (rest : List ℕ) (breaks phase : ℕ) (later : phase ≡ 0 → ⊥) (within : breaks < 15) (st : State) (o : Owes st phase 0 breaks) where
  next_placed : in_place st Next ≡ true
  unfolding in_place
  next_placed = let h : 0 < phase = omega arith in rw (o.left_is, o.phase_is, lt-ltb 0 phase h)

  next_within : too_many st Next ≡ false
  unfolding too_many
  next_within = rw o.breaks_are (lt-leb 15 breaks within)

  next_flags : flags_ok Next rest ≡ true
  unfolding flags_ok
  next_flags = refl

  next_few : count_of Next rest ≤ 131072
  unfolding count_of
  next_few = omega arith

  next_sound : fault_of st Next rest ≡ 0
  unfolding kind_of body_len
  next_sound = sym (fault_none st Next rest refl 0 refl (omega arith) next_placed next_within next_flags next_few (sym (pad_rest st Next rest refl)) refl)

  next_owes : Owes (after st Next rest) 2 0 (breaks + 1)
  unfolding after count_of
  next_owes = record { phase_is = refl; left_is = refl; breaks_are = rw o.breaks_are }

  next_good : GoodFrom rest 2 (breaks + 1) → IsGood (run (5 ∷ rest) 0 st)
  unfolding GoodFrom IsGood kind_of body_len
  next_good next = let g = next (after st Next rest) next_owes in (g.0, run_record st 5 0 Next [] rest refl refl refl refl next_sound ∙ g.1)

-- ---- all rows
parts_good : (xs : List Part) (rest : List ℕ) → PartsHold xs → (breaks : ℕ) → Later rest breaks → Later (parts_bytes xs ++ rest) breaks
unfolding parts_bytes Later GoodFrom
parts_good [] rest h breaks next phase later st o = next phase later st o
parts_good (x ∷ xs) rest h breaks next phase later st o =
    subst (λ (q : List ℕ). IsGood (run q 0 st)) (sym (append_assoc (part_bytes x) (parts_bytes xs) rest))
    (part_good x h.0 (parts_bytes xs ++ rest) breaks phase later st o (parts_good xs rest h.1 breaks next 2 (λ e. omega arith)))

further_good : (hs : List (List Part)) → HaplotypesHold hs → (breaks : ℕ) → breaks + length hs ≤ 15 → Later (further_bytes hs ++ (0 ∷ [])) breaks
unfolding further_bytes Later GoodFrom
further_good [] h breaks few phase later st o = end_good breaks phase later st o
further_good (xs ∷ hs) h breaks few phase later st o =
    subst (λ (q : List ℕ). IsGood (run (5 ∷ q) 0 st)) (sym (append_assoc (parts_bytes xs) (further_bytes hs) (0 ∷ [])))
    (next_good (parts_bytes xs ++ (further_bytes hs ++ (0 ∷ []))) breaks phase later (omega arith) st o
    (parts_good xs (further_bytes hs ++ (0 ∷ [])) h.0 (breaks + 1) (further_good hs h.1 (breaks + 1) (omega arith)) 2 (λ e. omega arith)))

haplotypes_good : (hs : List (List Part)) → HaplotypesHold hs → length hs ≤ 16 → Later (haplotypes_bytes hs ++ (0 ∷ [])) 0
unfolding haplotypes_bytes Later GoodFrom
haplotypes_good [] h few phase later st o = end_good 0 phase later st o
haplotypes_good (xs ∷ hs) h few phase later st o =
    subst (λ (q : List ℕ). IsGood (run q 0 st)) (sym (append_assoc (parts_bytes xs) (further_bytes hs) (0 ∷ [])))
    (parts_good xs (further_bytes hs ++ (0 ∷ [])) h.0 0 (further_good hs h.1 0 (omega arith)) phase later st o)

variants_good : (e : Edition) (numbers : List ℕ) (xs : List Variant) (rest : List ℕ) → VariantsHold xs
    → GoodFrom rest (table_phase e) 0 → GoodFrom (variants_bytes e numbers xs ++ rest) (table_phase e) 0
unfolding variants_bytes GoodFrom
variants_good e numbers [] rest h next st o = next st o
variants_good e numbers (x ∷ xs) rest h next st o =
    subst (λ (q : List ℕ). IsGood (run q 0 st)) (sym (append_assoc (variant_bytes e (get_or numbers 0 0) x) (variants_bytes e (drop 1 numbers) xs) rest))
    (variant_good e (get_or numbers 0 0) x (variants_bytes e (drop 1 numbers) xs ++ rest) h.0 0 st o (variants_good e (drop 1 numbers) xs rest h.1 next))

-- ---- the job
table_later : (e : Edition) → table_phase e ≡ 0 → ⊥
table_later One z = omega arith
table_later Two z = omega arith

pub job_good : (e : Edition) (numbers : List ℕ) (job : Job) → JobHolds e job → (c : Counts) × (run (job_bytes e numbers job) 0 outset ≡ Ok c)
unfolding job_bytes IsGood GoodFrom Later
job_good e numbers job h =
    let end : List ℕ = haplotypes_bytes job.haplotypes ++ (0 ∷ []) in
    let g = variants_good e numbers job.variants end h.variants (haplotypes_good job.haplotypes h.haplotypes h.few (table_phase e) (table_later e))
    (begun e) (record { phase_is = refl; left_is = refl; breaks_are = refl }) in
    (g.0, settings_step e job.settings h.letters (variants_bytes e numbers job.variants ++ end) ∙ g.1)
