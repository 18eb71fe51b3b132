-- What the bytes of a job hold is the job: its settings, its variants, its haplotypes and its record numbers, read record by record in either edition. Assumes nothing.
use Prim.Native.Nat.{ℕ, zero, suc, ◌≤◌, ◌<◌}
use native.Mathlib.Omega.{arith}
use mathlib.Core.Path.{◌≡◌, refl, sym, ap, ◌∙◌}
use mathlib.Core.List.{List, [], ◌∷◌, ◌++◌, append_assoc, append-nil}
use lib.ListN.{length, get_or, drop}
use lib.Seq.{drop_at}
use borrow.Author.Tests.{le-ltb}
use Rattle.fields.specs.Fields.{le2, le4, bytes2, bytes4, bytes8}
use Rattle.form.specs.declared.records.Edition.{Edition}
use Rattle.form.specs.declared.records.Edition.TheVariants.{One, Two}
use Rattle.form.specs.declared.records.Kind.{Kind}
use Rattle.form.specs.declared.records.Kind.TheVariants.{Part as PartRecord, Letters, Next, End, Variant2}
use Rattle.form.specs.Form.{kind_of, body_len}
use Rattle.form.specs.Job.{Variant, Part, Job, settings_by, variant_of, variant_here, part_here, number_here, gather, to_first, haplotypes_here, haplotypes_in, part_body, variant_body}
use Rattle.form.specs.Job.{padded, letters_records, records_for, sequence_bytes, variant_bytes, part_bytes, variants_bytes, parts_bytes, further_bytes, haplotypes_bytes, job_bytes}
use Rattle.writer.specs.Steps.{variant_kind_by}
use Rattle.writer.specs.Holds.{VariantHolds, PartHolds, VariantsHold, PartsHold, HaplotypesHold, JobHolds, NumbersHold}
use Rattle.fields.proofs.FieldLaws.{four_back}
use Rattle.form.proofs.GatherLaws.{gather_skip}
use Rattle.form.proofs.HaplotypeLaws.{some_haplotype, first_none, first_append, haplotypes_record}
use Rattle.writer.proofs.WriteLaws.{long_padded}
use Rattle.writer.proofs.BackLaws.{settings_back, variant_back, part_back}
use Rattle.writer.proofs.EditionLaws.{settings_byte, settings_kind_by, settings_body, settings_record_lem, settings_kind_lem, long_settings_body, variant_record_by, variant_kind_lem}
use Rattle.writer.proofs.GoodForm.{vbody, vrest, variant_bytes_lem, long_vbody, v_whole, pbody, prest, long_pbody, p_whole}

-- What is read record by record: `step` of a record's kind, what stands from its body on and what the rest gives. Letters records give nothing of their own.
record Walks {B : Type 0} (walk : List ℕ → B) (step : Kind → List ℕ → B → B) : Type 0 where
  at_record : (k n : ℕ) (kind : Kind) (body rest : List ℕ) → kind_of k ≡ kind → n ≡ body_len kind → length body ≡ n
      → walk (k ∷ (body ++ rest)) ≡ step kind (body ++ rest) (walk rest)
  at_letters : (b rest : List ℕ) → step Letters b (walk rest) ≡ walk rest

-- what is gathered, of which letters records have none
module _ {A : Type 0} (here : Kind → List ℕ → List A) (silent : (b : List ℕ) → here Letters b ≡ []) where
  gather_walk : Walks (λ s. gather here s 0) (λ kind b rest. here kind b ++ rest)
  unfolding gather
  gather_walk = record {
    at_record = λ k n kind body rest is e l. rw is (ap (λ (q : List A). here kind (body ++ rest) ++ q)
        (gather_skip here (body ++ rest) (body_len kind) ∙ ap (λ (q : List ℕ). gather here q 0) (drop_at body rest (body_len kind) (l ∙ e))));
    at_letters = λ b rest. ap (λ (q : List A). q ++ gather here rest 0) (silent b);
  }

abbrev variants_read : List ℕ → List Variant
variants_read s = gather variant_here s 0

abbrev variant_step : Kind → List ℕ → List Variant → List Variant
variant_step kind b rest = variant_here kind b ++ rest

variants_walk : Walks variants_read variant_step
unfolding variant_here
variants_walk = gather_walk variant_here (λ b. refl)

abbrev numbers_read : List ℕ → List ℕ
numbers_read s = gather number_here s 0

abbrev number_step : Kind → List ℕ → List ℕ → List ℕ
number_step kind b rest = number_here kind b ++ rest

numbers_walk : Walks numbers_read number_step
unfolding number_here
numbers_walk = gather_walk number_here (λ b. refl)

abbrev haplotypes_read : List ℕ → List (List Part)
haplotypes_read s = haplotypes_in s 0

haplotypes_walk : Walks haplotypes_read haplotypes_here
unfolding haplotypes_here part_here
haplotypes_walk = record { at_record = haplotypes_record; at_letters = λ b rest. first_none (haplotypes_in rest 0) (some_haplotype rest 0) }

module _ {B : Type 0} {walk : List ℕ → B} {step : Kind → List ℕ → B → B} (w : Walks walk step) where
  walk_letters : (n : ℕ) (l rest : List ℕ) → walk (letters_records n l ++ rest) ≡ walk rest
  unfolding letters_records kind_of body_len
  walk_letters zero l rest = refl
  walk_letters (suc n) l rest =
      let r : List ℕ = letters_records n (drop 16 l) ++ rest in
      ap (λ (q : List ℕ). walk (4 ∷ q)) (append_assoc (padded l) (letters_records n (drop 16 l)) rest)
      ∙ w.at_record 4 16 Letters (padded l) r refl refl (long_padded l)
      ∙ w.at_letters (padded l ++ r) r
      ∙ walk_letters n (drop 16 l) rest

  -- a record with the letters behind it
  walk_row : (k n : ℕ) (kind : Kind) (body l rest : List ℕ) → kind_of k ≡ kind → n ≡ body_len kind → length body ≡ n
      → walk (k ∷ (body ++ (sequence_bytes l ++ rest))) ≡ step kind (body ++ (sequence_bytes l ++ rest)) (walk rest)
  unfolding sequence_bytes
  walk_row k n kind body l rest is e long =
      w.at_record k n kind body (sequence_bytes l ++ rest) is e long
      ∙ ap (step kind (body ++ (sequence_bytes l ++ rest))) (walk_letters (records_for (length l)) l rest)

-- ---- a variant and a part
variant_there : (e : Edition) (b : List ℕ) → body_len (variant_record_by e) ≤ length b → variant_here (variant_record_by e) b ≡ variant_of (variant_record_by e) b ∷ []
unfolding variant_here
variant_there One b whole = rw (le-ltb _ _ whole)
variant_there Two b whole = rw (le-ltb _ _ whole)

variant_no_part : (e : Edition) (b : List ℕ) (hs : List (List Part)) → haplotypes_here (variant_record_by e) b hs ≡ to_first [] hs
unfolding haplotypes_here part_here
variant_no_part One b hs = refl
variant_no_part Two b hs = refl

module _ (e : Edition) (number : ℕ) (x : Variant) (h : VariantHolds x) (rest : List ℕ) where
  walk_variant : {B : Type 0} {walk : List ℕ → B} {step : Kind → List ℕ → B → B} → Walks walk step
      → walk (variant_bytes e number x ++ rest) ≡ step (variant_record_by e) (vbody e number x ++ vrest x rest) (walk rest)
  walk_variant {walk = walk} w =
      ap walk (variant_bytes_lem e number x rest)
      ∙ walk_row w (variant_kind_by e) (body_len (variant_record_by e)) (variant_record_by e) (vbody e number x) x.letters rest (variant_kind_lem e) refl (long_vbody e number x rest)

  variant_is : variant_here (variant_record_by e) (vbody e number x ++ vrest x rest) ≡ x ∷ []
  variant_is =
      variant_there e (vbody e number x ++ vrest x rest) (v_whole e number x rest) ∙ ap (λ (y : Variant). y ∷ []) (variant_back e number x h rest)

  no_part_here : (s : List ℕ) → haplotypes_here (variant_record_by e) (vbody e number x ++ vrest x rest) (haplotypes_read s) ≡ haplotypes_read s
  no_part_here s = variant_no_part e (vbody e number x ++ vrest x rest) (haplotypes_read s) ∙ first_none (haplotypes_read s) (some_haplotype s 0)

-- edition 2's record number
number_at : (number : ℕ) (x : Variant) (rest : List ℕ) → number < 4294967296 → le4 (vbody Two number x ++ vrest x rest) 25 ≡ number
unfolding variant_body part_body bytes8 bytes4 bytes2 le4 le2
number_at number x rest h = four_back number h

number_there : (b : List ℕ) → body_len Variant2 ≤ length b → number_here Variant2 b ≡ le4 b 25 ∷ []
unfolding number_here
number_there b whole = rw (le-ltb _ _ whole)

number_is : (number : ℕ) (x : Variant) (rest : List ℕ) → number < 4294967296 → number_here Variant2 (vbody Two number x ++ vrest x rest) ≡ number ∷ []
number_is number x rest h =
    number_there (vbody Two number x ++ vrest x rest) (v_whole Two number x rest) ∙ ap (λ (n : ℕ). n ∷ []) (number_at number x rest h)

module _ (x : Part) (h : PartHolds x) (rest : List ℕ) where
  walk_part : {B : Type 0} {walk : List ℕ → B} {step : Kind → List ℕ → B → B} → Walks walk step → walk (part_bytes x ++ rest) ≡ step PartRecord (pbody x ++ prest x rest) (walk rest)
  unfolding part_bytes kind_of body_len
  walk_part {walk = walk} w =
      ap (λ (q : List ℕ). walk (3 ∷ q)) (append_assoc (pbody x) (sequence_bytes x.letters) rest)
      ∙ walk_row w 3 9 PartRecord (pbody x) x.letters rest refl refl (long_pbody x h rest)

  part_is : part_here PartRecord (pbody x ++ prest x rest) ≡ x ∷ []
  unfolding part_here
  part_is = rw (le-ltb (length (pbody x ++ prest x rest)) 9 (p_whole x h rest), part_back x h rest)

  part_here_lem : (hs : List (List Part)) → haplotypes_here PartRecord (pbody x ++ prest x rest) hs ≡ to_first (x ∷ []) hs
  unfolding haplotypes_here
  part_here_lem hs = rw part_is

  no_variant_here : variant_here PartRecord (pbody x ++ prest x rest) ≡ []
  unfolding variant_here
  no_variant_here = refl

-- ---- all rows
variants_there : (e : Edition) (numbers : List ℕ) (xs : List Variant) (rest : List ℕ) → VariantsHold xs → variants_read (variants_bytes e numbers xs ++ rest) ≡ xs ++ variants_read rest
unfolding variants_bytes
variants_there e numbers [] rest h = refl
variants_there e numbers (x ∷ xs) rest h =
    let n : ℕ = get_or numbers 0 0 in
    let more : List ℕ = variants_bytes e (drop 1 numbers) xs in
    ap variants_read (append_assoc (variant_bytes e n x) more rest)
    ∙ walk_variant e n x h.0 (more ++ rest) variants_walk
    ∙ rw (variant_is e n x h.0 (more ++ rest)) (ap (λ (q : List Variant). x ∷ q) (variants_there e (drop 1 numbers) xs rest h.1))

-- the record numbers of edition 2, as many as variants
numbers_there : (numbers : List ℕ) (xs : List Variant) (rest : List ℕ) → VariantsHold xs → NumbersHold numbers → length numbers ≡ length xs
    → numbers_read (variants_bytes Two numbers xs ++ rest) ≡ numbers ++ numbers_read rest
unfolding variants_bytes
numbers_there [] [] rest h u l = refl
numbers_there (n ∷ numbers) [] rest h u l = let z : ⊥ = omega arith in absurd z
numbers_there [] (x ∷ xs) rest h u l = let z : ⊥ = omega arith in absurd z
numbers_there (n ∷ numbers) (x ∷ xs) rest h u l =
    let more : List ℕ = variants_bytes Two numbers xs in
    ap numbers_read (append_assoc (variant_bytes Two n x) more rest)
    ∙ walk_variant Two n x h.0 (more ++ rest) numbers_walk
    ∙ rw (number_is n x (more ++ rest) (u 0)) (ap (λ (q : List ℕ). n ∷ q) (numbers_there numbers xs rest h.1 (λ (r : ℕ). u (suc r)) (omega arith)))

no_parts : (e : Edition) (numbers : List ℕ) (xs : List Variant) (rest : List ℕ) → VariantsHold xs → haplotypes_read (variants_bytes e numbers xs ++ rest) ≡ haplotypes_read rest
unfolding variants_bytes
no_parts e numbers [] rest h = refl
no_parts e numbers (x ∷ xs) rest h =
    let n : ℕ = get_or numbers 0 0 in
    let more : List ℕ = variants_bytes e (drop 1 numbers) xs in
    ap haplotypes_read (append_assoc (variant_bytes e n x) more rest)
    ∙ walk_variant e n x h.0 (more ++ rest) haplotypes_walk
    ∙ no_part_here e n x h.0 (more ++ rest) (more ++ rest)
    ∙ no_parts e (drop 1 numbers) xs rest h.1

-- Behind the variants there is nothing to gather, where parts, letters, the next haplotype and the end have none of it.
module _ {A : Type 0} (here : Kind → List ℕ → List A) (no-letter : (b : List ℕ) → here Letters b ≡ []) (no_part : (b : List ℕ) → here PartRecord b ≡ [])
    (no-next : (b : List ℕ) → here Next b ≡ []) (no_end : here End [] ≡ []) where
  abbrev found : List ℕ → List A
  found s = gather here s 0

  none_in_parts : (xs : List Part) (rest : List ℕ) → PartsHold xs → found (parts_bytes xs ++ rest) ≡ found rest
  unfolding parts_bytes
  none_in_parts [] rest h = refl
  none_in_parts (x ∷ xs) rest h =
      ap found (append_assoc (part_bytes x) (parts_bytes xs) rest)
      ∙ walk_part x h.0 (parts_bytes xs ++ rest) (gather_walk here no-letter)
      ∙ rw (no_part (pbody x ++ prest x (parts_bytes xs ++ rest))) (none_in_parts xs rest h.1)

  none_further : (hs : List (List Part)) → HaplotypesHold hs → found (further_bytes hs ++ (0 ∷ [])) ≡ []
  unfolding further_bytes gather kind_of body_len
  none_further [] h = ap (λ (q : List A). q ++ []) no_end
  none_further (xs ∷ hs) h =
      rw (no-next ((parts_bytes xs ++ further_bytes hs) ++ (0 ∷ [])))
      (ap found (append_assoc (parts_bytes xs) (further_bytes hs) (0 ∷ []))
      ∙ none_in_parts xs (further_bytes hs ++ (0 ∷ [])) h.0 ∙ none_further hs h.1)

  none_behind : (hs : List (List Part)) → HaplotypesHold hs → found (haplotypes_bytes hs ++ (0 ∷ [])) ≡ []
  unfolding haplotypes_bytes further_bytes
  none_behind [] h = none_further [] h
  none_behind (xs ∷ hs) h =
      ap found (append_assoc (parts_bytes xs) (further_bytes hs) (0 ∷ []))
      ∙ none_in_parts xs (further_bytes hs ++ (0 ∷ [])) h.0 ∙ none_further hs h.1

parts_there : (xs : List Part) (rest : List ℕ) → PartsHold xs → haplotypes_read (parts_bytes xs ++ rest) ≡ to_first xs (haplotypes_read rest)
unfolding parts_bytes
parts_there [] rest h = sym (first_none (haplotypes_read rest) (some_haplotype rest 0))
parts_there (x ∷ xs) rest h =
    ap haplotypes_read (append_assoc (part_bytes x) (parts_bytes xs) rest)
    ∙ walk_part x h.0 (parts_bytes xs ++ rest) haplotypes_walk
    ∙ part_here_lem x h.0 (parts_bytes xs ++ rest) (haplotypes_read (parts_bytes xs ++ rest))
    ∙ ap (to_first (x ∷ [])) (parts_there xs rest h.1)
    ∙ first_append (x ∷ []) xs (haplotypes_read rest)

-- the parts of the first and of those behind it
first_there : (xs : List Part) (hs : List (List Part)) → PartsHold xs → haplotypes_read (further_bytes hs ++ (0 ∷ [])) ≡ [] ∷ hs
    → haplotypes_read ((parts_bytes xs ++ further_bytes hs) ++ (0 ∷ [])) ≡ xs ∷ hs
unfolding to_first
first_there xs hs h e =
    ap haplotypes_read (append_assoc (parts_bytes xs) (further_bytes hs) (0 ∷ [])) ∙ parts_there xs (further_bytes hs ++ (0 ∷ [])) h
    ∙ ap (to_first xs) e ∙ ap (λ (ys : List Part). ys ∷ hs) (append-nil xs)

further_there : (hs : List (List Part)) → HaplotypesHold hs → haplotypes_read (further_bytes hs ++ (0 ∷ [])) ≡ [] ∷ hs
unfolding further_bytes haplotypes_in haplotypes_here kind_of body_len to_first part_here
further_there [] h = refl
further_there (xs ∷ hs) h = ap (λ (q : List (List Part)). [] ∷ q) (first_there xs hs h.0 (further_there hs h.1))

haplotypes_there : (hs : List (List Part)) → HaplotypesHold hs → 1 ≤ length hs → haplotypes_read (haplotypes_bytes hs ++ (0 ∷ [])) ≡ hs
unfolding haplotypes_bytes
haplotypes_there [] h some = let z : ⊥ = omega arith in absurd z
haplotypes_there (xs ∷ hs) h some = first_there xs hs h.0 (further_there hs h.1)

-- ---- the job
settings_silent : (e : Edition) (b : List ℕ) → (variant_here (settings_kind_by e) b ≡ []) × (number_here (settings_kind_by e) b ≡ [])
unfolding variant_here number_here
settings_silent One b = (refl, refl)
settings_silent Two b = (refl, refl)

settings_no_next : (e : Edition) (b : List ℕ) (hs : List (List Part)) → haplotypes_here (settings_kind_by e) b hs ≡ to_first [] hs
unfolding haplotypes_here part_here
settings_no_next One b hs = refl
settings_no_next Two b hs = refl

module _ (e : Edition) (numbers : List ℕ) (job : Job) (h : JobHolds e job) where
  abbrev end : List ℕ
  end = haplotypes_bytes job.haplotypes ++ (0 ∷ [])

  abbrev tail : List ℕ
  tail = variants_bytes e numbers job.variants ++ end

  walk_settings : {B : Type 0} {walk : List ℕ → B} {step : Kind → List ℕ → B → B} → Walks walk step
      → walk (job_bytes e numbers job) ≡ step (settings_kind_by e) (settings_body e job.settings ++ tail) (walk tail)
  unfolding job_bytes
  walk_settings {walk = walk} w =
      ap (λ (q : List ℕ). walk (q ++ tail)) (settings_record_lem e job.settings)
      ∙ w.at_record (settings_byte e) (body_len (settings_kind_by e)) (settings_kind_by e) (settings_body e job.settings) tail (settings_kind_lem e) refl (long_settings_body e job.settings)

  pub variants_are : variants_read (job_bytes e numbers job) ≡ job.variants
  unfolding variant_here
  variants_are = walk_settings variants_walk
      ∙ ap (λ (q : List Variant). q ++ variants_read tail) (settings_silent e (settings_body e job.settings ++ tail)).0
      ∙ variants_there e numbers job.variants end h.variants
      ∙ ap (λ (q : List Variant). job.variants ++ q) (none_behind variant_here (λ b. refl) (λ b. refl) (λ b. refl) refl job.haplotypes h.haplotypes)
      ∙ append-nil job.variants

  pub haplotypes_are : haplotypes_read (job_bytes e numbers job) ≡ job.haplotypes
  haplotypes_are = walk_settings haplotypes_walk
      ∙ settings_no_next e (settings_body e job.settings ++ tail) (haplotypes_read tail)
      ∙ first_none (haplotypes_read tail) (some_haplotype tail 0)
      ∙ no_parts e numbers job.variants end h.variants
      ∙ haplotypes_there job.haplotypes h.haplotypes h.some

  pub settings_are : settings_by e (drop 1 (job_bytes e numbers job)) ≡ job.settings
  unfolding job_bytes
  settings_are =
      ap (λ (q : List ℕ). settings_by e (drop 1 (q ++ tail))) (settings_record_lem e job.settings) ∙ settings_back e job.settings h.settings h.letters tail

pub numbers_are : (numbers : List ℕ) (job : Job) → JobHolds Two job → NumbersHold numbers → length numbers ≡ length job.variants → numbers_read (job_bytes Two numbers job) ≡ numbers
unfolding number_here
numbers_are numbers job h u l =
    let end : List ℕ = haplotypes_bytes job.haplotypes ++ (0 ∷ []) in
    let tail : List ℕ = variants_bytes Two numbers job.variants ++ end in
    walk_settings Two numbers job h numbers_walk
    ∙ ap (λ (q : List ℕ). q ++ numbers_read tail) (settings_silent Two (settings_body Two job.settings ++ tail)).1
    ∙ numbers_there numbers job.variants end h.variants u l
    ∙ ap (λ (q : List ℕ). numbers ++ q) (none_behind number_here (λ b. refl) (λ b. refl) (λ b. refl) refl job.haplotypes h.haplotypes)
    ∙ append-nil numbers
