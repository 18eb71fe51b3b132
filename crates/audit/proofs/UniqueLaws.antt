-- A promise that is an equation fixes its result; where a slice's equation speaks of the value, the values agree first, and where it holds under a condition, the condition is given.
use mathlib.Core.Path.{◌≡◌, refl, sym, ap, ◌∙◌}
use mathlib.Core.Bool.{Bool, false}
use mathlib.Core.List.{List, []}
use Prim.Native.Nat.{ℕ}
use Rattle.std.specs.Prelude.{Result}
use Rattle.metrics.specs.declared.refusals.Refusal.{Refusal}
use Rattle.metrics.specs.Refusals.{told}
use Rattle.metrics.specs.Letters.{counts_by, row_after}
use Rattle.metrics.proofs.RefusalLaws.{told_apart}
use Rattle.meta.specs.declared.HaplotypeMeta.{HaplotypeMeta}
use Rattle.dive.specs.declared.told.ToldSeveral.{ToldSeveral}
use Rattle.form.specs.Job.{job_bytes}
use Rattle.form.specs.declared.records.Edition.TheVariants.{One, Two}
use Rattle.editions.specs.Moving.{moved_over, out_after as movedAfter}
use Rattle.writer.specs.Writing.{job_from, out_after}
use Rattle.text.specs.Written.{Written}
use Rattle.companions.specs.Companions.{Companions, lent_of}
use Rattle.audit.specs.Unique.{Agree, Filled, Unique}

one : {A : Type 0} {z : A} (x y : A) → x ≡ z → y ≡ z → x ≡ y
one x y p q = p ∙ sym q

two : {A B : Type 0} {a : A} {b : B} (x y : A) (u v : B) → (u ≡ b) × (x ≡ a) → (v ≡ b) × (y ≡ a) → (x ≡ y) × (u ≡ v)
two x y u v p q = (p.1 ∙ sym q.1, p.0 ∙ sym q.0)

-- a refusal, or none, by its number
told_one : {n : ℕ} (x y : Result Unit Refusal) → told x ≡ n → told y ≡ n → x ≡ y
told_one x y p q = told_apart x y (p ∙ sym q)

told_two : {A : Type 0} {a : A} {n : ℕ} (x y : A) (u v : Result Unit Refusal) → (told u ≡ n) × (x ≡ a) → (told v ≡ n) × (y ≡ a) → (x ≡ y) × (u ≡ v)
told_two x y u v p q = (p.1 ∙ sym q.1, told_one u v p.0 q.0)

-- the slice's equation speaks of the value
through : {A B : Type 0} {b : B} (f : B → A) (x y : A) (u v : B) → (u ≡ b) × (x ≡ f u) → (v ≡ b) × (y ≡ f v) → (x ≡ y) × (u ≡ v)
through f x y u v p q =
    let e = p.0 ∙ sym q.0 in
    ((p.1 ∙ ap f e) ∙ sym q.1, e)

-- text stored from a place on
stored : {old xs : List ℕ} {at : ℕ} (x y : List ℕ) (u v : ℕ) → Written old at xs x u → Written old at xs y v → (x ≡ y) × (u ≡ v)
stored x y u v p q = (p.is ∙ sym q.is, p.next ∙ sym q.next)

-- the queue's slices, each under the condition
abbrev Kept : Bool → List ℕ → List ℕ → Type 0
Kept searching old new = searching ≡ false → new ≡ old

kept : {searching : Bool} {old x y : List ℕ} → Kept searching old x → Kept searching old y → searching ≡ false → x ≡ y
kept p q h = p h ∙ sym (q h)

agree : {A : Type 0} {a : A} {searching : Bool} {links keys rows : List ℕ}
    → Agree A searching (λ x. (x.says ≡ a) × ((x.rows ≡ rows) × (Kept searching links x.links × Kept searching keys x.keys)))
agree x y p q = (
  p.1.0 ∙ sym q.1.0,
  (p.0 ∙ sym q.0, λ h. (kept p.1.1.0 q.1.1.0 h, kept p.1.1.1 q.1.1.1 h)),
)

-- an export says a report and a number, each by an equation of its own
both : {A B R : Type 0} {a : A} {b : B} (x : A × B) → (x.1 ≡ b) × ((x.0 ≡ a) × R) → (x ≡ (a, b)) × R
both x p = let d = p.1.0 in let e = p.0 in ((λ i. (d i, e i)), p.1.1)

-- records, rows and what else is said, each by an equation of its own
recorded : {A B P R : Type 0} {a : A} {b : B} (x : A × B) → (x.1 ≡ b) × (P × ((x.0 ≡ a) × R)) → (x ≡ (a, b)) × (P × R)
recorded x p = let q = both x (p.0, p.1.1) in (q.0, (p.1.0, q.1))

-- records, reports, rows and a number
recorded_both : {A B N P R : Type 0} {a : A} {b : B} {n : N} (x : A × (B × N)) → (x.1.1 ≡ n) × (P × ((x.0 ≡ a) × ((x.1.0 ≡ b) × R))) → (x ≡ (a, (b, n))) × (P × R)
recorded_both x p =
    let q = both x.1 (p.0, p.1.1.1) in
    recorded x (q.0, (p.1.0, (p.1.1.0, q.1)))

-- the same where what is said last is a refusal, or none
told_agree : {B : Type 0} {searching : Bool} {links keys rows : List ℕ} {b : B} {n : ℕ}
    → Agree (B × Result Unit Refusal) searching (λ x. (told x.says.1 ≡ n) × ((x.rows ≡ rows) × ((x.says.0 ≡ b) × (Kept searching links x.links × Kept searching keys x.keys))))
told_agree x y p q = agree x y (recorded x.says (refl, p.1)) (recorded y.says (told_one _ _ q.0 p.0, q.1))

told_agree_both : {A B : Type 0} {searching : Bool} {links keys rows : List ℕ} {a : A} {b : B} {n : ℕ}
    → Agree (A × (B × Result Unit Refusal)) searching (λ x. (told x.says.1.1 ≡ n) × ((x.rows ≡ rows) × ((x.says.0 ≡ a)
    × ((x.says.1.0 ≡ b) × (Kept searching links x.links × Kept searching keys x.keys)))))
told_agree_both x y p q = agree x y (recorded_both x.says (refl, p.1)) (recorded_both y.says (told_one _ _ q.0 p.0, q.1))

-- three slices, each by an equation of its own
filled : {B : Type 0} {starts ends name : List ℕ} {b : B} (x y : Filled) (u v : B)
    → (u ≡ b) × ((x.starts ≡ starts) × ((x.ends ≡ ends) × (x.name ≡ name))) → (v ≡ b) × ((y.starts ≡ starts) × ((y.ends ≡ ends) × (y.name ≡ name)))
    → (x ≡ y) × (u ≡ v)
filled x y u v p q =
    let s = p.1.0 ∙ sym q.1.0 in
    let e = p.1.1.0 ∙ sym q.1.1.0 in
    let n = p.1.1.1 ∙ sym q.1.1.1 in
    ((λ i. record { starts = s i; ends = e i; name = n i }), p.0 ∙ sym q.0)

-- a table's sheet and number of rows, by an equation of the whole
removed : {starts ends : List ℕ} {c : Companions} {n : ℕ} (x y : List Bool × ℕ) (u v : ℕ)
    → (u ≡ n) × (lent_of starts ends x.0 x.1 ≡ c) → (v ≡ n) × (lent_of starts ends y.0 y.1 ≡ c) → (x ≡ y) × (u ≡ v)
removed x y u v p q = (ap (λ (c : Companions). (c.sheet, c.rows)) (p.1 ∙ sym q.1), p.0 ∙ sym q.0)

-- what several haplotypes came to, with their data
several_agree : {A B : Type 0} {searching : Bool} {links keys rows : List ℕ} {a : A} {b : B} {n : ℕ} {metas : List HaplotypeMeta}
    → Agree (A × (B × ToldSeveral)) searching (λ x. ((told x.says.1.1.found ≡ n) × (x.says.1.1.metas ≡ metas))
    × ((x.rows ≡ rows) × ((x.says.0 ≡ a) × ((x.says.1.0 ≡ b) × (Kept searching links x.links × Kept searching keys x.keys)))))
several_agree x y p q = agree x y (recorded_both x.says (refl, p.1)) (recorded_both y.says (same, q.1))
  where
    same : y.says.1.1 ≡ x.says.1.1
    same = let f = told_one _ _ q.0.0 p.0.0 in let m = q.0.1 ∙ sym p.0.1 in λ i. record { found = f i; metas = m i }

told_removed : {starts ends : List ℕ} {c : Companions} {n : ℕ} (x y : List Bool × ℕ) (u v : Result Unit Refusal)
    → (told u ≡ n) × (lent_of starts ends x.0 x.1 ≡ c) → (told v ≡ n) × (lent_of starts ends y.0 y.1 ≡ c) → (x ≡ y) × (u ≡ v)
told_removed x y u v p q = (ap (λ (c : Companions). (c.sheet, c.rows)) (p.1 ∙ sym q.1), told_one u v p.0 q.0)

pub unique : Unique
unique = record {
  sizesim = λ a b. one;
  similarity = λ d n. one;
  seqsim = λ a b minkfreq. one;
  bits_of = λ x. one;
  overlaps = λ s1 e1 s2 e2. one;
  seq_to_kmer = λ seq k negative reading out. through (λ r. row_after r (counts_by reading k negative seq) out);
  clear_row = λ row. one;
  entries = λ k. one;
  magnitude = λ x. one;
  told = λ found. one;
  row_over = λ a limit. one;
  search_mode = λ s v. one;
  settings_fault = λ s. told_one;
  queue_room = λ links keys. one;
  call_fault = λ s table parts queue_room answer_room. told_one;
  parts_fault = λ k parts. told_one;
  several_fault = λ s table part_ends feature_ends parts queue_room answer_room report_room. told_one;
  earlier = λ other own. one;
  first_in_table = λ other own. told_one;
  count_fault = λ starts ends cap. told_one;
  count_chains = λ starts ends full cap. one;
  apply_haplotype = λ s table parts links keys rows. agree;
  check_path = λ s table parts rows positions score. one;
  put_report = λ answer report. one;
  apply_haplotypes = λ s table part_ends feature_ends parts links keys rows reports. told_agree;
  numbered_fault = λ s table numbers parts queue_room answer_room record_room. told_one;
  apply_numbered = λ s table numbers parts links keys rows records x y p q. agree x y (recorded x.says p) (recorded y.says q);
  apply_numbered_haplotypes = λ s table numbers part_ends feature_ends parts links keys rows records reports. told_agree_both;
  new = λ index samples. one;
  new_blank = λ samples. one;
  combine = λ left right. one;
  or_blank = λ made. one;
  meta_of_words = λ words. one;
  words_of_meta = λ meta. one;
  combine_all = λ metas. one;
  apply_with_meta = λ s table numbers parts meta links keys rows records x y p q. agree x y (recorded x.says p) (recorded y.says q);
  apply_haplotypes_with_meta = λ s table numbers part_ends feature_ends parts metas links keys rows records reports. several_agree;
  u8_at = λ s at. one;
  u32_at = λ s at. one;
  u64_at = λ s at. one;
  i32_of = λ x. one;
  u32_of = λ z. one;
  float_of = λ n. one;
  put_u8 = λ out at x. one;
  put_u32 = λ out at x. one;
  put_u64 = λ out at x. one;
  kind_of = λ byte. one;
  body_len = λ kind. one;
  record_at = λ s at. one;
  read_settings = λ b. one;
  read_settings41 = λ b. one;
  settings_by = λ e b. one;
  settings41_fault = λ b. told_one;
  write_settings = λ out at s. one;
  write_settings41 = λ out at s. one;
  edition_of = λ s. one;
  scan = λ bytes. one;
  read_job = λ bytes t. two;
  write_job = λ s t out. through (λ r. out_after r (job_bytes One [] (job_from s t)) out);
  write_numbered_job = λ s numbers t out. through (λ r. out_after r (job_bytes Two numbers (job_from s t)) out);
  read_numbers = λ bytes numbers. two;
  move_job = λ job edition out. through (λ r. movedAfter r (moved_over job) out);
  put_bytes = λ out at src. stored;
  put_digits = λ out at n left. stored;
  put_refused = λ out at n. stored;
  put_hap = λ out at i. stored;
  put_answer = λ out at rows records a. stored;
  read_bed = λ text starts ends name. filled;
  write_bed = λ name starts ends rows text. two;
  add = λ starts ends sheet rows start end. told_two;
  remove = λ starts ends sheet rows. told_removed;
  together = λ starts ends sheet rows a b. one;
  count = λ starts ends sheet rows row. one;
  save = λ book settings. two;
  read = λ book version settings. told_two;
  restore = λ book version. two;
  answer = λ input out. two;
  nd_seq_to_kmer = λ text k negative reading row. two;
  nd_seqsim = λ a b minkfreq place. two;
  nd_sizesim = λ a b place. two;
  nd_count_chains = λ starts ends full cap count. two;
  nd_answer = λ job text. two;
  nd_apply_haplotype = λ settings starts ends sizes features numbers part_sizes part_features links keys rows records report x y p q.
      agree x y (recorded x.says (both x.says.1 p)) (recorded y.says (both y.says.1 q));
  nd_apply_haplotypes = λ settings starts ends sizes features numbers part_ends feature_ends part_sizes part_features links keys rows records reports x y p q.
      agree x y (recorded_both x.says p) (recorded_both y.says q);
  nd_read_bed = λ text starts ends name counts x y u v p q. filled x y u v (both u p) (both v q);
  nd_write_bed = λ name starts ends rows text written x y u v p q. two x y u v (both u p) (both v q);
  nd_move_job = λ job edition out written x y u v p q. two x y u v (both u p) (both v q);
  nd_companions_add = λ starts ends sheet rows start end. two;
  nd_companions_remove = λ starts ends sheet rows. removed;
  nd_companions_together = λ starts ends sheet rows a b word. two;
  nd_companions_count = λ starts ends sheet rows row count. two;
  nd_meta_new = λ index samples meta. two;
  nd_meta_blank = λ samples meta. two;
  nd_meta_combine = λ left right. two;
  nd_check_path = λ settings starts ends sizes features part_sizes part_features rows positions score word. two;
  nd_book_save = λ book settings version x y u v p q. two x y u v (both u p) (both v q);
  nd_book_read = λ book version settings. two;
  nd_book_restore = λ book version added x y u v p q. two x y u v (both u p) (both v q);
}
