-- Document 01, "No empty promises": two results that meet a public function's promise coincide, the value and what each lent slice holds at exit.
-- A field for each function, named as it is; the promise is the very predicate that the function's `ensures` cites (specs/Promises of its crate).
-- The queue's slices after a search are the one exception (docs/PROMISES.md): of them only what stands there where no search runs is promised.
use Rattle.std.specs.Prelude.{ℕ, ◌≡◌, Bool, false, List, ℤ, Float, Result}
use Rattle.metrics.specs.declared.refusals.Refusal.{Refusal}
use Rattle.metrics.specs.Promises.{SizesimPromise, SimilarityPromise, SeqsimPromise, OverlapsPromise, BitsOfPromise, ToldPromise}
use Rattle.metrics.specs.Promises.{SeqToKmerPromise, ClearRowPromise, EntriesPromise, MagnitudePromise, RowOverPromise}
use Rattle.params.specs.declared.Settings.{Settings}
use Rattle.params.specs.declared.Table.{Table}
use Rattle.params.specs.declared.Parts.{Parts}
use Rattle.params.specs.Promises.{SearchModePromise, SettingsFaultPromise, QueueRoomPromise, CallFaultPromise, PartsFaultPromise, CountFaultPromise, SeveralFaultPromise, EarlierPromise}
use Rattle.params.specs.Promises.{FirstInTablePromise}
use Rattle.kplib.specs.Answer.{searches}
use Rattle.kplib.specs.declared.traverse.Answer.{Answer}
use Rattle.kplib.specs.Haplotypes.{several_searches}
use Rattle.kplib.specs.Promises.{call_lent, several_lent, CountChainsPromise, ApplyHaplotypePromise, PutReportPromise, ApplyHaplotypesPromise, CheckPathPromise}
use Rattle.dive.specs.Numbered.{numbered_searches}
use Rattle.dive.specs.NumberedSeveral.{numbered_several_searches}
use Rattle.dive.specs.Promises.{numbered_lent, numbered_several_lent, NumberedFaultPromise, ApplyNumberedPromise, ApplyNumberedHaplotypesPromise}
use Rattle.dive.specs.Promises.{ApplyWithMetaPromise, ApplyHaplotypesWithMetaPromise}
use Rattle.dive.specs.declared.told.Told.{Told}
use Rattle.dive.specs.declared.told.ToldSeveral.{ToldSeveral}
use Rattle.meta.specs.declared.HaplotypeMeta.{HaplotypeMeta}
use Rattle.meta.specs.declared.NotMade.{NotMade}
use Rattle.meta.specs.declared.NotCombined.{NotCombined}
use Rattle.meta.specs.declared.Combined.{Combined}
use Rattle.meta.specs.Promises.{NewPromise, NewBlankPromise, CombinePromise, OrBlankPromise, MetaOfWordsPromise, WordsOfMetaPromise, CombineAllPromise}
use Rattle.form.specs.declared.records.Edition.{Edition}
use Rattle.form.specs.declared.records.Kind.{Kind}
use Rattle.form.specs.declared.records.Record.{Record}
use Rattle.form.specs.declared.records.Counts.{Counts}
use Rattle.editions.specs.Promises.{MoveJobPromise}
use Rattle.form.specs.Lent.{Lent}
use Rattle.fields.specs.Promises.{U8AtPromise, U32AtPromise, U64AtPromise, I32OfPromise, U32OfPromise, FloatOfPromise, PutU8Promise, PutU32Promise, PutU64Promise}
use Rattle.form.specs.Promises.{ScanPromise, KindOfPromise, BodyLenPromise, RecordAtPromise, ReadSettingsPromise, ReadSettings41Promise, Settings41FaultPromise, WriteSettingsPromise}
use Rattle.form.specs.Promises.{EditionOfPromise, SettingsByPromise, WriteSettings41Promise}
use Rattle.reader.specs.Promises.{ReadJobPromise, ReadNumbersPromise}
use Rattle.writer.specs.Promises.{WriteJobPromise, WriteNumberedJobPromise}
use Rattle.text.specs.Promises.{PutBytesPromise, PutDigitsPromise, PutRefusedPromise, PutHapPromise, PutAnswerPromise}
use Rattle.bed.specs.declared.Counts as BedCounts
use Rattle.bed.specs.Promises.{ReadBedPromise, WriteBedPromise}
use Rattle.companions.specs.Companions.{Companions}
use Rattle.companions.specs.Promises.{AddPromise, RemovePromise, TogetherPromise, CountPromise}
use Rattle.book.specs.Promises.{SavePromise, ReadPromise, RestorePromise}
use Rattle.desk.specs.Promises.{AnswerPromise}
use Rattle.capi.specs.Words.{settings_of_words}
use Rattle.capi.specs.Promises.{NdSeqToKmerPromise, NdSeqsimPromise, NdSizesimPromise, NdCountChainsPromise, NdAnswerPromise, NdApplyHaplotypePromise, NdApplyHaplotypesPromise}
use Rattle.capi.specs.Promises.{numbered_call, numbered_several_call, NdReadBedPromise, NdWriteBedPromise, NdCheckPathPromise}
use Rattle.capi.specs.Promises.{NdCompanionsAddPromise, NdCompanionsRemovePromise, NdCompanionsTogetherPromise, NdCompanionsCountPromise}
use Rattle.capi.specs.Promises.{NdMetaNewPromise, NdMetaBlankPromise, NdMetaCombinePromise}
use Rattle.capi.specs.Promises.{NdBookSavePromise, NdBookReadPromise, NdBookRestorePromise, NdMoveJobPromise}

-- at most one result meets a promise of a value, and at most one pair a promise of what a slice holds at exit and a value
abbrev pub One : (A : Type 0) → (A → Type 0) → Type 0
One A promise = (x y : A) → promise x → promise y → x ≡ y

abbrev pub Two : (A B : Type 0) → (A → B → Type 0) → Type 0
Two A B promise = (x y : A) (u v : B) → promise x u → promise y v → (x ≡ y) × (u ≡ v)

-- the ten slices of a job, lent by what they hold
abbrev pub ReadsInto : List ℕ → Lent → Lent → Result (Settings × Counts) Refusal → Type 0
ReadsInto bytes t u r =
    ReadJobPromise bytes t.starts t.ends t.sizes t.negatives t.counts t.part_sizes t.part_negatives t.part_counts t.breaks t.letters
    u.starts u.ends u.sizes u.negatives u.counts u.part_sizes u.part_negatives u.part_counts u.breaks u.letters r

-- what a search leaves: the queue's two slices, the rows, and what it says (with record numbers, the records and the answer)
pub record Left (A : Type 0) : Type 0 where
  pub links : List ℕ
  pub keys : List ℕ
  pub rows : List ℕ
  pub says : A

-- two that meet a promise agree in rows and in what they say; and in the queue's slices where no search runs
abbrev pub Agree : (A : Type 0) → Bool → (Left A → Type 0) → Type 0
Agree A searching promise = (x y : Left A) → promise x → promise y → (x.rows ≡ y.rows)
    × ((x.says ≡ y.says)
    × ((searching ≡ false) → (x.links ≡ y.links) × (x.keys ≡ y.keys)))

-- what a BED text is read into
pub record Filled : Type 0 where
  pub starts : List ℕ
  pub ends : List ℕ
  pub name : List ℕ

pub record Unique : Type 0 where
  pub sizesim : (a b : ℕ) → One (Result Float Refusal) (SizesimPromise a b)
  pub similarity : (d n : ℕ) → One Float (SimilarityPromise d n)
  pub seqsim : (a b : List ℤ) (minkfreq : ℕ) → One (Result Float Refusal) (SeqsimPromise a b minkfreq)
  pub bits_of : (x : Float) → One ℕ (BitsOfPromise x)
  pub overlaps : (s1 e1 s2 e2 : ℕ) → One Bool (OverlapsPromise s1 e1 s2 e2)
  pub seq_to_kmer : (seq : List ℕ) (k : ℕ) (negative : Bool) (reading : ℕ) (out : List ℤ) → Two (List ℤ) (Result Unit Refusal) (SeqToKmerPromise seq k negative reading out)
  pub clear_row : (row : List ℤ) → One (List ℤ) (ClearRowPromise row)
  pub entries : (k : ℕ) → One ℕ (EntriesPromise k)
  pub magnitude : (x : ℤ) → One ℕ (MagnitudePromise x)
  pub told : (found : Result Unit Refusal) → One ℕ (ToldPromise found)
  pub row_over : (a : List ℤ) (limit : ℕ) → One Bool (RowOverPromise a limit)
  pub search_mode : (s : Settings) (v : ℕ) → One Bool (SearchModePromise s v)
  pub settings_fault : (s : Settings) → One (Result Unit Refusal) (SettingsFaultPromise s)
  pub queue_room : (links keys : ℕ) → One ℕ (QueueRoomPromise links keys)
  pub call_fault : (s : Settings) (table : Table) (parts : Parts) (queue_room answer_room : ℕ) → One (Result Unit Refusal) (CallFaultPromise s table parts queue_room answer_room)
  pub parts_fault : (k : ℕ) (parts : Parts) → One (Result Unit Refusal) (PartsFaultPromise k parts)
  pub several_fault : (s : Settings) (table : Table) (part_ends feature_ends : List ℕ) (parts : Parts) (queue_room answer_room report_room : ℕ)
      → One (Result Unit Refusal) (SeveralFaultPromise s table part_ends feature_ends parts queue_room answer_room report_room)
  pub earlier : (other own : ℕ) → One ℕ (EarlierPromise other own)
  pub first_in_table : (other own : Result Unit Refusal) → One (Result Unit Refusal) (FirstInTablePromise other own)
  pub count_fault : (starts ends : List ℕ) (cap : ℕ) → One (Result Unit Refusal) (CountFaultPromise starts ends cap)
  pub count_chains : (starts ends : List ℕ) (full : Bool) (cap : ℕ) → One (Result ℕ Refusal) (CountChainsPromise starts ends full cap)
  pub apply_haplotype : (s : Settings) (table : Table) (parts : Parts) (links keys rows : List ℕ)
      → Agree Answer (searches (call_lent s table parts links keys rows))
      (λ x. ApplyHaplotypePromise s table parts links keys rows x.links x.keys x.rows x.says)
  pub check_path : (s : Settings) (table : Table) (parts : Parts) (rows positions : List ℕ) (score : Float)
      → One (Result Bool Refusal) (CheckPathPromise s table parts rows positions score)
  pub put_report : (answer : Answer) (report : List ℕ) → One (List ℕ) (PutReportPromise answer report)
  pub apply_haplotypes : (s : Settings) (table : Table) (part_ends feature_ends : List ℕ) (parts : Parts) (links keys rows reports : List ℕ)
      → Agree (List ℕ × Result Unit Refusal) (several_searches (several_lent s table part_ends feature_ends parts links keys rows reports))
      (λ x. ApplyHaplotypesPromise s table part_ends feature_ends parts links keys rows reports
      x.links x.keys x.rows x.says.0 x.says.1)
  pub numbered_fault : (s : Settings) (table : Table) (numbers : List ℕ) (parts : Parts) (queue_room answer_room record_room : ℕ)
      → One (Result Unit Refusal) (NumberedFaultPromise s table numbers parts queue_room answer_room record_room)
  pub apply_numbered : (s : Settings) (table : Table) (numbers : List ℕ) (parts : Parts) (links keys rows records : List ℕ)
      → Agree (List ℕ × Answer) (numbered_searches (numbered_lent s table numbers parts links keys rows records))
      (λ x. ApplyNumberedPromise s table numbers parts links keys rows records
      x.links x.keys x.rows x.says.0 x.says.1)
  pub apply_numbered_haplotypes : (s : Settings) (table : Table) (numbers part_ends feature_ends : List ℕ) (parts : Parts)
      (links keys rows records reports : List ℕ)
      → Agree (List ℕ × (List ℕ × Result Unit Refusal)) (numbered_several_searches
      (numbered_several_lent s table numbers part_ends feature_ends parts links keys rows records reports))
      (λ x. ApplyNumberedHaplotypesPromise s table numbers part_ends feature_ends parts links keys rows records reports
      x.links x.keys x.rows x.says.0 x.says.1.0 x.says.1.1)
  pub new : (index samples : ℕ) → One (Result HaplotypeMeta NotMade) (NewPromise index samples)
  pub new_blank : (samples : ℕ) → One (Result HaplotypeMeta NotMade) (NewBlankPromise samples)
  pub combine : (left right : HaplotypeMeta) → One (Result Combined NotCombined) (CombinePromise left right)
  pub or_blank : (made : Result HaplotypeMeta Refusal) → One HaplotypeMeta (OrBlankPromise made)
  pub meta_of_words : (words : List ℕ) → One HaplotypeMeta (MetaOfWordsPromise words)
  pub words_of_meta : (meta : HaplotypeMeta) → One (List ℕ) (WordsOfMetaPromise meta)
  pub combine_all : (metas : List ℕ) → One (Result HaplotypeMeta NotMade) (CombineAllPromise metas)
  pub apply_with_meta : (s : Settings) (table : Table) (numbers : List ℕ) (parts : Parts) (meta : HaplotypeMeta)
      (links keys rows records : List ℕ)
      → Agree (List ℕ × Told) (numbered_searches (numbered_lent s table numbers parts links keys rows records))
      (λ x. ApplyWithMetaPromise s table numbers parts meta links keys rows records
      x.links x.keys x.rows x.says.0 x.says.1)
  pub apply_haplotypes_with_meta : (s : Settings) (table : Table) (numbers part_ends feature_ends : List ℕ) (parts : Parts)
      (metas : List HaplotypeMeta) (links keys rows records reports : List ℕ)
      → Agree (List ℕ × (List ℕ × ToldSeveral)) (numbered_several_searches
      (numbered_several_lent s table numbers part_ends feature_ends parts links keys rows records reports))
      (λ x. ApplyHaplotypesWithMetaPromise s table numbers part_ends feature_ends parts metas links keys rows records reports
      x.links x.keys x.rows x.says.0 x.says.1.0 x.says.1.1)
  pub u8_at : (s : List ℕ) (at : ℕ) → One ℕ (U8AtPromise s at)
  pub u32_at : (s : List ℕ) (at : ℕ) → One ℕ (U32AtPromise s at)
  pub u64_at : (s : List ℕ) (at : ℕ) → One ℕ (U64AtPromise s at)
  pub i32_of : (x : ℕ) → One ℤ (I32OfPromise x)
  pub u32_of : (z : ℤ) → One ℕ (U32OfPromise z)
  pub float_of : (n : ℕ) → One Float (FloatOfPromise n)
  pub put_u8 : (out : List ℕ) (at x : ℕ) → One (List ℕ) (PutU8Promise out at x)
  pub put_u32 : (out : List ℕ) (at x : ℕ) → One (List ℕ) (PutU32Promise out at x)
  pub put_u64 : (out : List ℕ) (at x : ℕ) → One (List ℕ) (PutU64Promise out at x)
  pub kind_of : (byte : ℕ) → One Kind (KindOfPromise byte)
  pub body_len : (kind : Kind) → One ℕ (BodyLenPromise kind)
  pub record_at : (s : List ℕ) (at : ℕ) → One Record (RecordAtPromise s at)
  pub read_settings : (b : List ℕ) → One Settings (ReadSettingsPromise b)
  pub read_settings41 : (b : List ℕ) → One Settings (ReadSettings41Promise b)
  pub settings_by : (e : Edition) (b : List ℕ) → One Settings (SettingsByPromise e b)
  pub settings41_fault : (b : List ℕ) → One (Result Unit Refusal) (Settings41FaultPromise b)
  pub write_settings : (out : List ℕ) (at : ℕ) (s : Settings) → One (List ℕ) (WriteSettingsPromise out at s)
  pub write_settings41 : (out : List ℕ) (at : ℕ) (s : Settings) → One (List ℕ) (WriteSettings41Promise out at s)
  pub edition_of : (s : List ℕ) → One Edition (EditionOfPromise s)
  pub scan : (bytes : List ℕ) → One (Result Counts Refusal) (ScanPromise bytes)
  pub read_job : (bytes : List ℕ) (t : Lent) → Two Lent (Result (Settings × Counts) Refusal) (ReadsInto bytes t)
  pub write_job : (s : Settings) (t : Lent) (out : List ℕ)
      → Two (List ℕ) (Result ℕ Refusal) (WriteJobPromise s t.starts t.ends t.sizes t.negatives t.counts t.part_sizes t.part_negatives t.part_counts t.breaks t.letters out)
  pub write_numbered_job : (s : Settings) (numbers : List ℕ) (t : Lent) (out : List ℕ)
      → Two (List ℕ) (Result ℕ Refusal) (WriteNumberedJobPromise s numbers t.starts t.ends t.sizes t.negatives t.counts
      t.part_sizes t.part_negatives t.part_counts t.breaks t.letters out)
  pub read_numbers : (bytes numbers : List ℕ) → Two (List ℕ) (Result ℕ Refusal) (ReadNumbersPromise bytes numbers)
  pub move_job : (job : List ℕ) (edition : ℕ) (out : List ℕ) → Two (List ℕ) (Result ℕ Refusal) (MoveJobPromise job edition out)
  pub put_bytes : (out : List ℕ) (at : ℕ) (src : List ℕ) → Two (List ℕ) ℕ (PutBytesPromise out at src)
  pub put_digits : (out : List ℕ) (at n left : ℕ) → Two (List ℕ) ℕ (PutDigitsPromise out at n left)
  pub put_refused : (out : List ℕ) (at n : ℕ) → Two (List ℕ) ℕ (PutRefusedPromise out at n)
  pub put_hap : (out : List ℕ) (at i : ℕ) → Two (List ℕ) ℕ (PutHapPromise out at i)
  pub put_answer : (out : List ℕ) (at : ℕ) (rows records : List ℕ) (a : Answer) → Two (List ℕ) ℕ (PutAnswerPromise out at rows records a)
  pub read_bed : (text starts ends name : List ℕ) → Two Filled (Result BedCounts.Counts Refusal) (λ x. ReadBedPromise text starts ends name x.starts x.ends x.name)
  pub write_bed : (name starts ends rows text : List ℕ) → Two (List ℕ) (Result ℕ Refusal) (WriteBedPromise name starts ends rows text)
  pub add : (starts ends : List ℕ) (sheet : List Bool) (rows start end : ℕ)
      → Two Companions (Result Unit Refusal) (λ x. AddPromise starts ends sheet rows start end x.starts x.ends x.sheet x.rows)
  pub remove : (starts ends : List ℕ) (sheet : List Bool) (rows : ℕ) → Two (List Bool × ℕ) (Result Unit Refusal) (λ x. RemovePromise starts ends sheet rows x.0 x.1)
  pub together : (starts ends : List ℕ) (sheet : List Bool) (rows a b : ℕ) → One (Result Bool Refusal) (TogetherPromise starts ends sheet rows a b)
  pub count : (starts ends : List ℕ) (sheet : List Bool) (rows row : ℕ) → One (Result ℕ Refusal) (CountPromise starts ends sheet rows row)
  pub save : (book settings : List ℕ) → Two (List ℕ) (Result ℕ Refusal) (SavePromise book settings)
  pub read : (book : List ℕ) (version : ℕ) (settings : List ℕ) → Two (List ℕ) (Result Unit Refusal) (ReadPromise book version settings)
  pub restore : (book : List ℕ) (version : ℕ) → Two (List ℕ) (Result ℕ Refusal) (RestorePromise book version)
  pub answer : (input out : List ℕ) → Two (List ℕ) ℕ (AnswerPromise input out)
  pub nd_seq_to_kmer : (text : List ℕ) (k : ℕ) (negative : Bool) (reading : ℕ) (row : List ℤ) → Two (List ℤ) ℕ (NdSeqToKmerPromise text k negative reading row)
  pub nd_seqsim : (a b : List ℤ) (minkfreq : ℕ) (place : Float) → Two Float ℕ (NdSeqsimPromise a b minkfreq place)
  pub nd_sizesim : (a b : ℕ) (place : Float) → Two Float ℕ (NdSizesimPromise a b place)
  pub nd_count_chains : (starts ends : List ℕ) (full : Bool) (cap count : ℕ) → Two ℕ ℕ (NdCountChainsPromise starts ends full cap count)
  pub nd_answer : (job text : List ℕ) → Two (List ℕ) ℕ (NdAnswerPromise job text)
  pub nd_apply_haplotype : (settings starts ends : List ℕ) (sizes features : List ℤ) (numbers : List ℕ) (part_sizes part_features : List ℤ) (links keys rows records report : List ℕ)
      → Agree (List ℕ × (List ℕ × ℕ)) (numbered_searches (numbered_call (settings_of_words settings) starts ends sizes features numbers part_sizes part_features links keys rows records))
      (λ x. NdApplyHaplotypePromise settings starts ends sizes features numbers part_sizes part_features links keys rows records report
      x.links x.keys x.rows x.says.0 x.says.1.0 x.says.1.1)
  pub nd_apply_haplotypes : (settings starts ends : List ℕ) (sizes features : List ℤ) (numbers part_ends feature_ends : List ℕ) (part_sizes part_features : List ℤ)
      (links keys rows records reports : List ℕ)
      → Agree (List ℕ × (List ℕ × ℕ)) (numbered_several_searches
      (numbered_several_call (settings_of_words settings) starts ends sizes features numbers part_ends feature_ends part_sizes part_features links keys rows records reports))
      (λ x. NdApplyHaplotypesPromise settings starts ends sizes features numbers part_ends feature_ends part_sizes part_features links keys rows records reports
      x.links x.keys x.rows x.says.0 x.says.1.0 x.says.1.1)
  pub nd_read_bed : (text starts ends name counts : List ℕ) → Two Filled (List ℕ × ℕ)
      (λ x u. NdReadBedPromise text starts ends name counts x.starts x.ends x.name u.0 u.1)
  pub nd_write_bed : (name starts ends rows text : List ℕ) (written : ℕ) → Two (List ℕ) (ℕ × ℕ)
      (λ x u. NdWriteBedPromise name starts ends rows text written x u.0 u.1)
  pub nd_move_job : (job : List ℕ) (edition : ℕ) (out : List ℕ) (written : ℕ) → Two (List ℕ) (ℕ × ℕ) (λ x u. NdMoveJobPromise job edition out written x u.0 u.1)
  pub nd_companions_add : (starts ends : List ℕ) (sheet : List Bool) (rows start end : ℕ)
      → Two Companions ℕ (λ x. NdCompanionsAddPromise starts ends sheet rows start end x.starts x.ends x.sheet x.rows)
  pub nd_companions_remove : (starts ends : List ℕ) (sheet : List Bool) (rows : ℕ) → Two (List Bool × ℕ) ℕ (λ x. NdCompanionsRemovePromise starts ends sheet rows x.0 x.1)
  pub nd_companions_together : (starts ends : List ℕ) (sheet : List Bool) (rows a b word : ℕ) → Two ℕ ℕ (NdCompanionsTogetherPromise starts ends sheet rows a b word)
  pub nd_companions_count : (starts ends : List ℕ) (sheet : List Bool) (rows row count : ℕ) → Two ℕ ℕ (NdCompanionsCountPromise starts ends sheet rows row count)
  pub nd_meta_new : (index samples : ℕ) (meta : List ℕ) → Two (List ℕ) ℕ (NdMetaNewPromise index samples meta)
  pub nd_meta_blank : (samples : ℕ) (meta : List ℕ) → Two (List ℕ) ℕ (NdMetaBlankPromise samples meta)
  pub nd_meta_combine : (left right : List ℕ) → Two (List ℕ) ℕ (NdMetaCombinePromise left right)
  pub nd_check_path : (settings starts ends : List ℕ) (sizes features part_sizes part_features : List ℤ) (rows positions : List ℕ) (score : Float) (word : ℕ)
      → Two ℕ ℕ (NdCheckPathPromise settings starts ends sizes features part_sizes part_features rows positions score word)
  pub nd_book_save : (book settings : List ℕ) (version : ℕ) → Two (List ℕ) (ℕ × ℕ) (λ x u. NdBookSavePromise book settings version x u.0 u.1)
  pub nd_book_read : (book : List ℕ) (version : ℕ) (settings : List ℕ) → Two (List ℕ) ℕ (NdBookReadPromise book version settings)
  pub nd_book_restore : (book : List ℕ) (version added : ℕ) → Two (List ℕ) (ℕ × ℕ) (λ x u. NdBookRestorePromise book version added x u.0 u.1)
