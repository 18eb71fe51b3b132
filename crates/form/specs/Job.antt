-- Document 01, "Job form", and change requests P1 and P7: a job is its settings, its variants with their letters, and its haplotypes, each the list of its parts with their letters.
-- What bytes in good form hold, in either edition, and the bytes of a job in each. Record numbers stand beside the job.
use Rattle.std.specs.Prelude.{ℕ, zero, suc, ◌+◌, ◌/◌, Bool, cond, ℤ, get_or, length, take, drop, replicate, ltb, eqb, Result, Ok, Err}
use mathlib.Core.List.{List, [], ◌∷◌, ◌++◌, flatten}
use Rattle.params.specs.declared.Settings.{Settings}
use Rattle.fields.specs.Fields.{le4, le8, signed_of, bytes4, bytes8, word_of}
use Rattle.form.specs.Settings40.{settings_in, settings_bytes, flag}
use Rattle.form.specs.Settings41.{settings41_in, settings41_bytes}
use Rattle.form.specs.Form.{end_kind, settings_kind, variant_kind, part_kind, letters_kind, next_kind, settings2_kind, variant2_kind, part_len, letters_len, number_place}
use Rattle.form.specs.Form.{kind_of, is_variant, is_part, is_next, is_second, shape_of, body_len, count_of, run, outset}
use Rattle.form.specs.declared.records.Edition.{Edition}
use Rattle.form.specs.declared.records.Edition.TheVariants.{One, Two}
use Rattle.form.specs.declared.records.Kind.{Kind}
use Rattle.form.specs.declared.records.Kind.TheVariants.{Variant as VariantRecord, Part as PartRecord}
use Rattle.form.specs.declared.records.Counts.{Counts}
use Rattle.metrics.specs.declared.refusals.Refusal.{Refusal}
use Rattle.metrics.specs.Refusals.{refusal_number}

pub record Variant : Type 0 where
  pub start : ℕ
  pub end : ℕ
  pub size : ℤ
  pub negative : Bool
  pub letters : List ℕ

pub record Part : Type 0 where
  pub size : ℤ
  pub negative : Bool
  pub letters : List ℕ

pub record Job : Type 0 where
  pub settings : Settings
  pub variants : List Variant
  pub haplotypes : List (List Part)

-- the parts of all haplotypes, one behind the other
abbrev pub all_parts : Job → List Part
all_parts job = flatten job.haplotypes

-- Reading. n letters from the i-th on, of the letters records b: sixteen letters behind each kind.
unfoldable pub letters_in : List ℕ → ℕ → ℕ → List ℕ
letters_in b i zero = []
letters_in b i (suc n) = get_or b (1 + i + i / letters_len) 0 ∷ letters_in b (suc i) n

-- the letters behind a record with b from its body on
unfoldable pub letters_after : Kind → List ℕ → List ℕ
letters_after kind b = letters_in (drop (body_len kind) b) 0 (count_of kind b)

-- a variant of either edition: its fields stand where edition 1 has them
unfoldable pub variant_of : Kind → List ℕ → Variant
variant_of kind b = record {
  start = le8 b 0;
  end = le8 b 8;
  size = signed_of (le4 b 16);
  negative = eqb (get_or b (shape_of VariantRecord).flags 0) 1;
  letters = letters_after kind b;
}

unfoldable pub part_of : List ℕ → Part
part_of b = record {
  size = signed_of (le4 b 0);
  negative = eqb (get_or b (shape_of PartRecord).flags 0) 1;
  letters = letters_after PartRecord b;
}

-- what a whole record adds to the variants, and to the parts
unfoldable pub variant_here : Kind → List ℕ → List Variant
variant_here kind b = cond (is_variant kind) (cond (ltb (length b) (body_len kind)) [] (variant_of kind b ∷ [])) []

unfoldable pub part_here : Kind → List ℕ → List Part
part_here kind b = cond (is_part kind) (cond (ltb (length b) part_len) [] (part_of b ∷ [])) []

-- what the records of a form add, front to back; the first n bytes belong to a record that was read already
unfoldable pub gather : {A : Type 0} → (Kind → List ℕ → List A) → List ℕ → ℕ → List A
gather here [] n = []
gather here (k ∷ b) (suc n) = gather here b n
gather here (k ∷ b) zero = here (kind_of k) b ++ gather here b (body_len (kind_of k))

-- parts before those of the first haplotype
unfoldable pub to_first : List Part → List (List Part) → List (List Part)
to_first xs [] = xs ∷ []
to_first xs (first ∷ rest) = (xs ++ first) ∷ rest

-- what a record makes of the haplotypes behind it
unfoldable pub haplotypes_here : Kind → List ℕ → List (List Part) → List (List Part)
haplotypes_here kind b rest = cond (is_next kind) ([] ∷ rest) (to_first (part_here kind b) rest)

-- the haplotypes that the records of a form make, the last of no parts at first; the first n bytes belong to a record that was read already
unfoldable pub haplotypes_in : List ℕ → ℕ → List (List Part)
haplotypes_in [] n = [] ∷ []
haplotypes_in (k ∷ b) (suc n) = haplotypes_in b n
haplotypes_in (k ∷ b) zero = haplotypes_here (kind_of k) b (haplotypes_in b (body_len (kind_of k)))

-- the first record decides the edition
abbrev pub edition_of : List ℕ → Edition
edition_of s = cond (is_second (kind_of (get_or s 0 0))) Two One

unfoldable pub settings_by : Edition → List ℕ → Settings
settings_by One b = settings_in b
settings_by Two b = settings41_in b

unfoldable pub job_of : List ℕ → Job
job_of s = record { settings = settings_by (edition_of s) (drop 1 s); variants = gather variant_here s 0; haplotypes = haplotypes_in s 0 }

-- the record number of a variant of edition 2
unfoldable pub number_here : Kind → List ℕ → List ℕ
number_here kind b = cond (is_variant kind) (cond (is_second kind) (cond (ltb (length b) (body_len kind)) [] (le4 b number_place ∷ [])) []) []

-- the numbers from 0 up to and without n
unfoldable pub row_numbers : ℕ → List ℕ
row_numbers zero = []
row_numbers (suc n) = row_numbers n ++ (n ∷ [])

-- the record numbers of the variants; edition 1 has none of its own, and they are the row numbers
unfoldable pub numbers_by : Edition → List ℕ → List ℕ
numbers_by One s = row_numbers (length (gather variant_here s 0))
numbers_by Two s = gather number_here s 0

abbrev pub numbers_of : List ℕ → List ℕ
numbers_of s = numbers_by (edition_of s) s

-- the number of the first fault, or the job
pub data Read : Type 0 where
  Faulty : ℕ → Read
  Held : Job → Read

abbrev pub read_of : Result Counts Refusal → Job → Read
read_of (Err refusal) job = Faulty (refusal_number refusal)
read_of (Ok c) job = Held job

unfoldable pub read_job : List ℕ → Read
read_job s = read_of (run s 0 outset) (job_of s)

-- Writing. A letters record's body: the next sixteen letters, with zeros where there are fewer.
unfoldable pub padded : List ℕ → List ℕ
padded l = take letters_len (l ++ replicate letters_len 0)

-- n letters records
unfoldable pub letters_records : ℕ → List ℕ → List ℕ
letters_records zero l = []
letters_records (suc n) l = letters_kind ∷ (padded l ++ letters_records n (drop letters_len l))

-- just enough of them
abbrev pub records_for : ℕ → ℕ
records_for n = (n + 15) / letters_len

unfoldable pub sequence_bytes : List ℕ → List ℕ
sequence_bytes l = letters_records (records_for (length l)) l

-- size, negative and letter count: how a part's record and a variant's end
unfoldable pub part_body : ℤ → Bool → ℕ → List ℕ
part_body size negative count = bytes4 (word_of size) ++ (flag negative ∷ bytes4 count)

unfoldable pub variant_body : ℕ → ℕ → ℤ → Bool → ℕ → List ℕ
variant_body first last size negative count = bytes8 first ++ (bytes8 last ++ part_body size negative count)

-- the record of settings, and of a variant with its record number, which edition 1 has no place for
unfoldable pub settings_record : Edition → Settings → List ℕ
settings_record One s = settings_kind ∷ settings_bytes s
settings_record Two s = settings2_kind ∷ settings41_bytes s

unfoldable pub variant_record : Edition → ℕ → ℕ → ℕ → ℤ → Bool → ℕ → List ℕ
variant_record One number first last size negative count = variant_kind ∷ variant_body first last size negative count
variant_record Two number first last size negative count = variant2_kind ∷ (variant_body first last size negative count ++ bytes4 number)

unfoldable pub variant_bytes : Edition → ℕ → Variant → List ℕ
variant_bytes e number x = variant_record e number x.start x.end x.size x.negative (length x.letters) ++ sequence_bytes x.letters

unfoldable pub part_bytes : Part → List ℕ
part_bytes x = part_kind ∷ (part_body x.size x.negative (length x.letters) ++ sequence_bytes x.letters)

-- each variant with the record number in its place
unfoldable pub variants_bytes : Edition → List ℕ → List Variant → List ℕ
variants_bytes e numbers [] = []
variants_bytes e numbers (x ∷ xs) = variant_bytes e (get_or numbers 0 0) x ++ variants_bytes e (drop 1 numbers) xs

unfoldable pub parts_bytes : List Part → List ℕ
parts_bytes [] = []
parts_bytes (x ∷ xs) = part_bytes x ++ parts_bytes xs

-- each further haplotype begins with a record of its own
unfoldable pub further_bytes : List (List Part) → List ℕ
further_bytes [] = []
further_bytes (xs ∷ rest) = next_kind ∷ (parts_bytes xs ++ further_bytes rest)

unfoldable pub haplotypes_bytes : List (List Part) → List ℕ
haplotypes_bytes [] = []
haplotypes_bytes (first ∷ rest) = parts_bytes first ++ further_bytes rest

unfoldable pub job_bytes : Edition → List ℕ → Job → List ℕ
job_bytes e numbers job =
    settings_record e job.settings ++ (variants_bytes e numbers job.variants ++ (haplotypes_bytes job.haplotypes ++ (end_kind ∷ [])))
