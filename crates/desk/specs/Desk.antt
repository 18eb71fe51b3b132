-- Document 01, "Job form and program", and document 02, P1, P3 and P7: the text that the program prints for the bytes that it is given.
use Rattle.std.specs.Prelude.{ℕ, suc, Bool, false, ◌||◌, cond, List, [], ◌∷◌, ◌++◌, map, ltb, eqb, ℤ, length}
use Rattle.metrics.specs.Letters.{counts_by}
use Rattle.params.specs.Numbers.{Table, Parts, Call, table_of, parts_of, call_of}
use Rattle.params.specs.declared.Settings.{Settings}
use Rattle.dive.specs.Numbered.{Numbered, numbered_fault, numbered_answer, numbered_rows, records_of}
use Rattle.form.specs.Job.{Variant, Part, Job, Read, Faulty, Held, read_job, numbers_of}
use Rattle.text.specs.Text.{refused_text, hap_text, answer_text}

-- the feature rows of the variants one behind the other, and of the parts, by a reading
unfoldable pub variant_features : ℕ → ℕ → List Variant → List ℤ
variant_features reading k [] = []
variant_features reading k (x ∷ xs) = counts_by reading k x.negative x.letters ++ variant_features reading k xs

unfoldable pub part_features : ℕ → ℕ → List Part → List ℤ
part_features reading k [] = []
part_features reading k (x ∷ xs) = counts_by reading k x.negative x.letters ++ part_features reading k xs

unfoldable pub table_of_job : Job → Table
table_of_job job = table_of
    (map (λ (x : Variant). x.start) job.variants)
    (map (λ (x : Variant). x.end) job.variants)
    (map (λ (x : Variant). x.size) job.variants)
    (variant_features job.settings.letters job.settings.k job.variants)

unfoldable pub parts_of_haplotype : ℕ → ℕ → List Part → Parts
parts_of_haplotype reading k parts = parts_of (map (λ (x : Part). x.size) parts) (part_features reading k parts)

-- some haplotype has over 8 parts
unfoldable pub many_parts : List (List Part) → Bool
many_parts [] = false
many_parts (parts ∷ haplotypes) = ltb 8 (length parts) || many_parts haplotypes

-- over 16 variants, over 8 parts in a haplotype, k over 4 or maxpaths over 63
unfoldable pub too_large : Job → Bool
too_large job =
    ltb 16 (length job.variants) || (many_parts job.haplotypes || (ltb 4 job.settings.k || ltb 63 job.settings.maxpaths))

-- document 02, P3: the variants' record numbers; there is room for 16 records
abbrev pub numbered_with : List ℕ → Call → Numbered
numbered_with numbers c = record { call = c; numbers = numbers; record_room = 16 }

-- what is asked for one haplotype: the search has room for 1,025 queue entries and 16 rows
abbrev pub asked_of : Settings → Table → List ℕ → Parts → Numbered
asked_of s t numbers p = numbered_with numbers (call_of s t p 1025 16)

-- one haplotype's lines, those of a job of its own
unfoldable pub haplotype_text : Settings → Table → List ℕ → Parts → List ℕ
haplotype_text s t numbers p = let n = asked_of s t numbers p in answer_text (numbered_answer n) (numbered_rows n) (records_of n)

-- document 02, P1: settings, table and room refuse a whole job of several; they refuse it without parts
unfoldable pub whole_fault : Settings → Table → List ℕ → ℕ
whole_fault s t numbers = numbered_fault (asked_of s t numbers (parts_of [] []))

-- each block of lines follows a line `hap` and its number, from i on
unfoldable pub blocks_text : Settings → Table → List ℕ → ℕ → List Parts → List ℕ
blocks_text s t numbers i [] = []
blocks_text s t numbers i (p ∷ ps) = hap_text i ++ (haplotype_text s t numbers p ++ blocks_text s t numbers (suc i) ps)

-- one haplotype keeps document 01's lines; a job has at least one
unfoldable pub haplotypes_text : Settings → Table → List ℕ → List Parts → List ℕ
haplotypes_text s t numbers [] = []
haplotypes_text s t numbers (p ∷ []) = haplotype_text s t numbers p
haplotypes_text s t numbers (p ∷ (q ∷ ps)) =
    cond (eqb (whole_fault s t numbers) 0) (blocks_text s t numbers 0 (p ∷ (q ∷ ps))) (refused_text (whole_fault s t numbers))

unfoldable pub job_text : List ℕ → Job → List ℕ
job_text numbers job =
    haplotypes_text job.settings (table_of_job job) numbers (map (parts_of_haplotype job.settings.letters job.settings.k) job.haplotypes)

unfoldable pub read_text : List ℕ → Read → List ℕ
read_text numbers (Faulty n) = refused_text n
read_text numbers (Held job) = cond (too_large job) (refused_text 26) (job_text numbers job)

-- document 02, P7: either edition; the record numbers of edition 1 are the row numbers
unfoldable pub desk_text : List ℕ → List ℕ
desk_text input = cond (ltb 32768 (length input)) (refused_text 26) (read_text (numbers_of input) (read_job input))
