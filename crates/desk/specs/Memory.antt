-- What the program's memory holds between reading a job and searching. No public promise cites this file.
use Rattle.std.specs.Prelude.{ℕ, ◌+◌, ◌-◌, ◌*◌, ◌^◌, ◌≤◌, ◌≡◌, Bool, false, cond, ◌||◌, List, [], ◌∷◌, ◌++◌, ltb, eqb, length, take, drop, replicate, Result, Ok, Err}
use Rattle.metrics.specs.declared.refusals.Refusal.{Refusal}
use Rattle.metrics.specs.Refusals.{refusal_number}
use Rattle.params.specs.declared.Settings.{Settings}
use Rattle.params.specs.Numbers.{Table, Parts, table_of, parts_of}
use Rattle.form.specs.declared.records.Counts.{Counts}
use Rattle.reader.specs.Reading.{numbers_after}
use Rattle.form.specs.Job.{read_job, numbers_of}
use Rattle.form.specs.Lent.{Lent, lent}
use Rattle.form.specs.Lent.{sum}
use Rattle.text.specs.Text.{refused_text, hap_text}
use Rattle.text.specs.Written.{Written}
use Rattle.desk.specs.Desk.{haplotype_text, haplotypes_text}
use Rattle.desk.specs.Rows.{rows_from}
use Rattle.desk.specs.declared.memory.Lists.{Lists}

-- a text stored from a place on, and of at most so many bytes
pub record Printed (most : ℕ) (old : List ℕ) (at : ℕ) (text new : List ℕ) (r : ℕ) : Type 0 where
  pub written : Written old at text new r
  pub short : length text ≤ most

-- of one haplotype: 16 rows, 16 records, six more lines; the same with its `hap` line; of 16 haplotypes
abbrev pub most_of_one : ℕ
most_of_one = 453

abbrev pub most_of_block : ℕ
most_of_block = 468

abbrev pub most_of_all : ℕ
most_of_all = 7488

-- Where each haplotype's parts end: at the breaks, and those of the last with all m.
abbrev pub ends_of : List ℕ → ℕ → List ℕ
ends_of breaks m = breaks ++ (m ∷ [])

-- ends that rise from a place on, to at most m
unfoldable pub Rising : ℕ → ℕ → List ℕ → Type 0
Rising m from [] = Unit {0}
Rising m from (to ∷ ends) = (from ≤ to) × ((to ≤ m) × Rising m to ends)

-- over 8 parts between one end and the next
unfoldable pub overlong : ℕ → List ℕ → Bool
overlong from [] = false
overlong from (to ∷ ends) = ltb 8 (to - from) || overlong to ends

-- the parts from one place to another, with rows of e entries
abbrev pub stretch : ℕ → ℕ → ℕ → Parts → Parts
stretch e from to p = parts_of (take (to - from) (drop from p.sizes)) (take (to * e - from * e) (drop (from * e) p.features))

-- one block: the `hap` line and the haplotype's lines
abbrev pub block_text : Settings → Table → List ℕ → ℕ → Parts → List ℕ
block_text s t numbers i p = hap_text i ++ haplotype_text s t numbers p

-- each haplotype's own parts
unfoldable pub stretches : ℕ → ℕ → List ℕ → Parts → List Parts
stretches e from [] p = []
stretches e from (to ∷ ends) p = stretch e from to p ∷ stretches e to ends p

-- slices that hold the parts of up to 16 haplotypes
pub record BlocksFit (e : ℕ) (p : Parts) (breaks : List ℕ) : Type 0 where
  pub parts : length p.sizes ≤ 128
  pub haplotypes : length breaks ≤ 15
  pub rising : Rising (length p.sizes) 0 (ends_of breaks (length p.sizes))
  pub rows : length p.features ≡ length p.sizes * e
  pub few : length p.features ≤ 32768

-- the table and the parts that ten slices give once their letters are counted by a reading
abbrev pub table_from : ℕ → ℕ → Lent → Table
table_from reading k t = table_of t.starts t.ends t.sizes (rows_from reading k t.negatives t.counts t.letters)

abbrev pub parts_from : ℕ → ℕ → Lent → Parts
parts_from reading k t = parts_of t.part_sizes (rows_from reading k t.part_negatives t.part_counts (drop (sum t.counts) t.letters))

-- 26 for a haplotype of too many parts, k over 4 or maxpaths over 63, 1 for k 0, and else 0
unfoldable pub limit_fault : Bool → Settings → ℕ
limit_fault long s = cond long 26 (cond (ltb 4 s.k) 26 (cond (ltb 63 s.maxpaths) 26 (cond (ltb s.k 1) 1 0)))

abbrev pub lent_ends : Lent → List ℕ
lent_ends t = ends_of t.breaks (length t.part_sizes)

abbrev pub held_fault : Settings → Lent → ℕ
held_fault s t = limit_fault (overlong 0 (lent_ends t)) s

unfoldable pub held_text : Settings → List ℕ → Lent → List ℕ
held_text s numbers t =
    cond (eqb (held_fault s t) 0)
    (haplotypes_text s (table_from s.letters s.k t) numbers (stretches (4 ^ s.k) 0 (lent_ends t) (parts_from s.letters s.k t)))
    (refused_text (held_fault s t))

-- slices that fit the program's tables, to be counted by a reading that the counter knows
pub record Fits (reading : ℕ) (t : Lent) : Type 0 where
  pub known : reading ≤ 1
  pub variants : length t.counts ≤ 16
  pub parts : length t.part_counts ≤ 128
  pub haplotypes : length t.breaks ≤ 15
  pub rising : Rising (length t.part_sizes) 0 (lent_ends t)
  pub alike : length t.negatives ≡ length t.counts
  pub part_alike : length t.part_negatives ≡ length t.part_counts
  pub sizes_alike : length t.part_sizes ≡ length t.part_counts
  pub letters_end : sum t.counts + sum t.part_counts ≤ length t.letters
  pub few : length t.letters ≤ 32768

-- v variants, m parts and b breaks at the fronts of the slices
abbrev pub cut : ℕ → ℕ → ℕ → Lent → Lent
cut v m b t = lent (take v t.starts) (take v t.ends) (take v t.sizes) (take v t.negatives) (take v t.counts)
    (take m t.part_sizes) (take m t.part_negatives) (take m t.part_counts) (take b t.breaks) t.letters

-- what the program's lists hold, the record numbers left out
abbrev pub lists_held : Lists → Lent
lists_held l = lent l.starts.now l.ends.now l.sizes.now l.negatives.now l.counts.now
    l.part_sizes.now l.part_negatives.now l.part_counts.now l.breaks.now l.letters.now

-- the record numbers in their array; zeros where there is no job, and where it has over 16
abbrev pub numbers_held : List ℕ → List ℕ
numbers_held input = numbers_after (read_job input) (numbers_of input) (replicate 16 0)

-- that they stand there, a record number for each variant, and fit
pub record Front (reading v m b : ℕ) (numbers : List ℕ) (t : Lent) : Type 0 where
  pub numbered : v ≤ length numbers
  pub starts : v ≤ length t.starts
  pub ends : v ≤ length t.ends
  pub sizes : v ≤ length t.sizes
  pub negatives : v ≤ length t.negatives
  pub counts : v ≤ length t.counts
  pub part_sizes : m ≤ length t.part_sizes
  pub part_negatives : m ≤ length t.part_negatives
  pub part_counts : m ≤ length t.part_counts
  pub breaks : b ≤ length t.breaks
  pub fits : Fits reading (cut v m b t)

-- the reader's 30, too little room, is the program's 26
unfoldable pub told_as : ℕ → ℕ
told_as n = cond (eqb n 30) 26 n

-- what the reader said, and the slices that it filled
abbrev pub Loaded : Result (Settings × Counts) Refusal → List ℕ → Lent → Type 0
Loaded (Err refusal) numbers t = Unit {0}
Loaded (Ok (s, c)) numbers t = Front s.letters c.variants c.parts c.breaks numbers t

unfoldable pub reading_text : Result (Settings × Counts) Refusal → List ℕ → Lent → List ℕ
reading_text (Err refusal) numbers t = refused_text (told_as (refusal_number refusal))
reading_text (Ok (s, c)) numbers t = held_text s (take c.variants numbers) (cut c.variants c.parts c.breaks t)
