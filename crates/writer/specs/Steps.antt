-- Private: what single rows take and store. No public promise cites this file.
use Rattle.std.specs.Prelude.{ℕ, suc, ◌+◌, ◌-◌, ◌*◌, ◌≤◌, ◌≡◌, List, [], ◌∷◌, Bool, true, cond, ℤ, length, drop, leb, eqb}
use Rattle.std.proofs.lemmas.List.Edits.{sets}
use Rattle.params.specs.declared.Settings.{Settings}
use Rattle.fields.specs.Fields.{bytes4}
use Rattle.form.specs.Form.{variant_kind, variant2_kind, letters_kind, settings_len, settings2_len, variant_len, variant2_len, letters_len, kind_of, body_len}
use Rattle.form.specs.Job.{records_for, variants_bytes, parts_bytes, haplotypes_bytes, job_bytes}
use Rattle.form.specs.declared.records.Edition.{Edition}
use Rattle.form.specs.Lent.{Lent, lent, sum}
use Rattle.writer.specs.declared
use Rattle.writer.specs.Writing.{by_edition, variants_from, parts_from, cut_at, in_order, agree, job_from}
use Rattle.std.specs.declared.option.Option.{Option}
use Rattle.std.specs.declared.option.Option.TheVariants.{None, Some}

-- the byte that begins an edition's variant
abbrev pub variant_kind_by : Edition → ℕ
variant_kind_by e = by_edition variant_kind variant2_kind e

-- how long an edition's records of settings and of a variant are, with the byte that begins them
abbrev pub settings_size : Edition → ℕ
settings_size e = by_edition (suc settings_len) (suc settings2_len) e

abbrev pub variant_size : Edition → ℕ
variant_size e = by_edition (suc variant_len) (suc variant2_len) e

-- what stands behind edition 1's bytes of a variant
abbrev pub number_tail : Edition → ℕ → List ℕ
number_tail e number = by_edition [] (bytes4 number) e

-- what one sequence takes: of the letters (kind 4), or of a form's bytes behind its own record
unfoldable pub cost_of : ℕ → ℕ → ℕ
cost_of kind n = cond (eqb kind letters_kind) n (1 + body_len (kind_of kind) + suc letters_len * records_for n)

unfoldable pub total : ℕ → List ℕ → ℕ
total kind [] = 0
total kind (n ∷ ns) = cost_of kind n + total kind ns

-- what is left of some room
unfoldable pub left_of : ℕ → ℕ → Option ℕ
left_of cost have = cond (leb cost have) (Some (have - cost)) None

-- rows that agree, with letters and room enough
pub record VariantsFit (e : Edition) (numbers starts ends : List ℕ) (sizes : List ℤ) (negatives : List Bool) (counts letters : List ℕ) (at room : ℕ) : Type 0 where
  pub ends_are : length ends ≡ length starts
  pub sizes_are : length sizes ≡ length starts
  pub negatives_are : length negatives ≡ length starts
  pub counts_are : length counts ≡ length starts
  pub letters_are : sum counts ≤ length letters
  pub fits : at + length (variants_bytes e numbers (variants_from starts ends sizes negatives counts letters 0 0 (length starts))) ≤ room

-- the parts of the rows from `first` up to `end`, whose letters begin at `from` and go up to the last with those of the rows behind them
pub record PartsFit (sizes : List ℤ) (negatives : List Bool) (counts letters : List ℕ) (from first end at room : ℕ) : Type 0 where
  pub negatives_are : length negatives ≡ length sizes
  pub counts_are : length counts ≡ length sizes
  pub letters_are : from + sum (drop first counts) ≡ length letters
  pub first_in : first ≤ end
  pub end_in : end ≤ length sizes
  pub fits : at + length (parts_bytes (parts_from sizes negatives counts letters first from (end - first))) ≤ room

-- all parts, cut into haplotypes
pub record HaplotypesFit (sizes : List ℤ) (negatives : List Bool) (counts letters : List ℕ) (from : ℕ) (breaks : List ℕ) (at room : ℕ) : Type 0 where
  pub negatives_are : length negatives ≡ length sizes
  pub counts_are : length counts ≡ length sizes
  pub letters_are : from + sum counts ≡ length letters
  pub breaks_are : in_order (length sizes) 0 breaks ≡ true
  pub fits : at + length (haplotypes_bytes (cut_at 0 breaks (parts_from sizes negatives counts letters 0 from (length sizes)))) ≤ room

-- xs stand in u from position at on, and r is behind them
pub record Put (t u : List ℕ) (at r : ℕ) (xs : List ℕ) : Type 0 where
  pub is : u ≡ sets t at xs
  pub next : r ≡ at + length xs

-- slices that agree, and room for the job that they hold
pub record JobFits (e : Edition) (numbers : List ℕ) (s : Settings) (t : Lent) (room : ℕ) : Type 0 where
  pub agrees : agree t ≡ true
  pub fits : length (job_bytes e numbers (job_from s t)) ≤ room

-- what the code's struct of a job holds, as the rules speak of it
abbrev pub held : declared.Lent.Lent → Lent
held job = lent job.starts.now job.ends.now job.sizes.now job.negatives.now job.letter_counts.now
    job.part_sizes.now job.part_negatives.now job.part_letter_counts.now job.breaks.now job.letters.now
