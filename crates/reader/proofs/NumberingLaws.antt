-- The record numbers by themselves. In edition 1 they are stored row by row. In edition 2 a record adds at most one, which is stored behind those of the records before it;
-- there are as many as the first pass counted variants, so they fit exactly when that many fit. Assumes nothing.
use Prim.Native.Nat.{ℕ, ◌+◌, ◌≤◌, ◌<◌, ◌^◌}
use native.Mathlib.Omega.{arith}
use native.Mathlib.Numerals.{add-one}
use mathlib.Core.Path.{◌≡◌, refl, sym, ap, ◌∙◌}
use mathlib.Core.Bool.{true, false, cond}
use mathlib.Core.List.{List, [], ◌∷◌}
use lib.ListN.{length, set}
use borrow.Author.Tests.{lt-leb, le-leb}
use Rattle.metrics.specs.Placed.{placed}
use Rattle.form.specs.declared.records.Counts.{Counts}
use Rattle.std.specs.Prelude.{Result, Ok, Err}
use Rattle.metrics.specs.declared.refusals.Refusal.{Refusal}
use Rattle.metrics.specs.declared.refusals.Refusal.TheVariants.{LittleRoom}
use Rattle.metrics.proofs.RefusalLaws.{refusal_is}
use Rattle.form.specs.Form.{run, outset}
use Rattle.form.specs.Job.{variant_here, gather, job_of, row_numbers, numbers_of, read_of, read_job}
use Rattle.form.specs.Lent.{job_counts}
use Rattle.reader.specs.Reading.{numbers_fit, numbering_of, numbers_after}
use Rattle.reader.specs.Steps.{stores}
use Rattle.form.proofs.CountLaws.{counts_are}
use Rattle.form.proofs.NumberLaws.{long_rows, numbers_many}
use Rattle.reader.proofs.FillLaws.{stores_append}
use Rattle.reader.proofs.ReadLaws.{laid}

-- ---- edition 1, row by row
module _ (old : List ℕ) where
  pub rows_start : old ≡ stores set old 0 (row_numbers 0)
  unfolding stores row_numbers
  rows_start = refl

  pub rows_more : (i : ℕ) {l u : List ℕ} → l ≡ stores set old 0 (row_numbers i) → u ≡ set l i i → u ≡ stores set old 0 (row_numbers (i + 1))
  unfolding stores row_numbers
  rows_more i {l} {u} e w =
      let at : i ≡ 0 + length (row_numbers i) = omega (arith, long_rows i) in
      let behind : set l i i ≡ stores set (stores set old 0 (row_numbers i)) (0 + length (row_numbers i)) (i ∷ []) =
      ap (λ (m : List ℕ). set m i i) e ∙ ap (λ (n : ℕ). set (stores set old 0 (row_numbers i)) n i) at in
      w ∙ behind ∙ sym (rw (add-one i) (stores_append set old 0 (row_numbers i) (i ∷ [])))

-- ---- the first pass counts them
module _ (s : List ℕ) {c : Counts} (at : run s 0 outset ≡ Ok c) where
  pub count_variants : c.variants ≡ length (gather variant_here s 0)
  unfolding job_counts job_of
  count_variants = ap (λ (d : Counts). d.variants) (counts_are s c at)

  count_numbers : length (numbers_of s) ≡ c.variants
  count_numbers = numbers_many s at ∙ sym count_variants

-- ---- what reading them answers
module _ (s old : List ℕ) where
  pub numbers_refused : {refusal : Refusal} → run s 0 outset ≡ Err refusal
      → (Err refusal ≡ numbering_of (read_job s) (numbers_of s) (length old)) × (old ≡ numbers_after (read_job s) (numbers_of s) old)
  unfolding read_job numbering_of numbers_after
  numbers_refused {refusal} e = (
    sym (ap (λ (w : Result Counts Refusal). numbering_of (read_of w (job_of s)) (numbers_of s) (length old)) e ∙ ap (λ (found : Refusal). Err found) (refusal_is refusal)),
    sym (ap (λ (w : Result Counts Refusal). numbers_after (read_of w (job_of s)) (numbers_of s) old) e),
  )

  module _ {c : Counts} (at : run s 0 outset ≡ Ok c) where
    numbering_at : numbering_of (read_job s) (numbers_of s) (length old) ≡ cond (numbers_fit (numbers_of s) (length old)) (Ok (length (numbers_of s))) (Err LittleRoom)
    unfolding read_job numbering_of
    numbering_at = ap (λ (w : Result Counts Refusal). numbering_of (read_of w (job_of s)) (numbers_of s) (length old)) at

    numbers_at : numbers_after (read_job s) (numbers_of s) old ≡ cond (numbers_fit (numbers_of s) (length old)) (placed old (numbers_of s)) old
    unfolding read_job numbers_after
    numbers_at = ap (λ (w : Result Counts Refusal). numbers_after (read_of w (job_of s)) (numbers_of s) old) at

    crowded : numbers_fit (numbers_of s) (length old) ≡ false → (Err LittleRoom ≡ numbering_of (read_job s) (numbers_of s) (length old)) × (old ≡ numbers_after (read_job s) (numbers_of s) old)
    crowded h = (sym (numbering_at ∙ rw h), sym (numbers_at ∙ rw h))

    pub crowded_slice : length old < c.variants → (Err LittleRoom ≡ numbering_of (read_job s) (numbers_of s) (length old)) × (old ≡ numbers_after (read_job s) (numbers_of s) old)
    crowded_slice h = crowded (rw (count_numbers s at, lt-leb _ _ h))

    module _ (room : c.variants ≤ length old) where
      pub crowded_bits : 2 ^ 32 < c.variants → (Err LittleRoom ≡ numbering_of (read_job s) (numbers_of s) (length old)) × (old ≡ numbers_after (read_job s) (numbers_of s) old)
      crowded_bits h = crowded (rw (count_numbers s at, le-leb _ _ room, lt-leb _ _ h))

      pub read_numbers : c.variants ≤ 2 ^ 32 → {u : List ℕ} → u ≡ stores set old 0 (numbers_of s)
          → (Ok c.variants ≡ numbering_of (read_job s) (numbers_of s) (length old)) × (u ≡ numbers_after (read_job s) (numbers_of s) old)
      read_numbers h e =
          let fit : numbers_fit (numbers_of s) (length old) ≡ true = rw (count_numbers s at, le-leb _ _ room, le-leb _ _ h) in
          (sym (numbering_at ∙ rw (fit, count_numbers s at)), e ∙ laid old (numbers_of s) (rw (count_numbers s at) room) ∙ sym (numbers_at ∙ rw fit))
