-- Document 01, "Job form", and change requests P1 and P7: the job that ten lent slices hold, and what writing it in an edition answers. Record numbers stand beside the job.
use Rattle.std.specs.Prelude.{ℕ, zero, suc, ◌+◌, ◌-◌, List, [], ◌∷◌, Bool, true, false, not, ◌&&◌, ◌||◌, cond, ℤ, pos, length, get_or, take, drop, eqb, leb, ltb, Result, Ok, Err}
use Rattle.metrics.specs.declared.refusals.Refusal.{Refusal}
use Rattle.metrics.specs.declared.refusals.Refusal.TheVariants.{LittleRoom}
use Rattle.metrics.specs.Refusals.{refusal_of}
use Rattle.std.proofs.Math.Seq.{slice}
use Rattle.params.specs.declared.Settings.{Settings}
use Rattle.form.specs.Form.{most_breaks}
use Rattle.form.specs.Job.{Variant, Part, Job, job_bytes}
use Rattle.form.specs.declared.records.Edition.{Edition}
use Rattle.form.specs.declared.records.Edition.TheVariants.{One, Two}
use Rattle.metrics.specs.Placed.{placed}
use Rattle.form.specs.Lent.{Lent, sum}

-- n variants from row r on, whose letters begin at a position; and n parts
unfoldable pub variants_from : List ℕ → List ℕ → List ℤ → List Bool → List ℕ → List ℕ → ℕ → ℕ → ℕ → List Variant
variants_from starts ends sizes negatives counts letters r at zero = []
variants_from starts ends sizes negatives counts letters r at (suc n) = record {
  start = get_or starts r 0;
  end = get_or ends r 0;
  size = get_or sizes r (pos 0);
  negative = get_or negatives r false;
  letters = slice at (at + get_or counts r 0) letters;
} ∷ variants_from starts ends sizes negatives counts letters (suc r) (at + get_or counts r 0) n

unfoldable pub parts_from : List ℤ → List Bool → List ℕ → List ℕ → ℕ → ℕ → ℕ → List Part
parts_from sizes negatives counts letters r at zero = []
parts_from sizes negatives counts letters r at (suc n) = record {
  size = get_or sizes r (pos 0);
  negative = get_or negatives r false;
  letters = slice at (at + get_or counts r 0) letters;
} ∷ parts_from sizes negatives counts letters (suc r) (at + get_or counts r 0) n

-- parts cut into haplotypes: a break says how many parts stand before the next, and `at` parts stand before these
unfoldable pub cut_at : ℕ → List ℕ → List Part → List (List Part)
cut_at at [] parts = parts ∷ []
cut_at at (b ∷ breaks) parts = take (b - at) parts ∷ cut_at b breaks (drop (b - at) parts)

-- V is the number of starts, m the number of part sizes
unfoldable pub job_from : Settings → Lent → Job
job_from s t = record {
  settings = s;
  variants = variants_from t.starts t.ends t.sizes t.negatives t.counts t.letters 0 0 (length t.starts);
  haplotypes = cut_at 0 t.breaks (parts_from t.part_sizes t.part_negatives t.part_counts t.letters 0 (sum t.counts) (length t.part_sizes));
}

unfoldable pub four_agree : ℕ → ℕ → ℕ → ℕ → ℕ → Bool
four_agree n a b c d = eqb a n && (eqb b n && (eqb c n && eqb d n))

unfoldable pub two_agree : ℕ → ℕ → ℕ → Bool
two_agree n a b = eqb a n && eqb b n

-- breaks of which none is below the one before (the first: below `low`) or over m
unfoldable pub in_order : ℕ → ℕ → List ℕ → Bool
in_order m low [] = true
in_order m low (b ∷ breaks) = leb low b && (leb b m && in_order m b breaks)

-- rows that agree with V and m, as many letters as the counts say, and breaks in order
abbrev pub agree : Lent → Bool
agree t =
    four_agree (length t.starts) (length t.ends) (length t.sizes) (length t.negatives) (length t.counts)
    && (two_agree (length t.part_sizes) (length t.part_negatives) (length t.part_counts)
    && (eqb (sum t.counts + sum t.part_counts) (length t.letters)
    && in_order (length t.part_sizes) 0 t.breaks))

unfoldable pub any_over : List ℕ → Bool
any_over [] = false
any_over (n ∷ ns) = ltb 131072 n || any_over ns

-- one value for each edition
abbrev pub by_edition : {A : Type 0} → A → A → Edition → A
by_edition one two One = one
by_edition one two Two = two

-- Edition 2 has a record number for each of v variants; edition 1 has no place for them, and looks at none.
abbrev pub numbers_agree : Edition → ℕ → ℕ → Bool
numbers_agree e numbers v = by_edition true (eqb numbers v) e

-- Edition 1 has no place for the setting `letters` either: it would read as 0.
abbrev pub letters_lost : Edition → ℕ → Bool
letters_lost e letters = by_edition (eqb letters 1) false e

-- What no room mends, in this order: 27, 6, 24 for `letters` over 1, 13, and 29 for `letters` 1 where the edition would lose it; 0 where all is well.
unfoldable pub writing_fault : Edition → List ℕ → Settings → Lent → ℕ
writing_fault e numbers s t =
    cond (ltb most_breaks (length t.breaks)) 27
    (cond (not (numbers_agree e (length numbers) (length t.starts) && agree t)) 6
    (cond (ltb 1 s.letters) 24
    (cond (any_over t.counts || any_over t.part_counts) 13
    (cond (letters_lost e s.letters) 29 0))))

-- refused by these and then 30; else the number of bytes written
unfoldable pub writing_of : Edition → List ℕ → Settings → Lent → ℕ → Result ℕ Refusal
writing_of e numbers s t room =
    let fault = writing_fault e numbers s t in
    let long = length (job_bytes e numbers (job_from s t)) in
    cond (eqb fault 0) (cond (ltb room long) (Err LittleRoom) (Ok long)) (Err (refusal_of fault))

-- what the lent room holds after the answer: the bytes at the front, or what it held
unfoldable pub out_after : Result ℕ Refusal → List ℕ → List ℕ → List ℕ
out_after (Err refusal) bytes old = old
out_after (Ok n) bytes old = placed old bytes
