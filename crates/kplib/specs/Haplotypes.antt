-- Document 02, P1: several haplotypes over one table. Each is answered as in a call of its own; its rows and its report stand in its own stretch of the buffers.
use Rattle.std.specs.Prelude.{ℕ, zero, suc, ◌*◌, Bool, List, ◌∷◌, length}
use Rattle.std.proofs.lemmas.List.Edits.{sets}
use Rattle.params.specs.Numbers.{any_below}
use Rattle.params.specs.Several.{Several, haplotypes, own_call, several_fault}
use Rattle.kplib.specs.Answer.{answer_of, rows_of, searches}
use Rattle.kplib.specs.Report.{report_of}
use Rattle.kplib.specs.declared.traverse.Answer.{Answer}

-- a buffer in which n haplotypes have each laid down a list at the front of their own stretch of `width` entries
unfoldable pub laid : ℕ → (ℕ → List ℕ) → ℕ → List ℕ → List ℕ
laid width each zero buffer = buffer
laid width each (suc n) buffer = sets (laid width each n buffer) (n * width) (each n)

-- a haplotype's report: its refusal, and its answer as seven words
abbrev pub report_words : Answer → List ℕ
report_words a = a.refusal ∷ report_of a

-- all are answered, or none where the whole call is refused
abbrev pub answered_after : ℕ → ℕ → ℕ
answered_after zero n = n
answered_after (suc fault) n = 0

abbrev pub answered : Several → ℕ
answered c = answered_after (several_fault c) (haplotypes c)

abbrev pub rows_after : Several → List ℕ → List ℕ
rows_after c rows = laid (length c.table.starts) (λ i. rows_of (own_call c i)) (answered c) rows

abbrev pub reports_after : Several → List ℕ → List ℕ
reports_after c reports = laid 8 (λ i. report_words (answer_of (own_call c i))) (answered c) reports

-- the queue's slices are written by a search only
abbrev pub several_searches : Several → Bool
several_searches c = any_below (answered c) (λ i. searches (own_call c i))
