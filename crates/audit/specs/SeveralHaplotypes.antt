-- Document 02, P1: what several haplotypes over one table share with so many calls of their own. An accepted call is one with the number 0.
use Rattle.std.specs.Prelude.{ℕ, ◌*◌, ◌^◌, ◌≤◌, ◌<◌, ◌≡◌, true, List, [], ◌∷◌, length, take, drop}
use Rattle.metrics.specs.Placed.{placed}
use Rattle.params.specs.Numbers.{first_of, parts_rules}
use Rattle.params.specs.Several.{haplotypes, parts_at, own_call}
use Rattle.kplib.specs.Haplotypes.{report_words}
use Rattle.dive.specs.Numbered.{Numbered, numbered_fault, numbered_answer, numbered_rows, records_of, numbered_searches}
use Rattle.dive.specs.NumberedSeveral.{NumberedSeveral, own_numbered, numbered_several_fault, numbered_rows_after, records_after, numbered_reports_after}
use Rattle.audit.specs.Demand3.{Demand3}

-- a call of one haplotype, made as one of several
abbrev pub alone : Numbered → ℕ → NumberedSeveral
alone n report_room = record {
  several = record {
    settings = n.call.settings;
    table = n.call.table;
    parts = n.call.parts;
    part_ends = length n.call.parts.sizes ∷ [];
    feature_ends = length n.call.parts.features ∷ [];
    queue_room = n.call.queue_room;
    answer_room = n.call.answer_room;
    report_room = report_room;
  };
  numbers = n.numbers;
  record_room = n.record_room;
}

-- stretch i of a buffer that is parted into stretches of so many entries
abbrev pub stretch_at : ℕ → ℕ → List ℕ → List ℕ
stretch_at width i buffer = take width (drop (i * width) buffer)

-- one haplotype by the call for several gives what the call for one gives
pub record OneOfSeveral (n : Numbered) (report_room : ℕ) : Type 0 where
  pub refusal : numbered_several_fault (alone n report_room) ≡ numbered_fault n
  pub rows : (rows : List ℕ) → length rows ≡ n.call.answer_room → numbered_rows_after (alone n report_room) rows ≡ placed rows (numbered_rows n)
  pub records : (records : List ℕ) → length records ≡ n.record_room → records_after (alone n report_room) records ≡ placed records (records_of n)
  pub report : numbered_fault n ≡ 0 → (reports : List ℕ) → length reports ≡ report_room
      → numbered_reports_after (alone n report_room) reports ≡ placed reports (report_words (numbered_answer n))

-- haplotype i of an accepted call: its stretches hold what a call of its own leaves in buffers of V, and its refusal is that of its parts, 5, 6, 9 or 10
pub record AsByItself (n : NumberedSeveral) (i : ℕ) : Type 0 where
  pub refusal : numbered_fault (own_numbered n i) ≡ first_of (parts_rules (4 ^ n.several.settings.k) (parts_at n.several i))
  pub rows : (rows : List ℕ) → length rows ≡ n.several.answer_room
      → stretch_at (length n.several.table.starts) i (numbered_rows_after n rows) ≡ placed (stretch_at (length n.several.table.starts) i rows) (numbered_rows (own_numbered n i))
  pub records : (records : List ℕ) → length records ≡ n.record_room
      → stretch_at (length n.several.table.starts) i (records_after n records) ≡ placed (stretch_at (length n.several.table.starts) i records) (records_of (own_numbered n i))
  pub report : (reports : List ℕ) → length reports ≡ n.several.report_room → stretch_at 8 i (numbered_reports_after n reports) ≡ report_words (numbered_answer (own_numbered n i))

pub record SeveralHaplotypes : Type 0 where
  pub one : (n : Numbered) (report_room : ℕ) → 8 ≤ report_room → OneOfSeveral n report_room
  pub each : (n : NumberedSeveral) → numbered_several_fault n ≡ 0 → (i : ℕ) → i < haplotypes n.several → AsByItself n i
  -- a haplotype that is refused leaves its stretches as they are: it has no rows and no records, and its report is its number and seven zeros
  pub refused_one : (n : NumberedSeveral) (i : ℕ) → (numbered_fault (own_numbered n i) ≡ 0 → ⊥)
      → (numbered_rows (own_numbered n i) ≡ [])
      × ((records_of (own_numbered n i) ≡ [])
      × (report_words (numbered_answer (own_numbered n i)) ≡ numbered_fault (own_numbered n i) ∷ 0 ∷ 0 ∷ 0 ∷ 0 ∷ 0 ∷ 0 ∷ 0 ∷ []))
  -- a refusal of the whole call leaves every buffer as it is
  pub whole_refused : (n : NumberedSeveral) → (numbered_several_fault n ≡ 0 → ⊥) → (rows records reports : List ℕ)
      → (numbered_rows_after n rows ≡ rows) × ((records_after n records ≡ records) × (numbered_reports_after n reports ≡ reports))
  -- demand 3 holds of each haplotype that is accepted and in search mode
  pub demand3 : (n : NumberedSeveral) (i : ℕ) → numbered_searches (own_numbered n i) ≡ true → Demand3 (own_call n.several i)
