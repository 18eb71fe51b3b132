-- Document 02, P3 and P7: what the record numbers of a call decide, and what they leave as document 01 has it. An accepted call is one with the number 0.
use Rattle.std.specs.Prelude.{ℕ, ◌^◌, ◌≤◌, ◌<◌, ◌≡◌, true, List, ◌∷◌, ◌++◌, length, get_or}
use Rattle.metrics.specs.Placed.{placed}
use Rattle.params.specs.Numbers.{Call, Rule, rule, first_of, disagrees, settings_rules, length_rules, bound_rules}
use Rattle.kplib.specs.Answer.{answer_of, rows_of}
use Rattle.dive.specs.Numbered.{Numbered, numbered_fault, numbered_answer, numbered_rows, records_of, numbered_searches}
use Rattle.form.specs.declared.records.Edition.TheVariants.{One}
use Rattle.form.specs.Job.{Job, Held, read_job, edition_of, row_numbers, numbers_of}
use Rattle.desk.specs.Desk.{table_of_job, numbered_with}
use Rattle.audit.specs.Demand3.{Demand3}

-- two rows have one number
abbrev pub Shared : List ℕ → Type 0
Shared numbers = (r : ℕ) × (s : ℕ) × (r < s) × (s < length numbers) × (get_or numbers r 0 ≡ get_or numbers s 0)

-- the rows of the table of refusals before 14: 1 to 8, the 6 of the record numbers among them
abbrev pub up_to_eight : Numbered → List Rule
up_to_eight n =
    let c = n.call in
    settings_rules c.settings
    ++ (length_rules (4 ^ c.settings.k) c.table c.parts
    ++ (rule 6 (disagrees (length n.numbers) (length c.table.starts))
    ∷ bound_rules c.table.starts c.table.ends))

-- the call of a job of edition 1
abbrev pub numbered_by_row : Call → Numbered
numbered_by_row c = numbered_with (row_numbers (length c.table.starts)) c

pub record RecordNumbers : Type 0 where
  -- an accepted call has document 01's answer and rows,
  pub as_before : (n : Numbered) → numbered_fault n ≡ 0 → (numbered_answer n ≡ answer_of n.call) × (numbered_rows n ≡ rows_of n.call)
  -- of which demand 3 holds in search mode;
  pub demand3 : (n : Numbered) → numbered_searches n ≡ true → Demand3 n.call
  -- so scores, rows, their order and the count do not depend on the record numbers
  pub independent : (n m : Numbered) → n.call ≡ m.call → numbered_fault n ≡ 0 → numbered_fault m ≡ 0
      → (numbered_answer n ≡ numbered_answer m) × (numbered_rows n ≡ numbered_rows m)
  -- 14 is given only where two rows have one number,
  pub fourteen_shared : (n : Numbered) → numbered_fault n ≡ 14 → Shared n.numbers
  -- and always there, where none of 1 to 8 is given
  pub shared_fourteen : (n : Numbered) → first_of (up_to_eight n) ≡ 0 → Shared n.numbers → numbered_fault n ≡ 14
  -- so in an accepted call a record number names one row
  pub one_row : (n : Numbered) → numbered_fault n ≡ 0 → (r s : ℕ) → r < length n.call.table.starts → s < length n.call.table.starts
      → get_or n.numbers r 0 ≡ get_or n.numbers s 0 → r ≡ s
  -- there are as many records as rows,
  pub as_many : (n : Numbered) → length (records_of n) ≡ length (numbered_rows n)
  -- each row is one of the table, and its record, at the same place, is its number
  pub in_order : (n : Numbered) → numbered_fault n ≡ 0 → (i : ℕ) → i < length (numbered_rows n)
      → (get_or (numbered_rows n) i 0 < length n.call.table.starts) × (get_or (records_of n) i 0 ≡ get_or n.numbers (get_or (numbered_rows n) i 0) 0)
  -- a refused call leaves the second buffer as it is
  pub unchanged : (n : Numbered) → (numbered_fault n ≡ 0 → ⊥) → (records : List ℕ) → placed records (records_of n) ≡ records
  -- a job of edition 1 has its row numbers as record numbers,
  pub first_edition : (s : List ℕ) (job : Job) → read_job s ≡ Held job → edition_of s ≡ One → numbers_of s ≡ row_numbers (length (table_of_job job).starts)
  -- and one of at most the program's 16 variants is answered or refused as before, and its records are its rows
  pub present : (c : Call) → length c.table.starts ≤ 16
      → (numbered_answer (numbered_by_row c) ≡ answer_of c) × ((numbered_rows (numbered_by_row c) ≡ rows_of c) × (records_of (numbered_by_row c) ≡ rows_of c))
