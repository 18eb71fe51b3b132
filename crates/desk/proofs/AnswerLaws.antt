-- What the desk asks of a numbered answer: k 0 is refused by 1, and rows and records are no more than the room that they were placed in.
use Prim.Native.Nat.{ℕ, ◌≤◌}
use native.Mathlib.Omega.{arith}
use mathlib.Core.Path.{◌≡◌, sym, ap, ◌∙◌}
use mathlib.Core.List.{List, ◌++◌}
use lib.ListN.{length, get_or, take, drop, length-append, length-drop, length-map}
use lib.Seq.{take_at}
use Rattle.params.specs.declared.Settings.{Settings}
use Rattle.kplib.specs.declared.traverse.Answer.{Answer}
use Rattle.params.specs.Numbers.{Table, Parts, call_of, bad_k}
use Rattle.kplib.specs.Answer.{queue_room}
use Rattle.dive.specs.Numbered.{Numbered, numbered_fault, numbered_answer, numbered_rows, records_at, records_of}
use Rattle.metrics.specs.Placed.{placed}
use Rattle.text.specs.Text.{answer_text}
use Rattle.text.specs.Written.{Written}
use Rattle.text.proofs.TextLaws.{answer_short}
use Rattle.desk.specs.Desk.{asked_of, haplotype_text}
use Rattle.desk.specs.Memory.{Printed, most_of_one}
use Rattle.desk.proofs.DeskLaws.{printed_as}

pub fault_k_zero : (n : Numbered) → n.call.settings.k ≡ 0 → numbered_fault n ≡ 1
unfolding numbered_fault bad_k
fault_k_zero n e = rw e

pub refused_k_zero : (n : Numbered) → n.call.settings.k ≡ 0 → (numbered_answer n).refusal ≡ 1
unfolding numbered_answer
refused_k_zero n e = fault_k_zero n e

-- rows that were placed in a buffer, which kept its length, are no more than it has
placed_few : (old rows new : List ℕ) → new ≡ placed old rows → length new ≡ length old → length rows ≤ length old
placed_few old rows new e l =
    let a : length new ≡ length (rows ++ drop (length rows) old) = ap length e in
    let b = length-append rows (drop (length rows) old) in
    let c = length-drop (length rows) old in
    omega arith

-- what was placed at the front, taken again
pub take_placed : {A : Type 0} (old new : List A) (n : ℕ) → length new ≡ n → take n (placed old new) ≡ new
take_placed old new n e = take_at new (drop (length new) old) n e

as_many_records : (numbers rows : List ℕ) → length (records_at numbers rows) ≡ length rows
unfolding records_at
as_many_records numbers rows = length-map rows (λ r. get_or numbers r 0)

-- what was answered in the program's room, as text
module _ (s : Settings) (t : Table) (p : Parts) (numbers links keys rows records : List ℕ) where
  abbrev asked : Numbered
  asked = record { call = call_of s t p (queue_room links keys) (length rows); numbers = numbers; record_room = length records }

  abbrev held : Numbered
  held = asked_of s t numbers p

  module _ (link_room : 1025 ≡ length links) (key_room : 1025 ≡ length keys)
      (row_room : length rows ≡ 16) (record-room : length records ≡ 16) where
    asked_is : asked ≡ held
    asked_is = rw (sym link_room, sym key_room, row_room, record-room)

    module _ (a : Answer) (is : a ≡ numbered_answer asked) (rows' : List ℕ) (stands : rows' ≡ placed rows (numbered_rows asked))
        (records' : List ℕ) (records-stand : records' ≡ placed records (records_of asked)) where
      rows_are : a.rows ≡ length (numbered_rows asked)
      unfolding numbered_answer numbered_rows
      rows_are = ap (λ (x : Answer). x.rows) is

      records_are : a.rows ≡ length (records_of asked)
      records_are = rows_are ∙ sym (as_many_records numbers (numbered_rows asked))

      rows_taken : take a.rows rows' ≡ numbered_rows asked
      rows_taken = rw stands (take_placed rows (numbered_rows asked) a.rows (sym rows_are))

      records_taken : take a.rows records' ≡ records_of asked
      records_taken = rw records-stand (take_placed records (records_of asked) a.rows (sym records_are))

      answer_text_lem : answer_text a (take a.rows rows') (take a.rows records') ≡ haplotype_text s t numbers p
      unfolding haplotype_text
      answer_text_lem =
          ap (λ (xs : List ℕ). answer_text a xs (take a.rows records')) rows_taken
          ∙ ap (λ (xs : List ℕ). answer_text a (numbered_rows asked) xs) records_taken
          ∙ ap (λ (x : Answer). answer_text x (numbered_rows asked) (records_of asked)) is
          ∙ ap (λ (n : Numbered). answer_text (numbered_answer n) (numbered_rows n) (records_of n)) asked_is

      pub answer_printed : length rows' ≡ 16 → {out out' : List ℕ} {at r : ℕ} → Written out at (answer_text a (take a.rows rows') (take a.rows records')) out' r
          → Printed most_of_one out at (haplotype_text s t numbers p) out' r
      answer_printed l w =
          let e : length (take a.rows rows') ≡ length (numbered_rows asked) = ap length rows_taken in
          let f : length (take a.rows records') ≡ length (numbered_rows asked) = ap length records_taken ∙ as_many_records numbers (numbered_rows asked) in
          let g = placed_few rows (numbered_rows asked) rows' stands (l ∙ sym row_room) in
          let h = answer_short a (take a.rows rows') (take a.rows records') in
          printed_as (record { written = w; short = omega arith }) answer_text_lem
