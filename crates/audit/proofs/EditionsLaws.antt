-- A job and its moved form hold the same job with the same record numbers, and the text is made from these alone. Assumes nothing.
use Prim.Native.Nat.{ℕ, ◌≤◌}
use mathlib.Core.Path.{◌≡◌, sym, ◌∙◌}
use mathlib.Core.List.{List}
use lib.ListN.{length}
use borrow.Author.Tests.{le-ltb}
use Rattle.form.specs.Job.{numbers_of, read_job}
use Rattle.desk.specs.Desk.{read_text, desk_text}
use Rattle.editions.specs.Moving.{moved_over}
use Rattle.editions.proofs.ThereAndBackLaws.{there_and_back}
use Rattle.audit.specs.Editions.{MovedAnswer}

-- what is not too long is answered by what it holds
read_alone : (s : List ℕ) → length s ≤ 32768 → desk_text s ≡ read_text (numbers_of s) (read_job s)
unfolding desk_text
read_alone s h = rw (le-ltb 32768 (length s) h)

pub moved_answer : MovedAnswer
moved_answer = record {
  same_text = λ asked s room n m short moved-short.
      read_alone (moved_over s) moved-short
      ∙ rw (there_and_back.moved_numbers asked s room n m, there_and_back.moved_read asked s room n m) (sym (read_alone s short));
}
