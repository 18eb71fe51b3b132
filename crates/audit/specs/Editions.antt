-- Document 02, P7: answers to a job and its moved form are equal, where 26 isn't given to one of them for its length.
use Rattle.std.specs.Prelude.{ℕ, ◌≤◌, ◌≡◌, List, length}
use Rattle.editions.specs.Moving.{moved_over}
use Rattle.editions.specs.ThereAndBack.{Moves}
use Rattle.desk.specs.Desk.{desk_text}

pub record MovedAnswer : Type 0 where
  pub same_text : (asked : ℕ) (s : List ℕ) (room n : ℕ) → Moves asked s room n
      → length s ≤ 32768 → length (moved_over s) ≤ 32768 → desk_text (moved_over s) ≡ desk_text s
