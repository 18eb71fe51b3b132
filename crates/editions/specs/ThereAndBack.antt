-- Document 02, P7: there and back gives the first bytes, from either side where the way back is open; both forms hold the same job with the same record numbers;
-- and the way back to edition 1 is open exactly when that loses nothing.
use Rattle.std.specs.Prelude.{ℕ, ◌≤◌, ◌<◌, ◌≡◌, false, List, get_or, length, Ok}
use Rattle.form.specs.Job.{Job, Held, edition_of, numbers_of, read_job}
use Rattle.form.specs.declared.records.Edition.TheVariants.{One, Two}
use Rattle.editions.specs.Moving.{edition_number, moved_over, no_room, moving_of}

-- what a slice of bytes holds
abbrev pub AreBytes : List ℕ → Type 0
AreBytes s = (i : ℕ) → get_or s i 0 < 256

-- a job that is moved
pub record Moves (asked : ℕ) (s : List ℕ) (room n : ℕ) : Type 0 where
  pub bytes : AreBytes s
  pub wrote : moving_of asked s room ≡ Ok n

pub record ThereAndBack : Type 0 where
  -- as many bytes are written as the moved job has, in the edition asked for
  pub moved_length : (asked : ℕ) (s : List ℕ) (room n : ℕ) → Moves asked s room n → n ≡ length (moved_over s)
  pub moved_edition : (asked : ℕ) (s : List ℕ) (room n : ℕ) → Moves asked s room n → edition_number (edition_of (moved_over s)) ≡ asked
  -- the way back is open, wherever there is room for the first bytes, and gives them
  pub way_back : (asked : ℕ) (s : List ℕ) (room n : ℕ) → Moves asked s room n
      → (room' : ℕ) → length s ≤ room' → moving_of (edition_number (edition_of s)) (moved_over s) room' ≡ Ok (length s)
  pub there_and_back : (asked : ℕ) (s : List ℕ) (room n : ℕ) → Moves asked s room n → moved_over (moved_over s) ≡ s
  -- the same job, with the same record numbers
  pub moved_read : (asked : ℕ) (s : List ℕ) (room n : ℕ) → Moves asked s room n → read_job (moved_over s) ≡ read_job s
  pub moved_numbers : (asked : ℕ) (s : List ℕ) (room n : ℕ) → Moves asked s room n → numbers_of (moved_over s) ≡ numbers_of s
  -- from edition 1 the way is always open, where there is room
  pub open_up : (s : List ℕ) (job : Job) (room : ℕ) → read_job s ≡ Held job → edition_of s ≡ One → no_room s room ≡ false → moving_of 2 s room ≡ Ok (length (moved_over s))
  -- from edition 2 it is open wherever edition 1 has that job with these record numbers
  pub open_down : (s : List ℕ) (job : Job) (room : ℕ) → read_job s ≡ Held job → edition_of s ≡ Two → no_room s room ≡ false
      → (t : List ℕ) → edition_of t ≡ One → read_job t ≡ Held job → numbers_of t ≡ numbers_of s → moving_of 1 s room ≡ Ok (length (moved_over s))
