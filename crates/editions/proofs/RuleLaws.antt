-- The rules of moving in their order: each is given where it holds and those before it do not, whatever those behind it say. Assumes nothing.
use Prim.Native.Nat.{ℕ, ◌≤◌, ◌<◌, ◌^◌}
use native.Mathlib.Omega.{arith}
use mathlib.Core.Path.{◌≡◌, refl}
use mathlib.Core.Bool.{Bool, true, false, cond, ◌||◌}
use mathlib.Core.List.{List}
use lib.Dec.{ltb}
use lib.ListN.{length}
use borrow.Author.Tests.{le-ltb, lt-ltb}
use Rattle.params.specs.Numbers.{first_of}
use Rattle.params.proofs.CheckLaws.{given, passed, none_given}
use Rattle.form.specs.Job.{job_of}
use Rattle.editions.specs.Moving.{moved_over, wrong_edition, numbers_off, letters_one, no_room, moving_rules}

module _ (asked : ℕ) (s : List ℕ) (room : ℕ) where
  pub edition_first : wrong_edition asked s ≡ true → 22 ≡ first_of (moving_rules asked s room)
  edition_first h = given _ _ _ h

  module _ (edition : wrong_edition asked s ≡ false) where
    pub numbers_second : numbers_off s ≡ true → 28 ≡ first_of (moving_rules asked s room)
    numbers_second h = passed _ _ _ _ edition (given _ _ _ h)

    module _ (rows : numbers_off s ≡ false) where
      pub letters_third : letters_one s ≡ true → 29 ≡ first_of (moving_rules asked s room)
      letters_third h = passed _ _ _ _ edition (passed _ _ _ _ rows (given _ _ _ h))

      module _ (letters : letters_one s ≡ false) where
        room_last : {found : ℕ} → found ≡ cond (no_room s room) 30 0 → found ≡ first_of (moving_rules asked s room)
        room_last h = passed _ _ _ _ edition (passed _ _ _ _ rows (passed _ _ _ _ letters h))

        pub many_rows : (v : ℕ) → v ≡ length (job_of s).variants → 4294967296 < v → 30 ≡ first_of (moving_rules asked s room)
        many_rows v is h = room_last (given _ _ _ (go (ltb room (length (moved_over s))) (lt-ltb (2 ^ 32) (length (job_of s).variants) (omega arith))))
          where
            go : (t : Bool) {u : Bool} → u ≡ true → (t || u) ≡ true
            go true e = refl
            go false e = e

        pub little_room_lem : (n : ℕ) → n ≡ length (moved_over s) → room < n → 30 ≡ first_of (moving_rules asked s room)
        little_room_lem n is h = let t : no_room s room ≡ true = rw (lt-ltb room (length (moved_over s)) (omega arith)) in room_last (given _ _ _ t)

        pub none_last : no_room s room ≡ false → 0 ≡ first_of (moving_rules asked s room)
        none_last h = room_last (passed _ _ _ _ h refl)

        pub enough_room : (v n : ℕ) → v ≡ length (job_of s).variants → v ≤ 4294967296 → n ≡ length (moved_over s) → n ≤ room → 0 ≡ first_of (moving_rules asked s room)
        enough_room v n vis few is h =
            let t : no_room s room ≡ false = rw (le-ltb room (length (moved_over s)) (omega arith), le-ltb (2 ^ 32) (length (job_of s).variants) (omega arith)) in
            none_last t

  -- where none is given
  pub record Settled : Type 0 where
    pub edition : wrong_edition asked s ≡ false
    pub rows : numbers_off s ≡ false
    pub letters : letters_one s ≡ false
    pub roomy : no_room s room ≡ false

  pub settled : first_of (moving_rules asked s room) ≡ 0 → Settled
  settled e = let p = none_given (moving_rules asked s room) refl e in record { edition = p.0; rows = p.1.0; letters = p.1.1.0; roomy = p.1.1.1.0 }
