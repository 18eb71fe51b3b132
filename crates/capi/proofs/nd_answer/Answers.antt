-- The text was placed in the buffer, so it is no longer than that, and its length is a word.
use Prim.Native.Nat.{ℕ, ◌≤◌}
use native.Mathlib.Omega.{arith}
use mathlib.Core.Path.{◌≡◌}
use mathlib.Core.List.{List, ◌++◌}
use lib.ListN.{length, drop, length-append}
use Rattle.desk.specs.Desk.{desk_text}
use Rattle.capi.proofs.nd_answer.Goals as goal

placed_within : (old text : List ℕ) {new : List ℕ} {n : ℕ} → n ≡ length text → new ≡ text ++ drop (length text) old → n ≤ length new
placed_within old text e f = rw (e, f, length-append) (omega arith)

pub length_word-requires : goal.length_word-requires
length_word-requires c =
    let lent = c.args in
    (placed_within lent.text.now (desk_text lent.job.now) c.answer-n.ensures.0 c.answer-n.ensures.1, omega arith)
