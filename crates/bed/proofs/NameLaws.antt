-- A name's length, and then its bytes. Assumes nothing.
use Prim.Native.Nat.{ℕ, ◌≤◌, ◌<◌}
use mathlib.Core.Path.{◌≡◌}
use mathlib.Core.Bool.{Bool, false}
use mathlib.Core.List.{List}
use lib.ListN.{length}
use borrow.Author.Tests.{le-leb, lt-leb}
use Rattle.bed.specs.Bed.{printable, good_name}

pub name_empty : (name : List ℕ) → length name < 1 → false ≡ good_name name
unfolding good_name
name_empty name h = rw (lt-leb 1 (length name) h)

pub name_long : (name : List ℕ) → 1 ≤ length name → 32 < length name → false ≡ good_name name
unfolding good_name
name_long name l h = rw (le-leb 1 (length name) l, lt-leb (length name) 32 h)

pub name_told : (name : List ℕ) {r : Bool} → 1 ≤ length name → length name ≤ 32 → r ≡ printable name → r ≡ good_name name
unfolding good_name
name_told name l h e = rw (le-leb 1 (length name) l, le-leb (length name) 32 h) e
