-- The order of the table of refusals, for two refusals that were found apart. No rule of the documents cites this file: each says its whole list in order.
use Rattle.std.specs.Prelude.{ℕ, ◌+◌, ◌*◌, cond, ltb, eqb}

-- where a number stands in the table: each has a place, and right before it is one more
abbrev pub right_before : ℕ → ℕ
right_before n = 2 * n

abbrev pub place_of : ℕ → ℕ
place_of n = cond (eqb n 27) (right_before 5) (cond (eqb n 14) (right_before 9) (cond (eqb n 16) (right_before 11) (2 * n + 1)))

-- the first in the table of a refusal that was found last and another one, or 0 for none, that was found before; who asks has a refusal of its own
unfoldable pub earlier_of : ℕ → ℕ → ℕ
earlier_of other own = cond (eqb other 0) own (cond (ltb (place_of other) (place_of own)) other own)

-- of what two checks found apart, each a number or 0, the first in the table
abbrev pub first_in_table : ℕ → ℕ → ℕ
first_in_table other own = cond (eqb own 0) other (earlier_of other own)
