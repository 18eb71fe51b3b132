-- Document 01, "Job form": little-endian fields, read from a position on and written lowest byte first.
use Rattle.std.specs.Prelude.{ℕ, ◌+◌, ◌-◌, ◌*◌, ◌/◌, ◌%◌, List, [], ◌∷◌, ◌++◌, cond, get_or, ltb, ℤ, pos, negsuc}

unfoldable pub le2 : List ℕ → ℕ → ℕ
le2 s i = get_or s i 0 + 256 * get_or s (i + 1) 0

unfoldable pub le4 : List ℕ → ℕ → ℕ
unfolding le2
le4 s i = le2 s i + 65536 * le2 s (i + 2)

unfoldable pub le8 : List ℕ → ℕ → ℕ
unfolding le4
le8 s i = le4 s i + 4294967296 * le4 s (i + 4)

-- an i32 of its 32 bits, and back
unfoldable pub signed_of : ℕ → ℤ
signed_of x = cond (ltb x 2147483648) (pos x) (negsuc (4294967295 - x))

unfoldable pub word_of : ℤ → ℕ
word_of (pos n) = n
word_of (negsuc n) = 4294967295 - n

unfoldable pub bytes2 : ℕ → List ℕ
bytes2 x = x % 256 ∷ x / 256 % 256 ∷ []

unfoldable pub bytes4 : ℕ → List ℕ
unfolding bytes2
bytes4 x = bytes2 (x % 65536) ++ bytes2 (x / 65536)

unfoldable pub bytes8 : ℕ → List ℕ
unfolding bytes4
bytes8 x = bytes4 (x % 4294967296) ++ bytes4 (x / 4294967296)
