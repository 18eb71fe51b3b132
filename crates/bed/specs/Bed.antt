-- Document 02, P4: the text of a table. Tab-separated lines of name, start and end, each ended by a newline.
use Rattle.std.specs.Prelude.{ℕ, Bool, true, ◌&&◌, List, [], ◌∷◌, ◌++◌, leb, length}
use Rattle.text.specs.Text.{digits_within}

-- bytes 0x21 to 0x7E
unfoldable pub printable : List ℕ → Bool
printable [] = true
printable (x ∷ name) = (leb 33 x && leb x 126) && printable name

-- a name has 1 to 32 of them
unfoldable pub good_name : List ℕ → Bool
good_name name = leb 1 (length name) && (leb (length name) 32 && printable name)

-- a number to 64 bits in decimal, with no leading zero except 0 itself
abbrev pub decimal64 : ℕ → List ℕ
decimal64 n = digits_within 20 n

abbrev pub tab : ℕ
tab = 9

abbrev pub newline : ℕ
newline = 10

-- a line: name, start and end
unfoldable pub bed_line : List ℕ → ℕ → ℕ → List ℕ
bed_line name start end = name ++ (tab ∷ []) ++ decimal64 start ++ (tab ∷ []) ++ decimal64 end ++ (newline ∷ [])

-- the text of a table, a line for each row; a table of no rows has the empty text
unfoldable pub bed_text : List ℕ → List ℕ → List ℕ → List ℕ
bed_text name [] ends = []
bed_text name (start ∷ starts) [] = []
bed_text name (start ∷ starts) (end ∷ ends) = bed_line name start end ++ bed_text name starts ends
