-- Document 01, "Job form and program": the text that the program prints, as bytes.
use Rattle.std.specs.Prelude.{ℕ, zero, suc, ◌+◌, ◌/◌, ◌%◌, List, [], ◌∷◌, ◌++◌, Bool, true, false, cond, ltb, eqb, Float}
use Prim.Native.String.{String}
use Prim.Native.String.{[] as no_more, ◌∷◌ as ◌then◌}
use Prim.Native.Char.{code}
use Rattle.std.specs.Float.{binary32}
use Rattle.std.specs.Float.Ieee.{to_bits}
use Rattle.kplib.specs.declared.pathscore.Target.{Target}
use Rattle.kplib.specs.declared.pathscore.Target.TheVariants.{Nothing, Whole, Partial}
use Rattle.kplib.specs.declared.traverse.Answer.{Answer}

-- the bytes of a text in ASCII
unfoldable pub bytes_of : String → List ℕ
bytes_of no_more = []
bytes_of (c then s) = code c ∷ bytes_of s

-- a number in decimal, at most so many digits; ten are enough for a u32, twenty for a u64
unfoldable pub digits_within : ℕ → ℕ → List ℕ
digits_within zero n = []
digits_within (suc left) n = cond (ltb n 10) ((48 + n) ∷ []) (digits_within left (n / 10) ++ ((48 + n % 10) ∷ []))

abbrev pub decimal : ℕ → List ℕ
decimal n = digits_within 10 n

-- eight lower-case hexadecimal digits, the highest first
unfoldable pub hex_digit : ℕ → ℕ
hex_digit d = cond (ltb d 10) (48 + d) (87 + d)

unfoldable pub hex2 : ℕ → List ℕ
hex2 x = hex_digit (x / 16) ∷ hex_digit (x % 16) ∷ []

unfoldable pub hex4 : ℕ → List ℕ
hex4 x = hex2 (x / 256) ++ hex2 (x % 256)

unfoldable pub hex8 : ℕ → List ℕ
hex8 x = hex4 (x / 65536) ++ hex4 (x % 65536)

-- lines that begin with a word and its space: a number, the bits of a float, yes or no
unfoldable pub number_line : List ℕ → ℕ → List ℕ
number_line word n = word ++ decimal n ++ bytes_of "\n"

unfoldable pub float_line : List ℕ → Float → List ℕ
float_line word x = word ++ hex8 (to_bits binary32 x) ++ bytes_of "\n"

abbrev pub yes_or_no : Bool → List ℕ
yes_or_no true = bytes_of "yes\n"
yes_or_no false = bytes_of "no\n"

unfoldable pub flag_line : List ℕ → Bool → List ℕ
flag_line word flag = word ++ yes_or_no flag

-- several rows, or records (document 02, P3), are parted by one space; none prints the word alone
unfoldable pub entry_text : ℕ → List ℕ
entry_text entry = bytes_of " " ++ decimal entry

unfoldable pub entries_text : List ℕ → List ℕ
entries_text [] = []
entries_text (entry ∷ entries) = entry_text entry ++ entries_text entries

unfoldable pub list_line : List ℕ → List ℕ → List ℕ
list_line word entries = word ++ entries_text entries ++ bytes_of "\n"

-- `full` is yes for the whole haplotype
unfoldable pub is_whole : Target → Bool
is_whole Nothing = false
is_whole Whole = true
is_whole (Partial leftOut) = false

unfoldable pub similarity_lines : Answer → List ℕ
similarity_lines a =
    float_line (bytes_of "score ") a.score
    ++ float_line (bytes_of "sizesim ") a.sizesim
    ++ float_line (bytes_of "seqsim ") a.seqsim

unfoldable pub reach_lines : Answer → List ℕ
reach_lines a =
    flag_line (bytes_of "full ") (is_whole a.target)
    ++ number_line (bytes_of "scored ") a.scored
    ++ flag_line (bytes_of "complete ") a.complete

-- `records` directly after `rows`, then document 01's other six
unfoldable pub eight_lines : List ℕ → List ℕ → Answer → List ℕ
eight_lines rows records a = list_line (bytes_of "rows") rows ++ list_line (bytes_of "records") records ++ similarity_lines a ++ reach_lines a

unfoldable pub refused_text : ℕ → List ℕ
refused_text n = number_line (bytes_of "refused ") n

-- document 02, P1: the line before the lines of haplotype i, where a job has several
unfoldable pub hap_text : ℕ → List ℕ
hap_text i = number_line (bytes_of "hap ") i

-- `refused N`, or the eight lines
unfoldable pub answer_text : Answer → List ℕ → List ℕ → List ℕ
answer_text a rows records = cond (eqb a.refusal 0) (eight_lines rows records a) (refused_text a.refusal)
