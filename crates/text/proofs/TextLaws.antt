-- Which text an answer has, and how long it is at most: eight hexadecimal digits a float, at most ten decimal digits a number.
use Prim.Native.Nat.{ℕ, zero, suc, ◌+◌, ◌*◌, ◌/◌, ◌%◌, ◌≤◌}
use native.Mathlib.Omega.{arith}
use mathlib.Core.Path.{◌≡◌, refl}
use mathlib.Core.Bool.{Bool, true, false, cond}
use mathlib.Core.List.{List, [], ◌∷◌, ◌++◌}
use lib.Dec.{ltb, eqb}
use lib.Ieee.{Float, binary32, to_bits}
use lib.ListN.{length, length-append}
use borrow.Author.Tests.{eq-eqb, ne_eqb}
use Rattle.kplib.specs.declared.traverse.Answer.{Answer}
use Rattle.text.specs.Text.{bytes_of, digits_within, hex2, hex4, hex8, number_line, float_line, flag_line, yes_or_no, entry_text, entries_text, list_line, is_whole}
use Rattle.text.specs.Text.{similarity_lines, reach_lines, eight_lines, refused_text, hap_text, answer_text}

pub text_refused : (a : Answer) (rows records : List ℕ) → (a.refusal ≡ 0 → ⊥) → refused_text a.refusal ≡ answer_text a rows records
unfolding answer_text
text_refused a rows records h = simp (ne_eqb a.refusal 0 h)

pub text_accepted : (a : Answer) (rows records : List ℕ) → a.refusal ≡ 0 → eight_lines rows records a ≡ answer_text a rows records
unfolding answer_text
text_accepted a rows records h = simp (eq-eqb a.refusal 0 h)

pub digits_short : (left n : ℕ) → length (digits_within left n) ≤ left
unfolding digits_within
digits_short zero n = omega arith
digits_short (suc left) n = go (ltb n 10) (digits_short left (n / 10))
  where
    go : (t : Bool) → length (digits_within left (n / 10)) ≤ left → length (cond t ((48 + n) ∷ []) (digits_within left (n / 10) ++ ((48 + n % 10) ∷ []))) ≤ suc left
    go true h = omega arith
    go false h = simp length-append (omega arith)

hex_length : (x : ℕ) → length (hex8 x) ≡ 8
unfolding hex2 hex4 hex8
hex_length x = refl

number_short : (word : List ℕ) (n : ℕ) → length (number_line word n) ≤ length word + 11
unfolding number_line bytes_of
number_short word n = let h = digits_short 10 n in simp length-append (omega arith)

float_length : (word : List ℕ) (x : Float) → length (float_line word x) ≡ length word + 9
unfolding float_line bytes_of
float_length word x = let h = hex_length (to_bits binary32 x) in simp length-append (omega arith)

yes_or_no_short : (flag : Bool) → length (yes_or_no flag) ≤ 4
unfolding bytes_of
yes_or_no_short true = omega arith
yes_or_no_short false = omega arith

flag_short : (word : List ℕ) (flag : Bool) → length (flag_line word flag) ≤ length word + 4
unfolding flag_line
flag_short word flag = let h = yes_or_no_short flag in simp length-append (omega arith)

one_more : {n : ℕ} → n ≤ 10 → suc n ≤ 11
one_more h = omega arith

entry_short : (entry : ℕ) → length (entry_text entry) ≤ 11
unfolding entry_text bytes_of
entry_short entry = one_more (digits_short 10 _)

entries_short : (entries : List ℕ) → length (entries_text entries) ≤ 11 * length entries
unfolding entries_text
entries_short [] = omega arith
entries_short (entry ∷ entries) = let h = entry_short entry in let g = entries_short entries in simp length-append (omega arith)

list_short : (word entries : List ℕ) → length (list_line word entries) ≤ length word + 1 + 11 * length entries
unfolding list_line bytes_of
list_short word entries = let h = entries_short entries in simp length-append (omega arith)

similarities_short : (a : Answer) → length (similarity_lines a) ≤ 48
unfolding similarity_lines bytes_of
similarities_short a =
    let h = float_length (bytes_of "score ") a.score in
    let i = float_length (bytes_of "sizesim ") a.sizesim in
    let j = float_length (bytes_of "seqsim ") a.seqsim in
    simp length-append (omega arith)

reach_short : (a : Answer) → length (reach_lines a) ≤ 40
unfolding reach_lines bytes_of
reach_short a =
    let h = flag_short (bytes_of "full ") (is_whole a.target) in
    let i = number_short (bytes_of "scored ") a.scored in
    let j = flag_short (bytes_of "complete ") a.complete in
    simp length-append (omega arith)

eight_short : (rows records : List ℕ) (a : Answer) → length (eight_lines rows records a) ≤ 101 + 11 * length rows + 11 * length records
unfolding eight_lines bytes_of
eight_short rows records a =
    let g = list_short (bytes_of "rows") rows in
    let h = list_short (bytes_of "records") records in
    let i = similarities_short a in
    let j = reach_short a in
    simp length-append (omega arith)

pub refused_short : (n : ℕ) → length (refused_text n) ≤ 19
unfolding refused_text bytes_of
refused_short n = number_short (bytes_of "refused ") n

pub hap_short : (i : ℕ) → length (hap_text i) ≤ 15
unfolding hap_text bytes_of
hap_short i = number_short (bytes_of "hap ") _

pub answer_short : (a : Answer) (rows records : List ℕ) → length (answer_text a rows records) ≤ 101 + 11 * length rows + 11 * length records
unfolding answer_text
answer_short a rows records = go (eqb a.refusal 0)
  where
    go : (t : Bool) → length (cond t (eight_lines rows records a) (refused_text a.refusal)) ≤ 101 + 11 * length rows + 11 * length records
    go true = eight_short rows records a
    go false = let h = refused_short a.refusal in omega arith
