-- A text and its lines, a table and its lines, and what the two say of each other. Assumes nothing.
use Prim.Native.Nat.{ℕ, zero, suc, ◌+◌, ◌≤◌, ◌<◌}
use native.Mathlib.Omega.{arith}
use mathlib.Core.Path.{◌≡◌, refl, sym, ap, ◌∙◌}
use mathlib.Core.Bool.{Bool, true, false, not, cond}
use mathlib.Core.List.{List, [], ◌∷◌, ◌++◌, map}
use lib.Dec.{leb, eqb}
use lib.ListN.{length, get_or, length-append, length-map}
use lib.Seq.{ext_get_or, take_at, drop_at}
use borrow.Author.Tests.{eqb-true, eqb-false, le-ltb, lt-leb}
use Rattle.params.specs.Numbers.{Rule, first_of, bound_rules}
use Rattle.params.proofs.CheckLaws.{passed, stops, goes_on}
use Rattle.bed.specs.Bed.{good_name, tab, newline, decimal64, bed_line, bed_text}
use Rattle.bed.specs.Reading.{same_bytes, onto, lines_of, up_to, behind_first, name_in, start_in, end_in, good_line, lines_from, text_rules, starts_in, ends_in, under64, read_fault}
use Rattle.bed.specs.Writing.{chosen_of, rows_text, missing_row, write_fault}
use Rattle.bed.specs.RoundTrip.{Writable, Says, AllRows}
use Rattle.bed.specs.Steps.{first_line}
use Rattle.bed.proofs.PartLaws.{lines_step, lines_none}
use Rattle.bed.proofs.LineLaws.{same_self, name_said, start_said, end_said, line_ends, line_whole, name_first, line_good, good_said, said_good}
use Rattle.bed.proofs.RowLaws.{nothing, written}
use Rattle.bed.proofs.TableLaws.{Goods, text_good, text_passed, enough}

-- ---- the lines of a text are the text

abbrev joined : List (List ℕ) → List ℕ
joined [] = []
joined (line ∷ lines) = line ++ joined lines

joined_onto : (x : ℕ) (lines : List (List ℕ)) → joined (onto x lines) ≡ x ∷ joined lines
joined_onto x [] = refl
joined_onto x (line ∷ lines) = refl

joined_lines : (text : List ℕ) → joined (lines_of text) ≡ text
unfolding lines_of
joined_lines [] = refl
joined_lines (x ∷ text) = go (eqb x newline) (joined_lines text)
  where
    go : (t : Bool) → joined (lines_of text) ≡ text → joined (cond t ((x ∷ []) ∷ lines_of text) (onto x (lines_of text))) ≡ x ∷ text
    go true h = ap (λ (l : List ℕ). x ∷ l) h
    go false h = joined_onto x (lines_of text) ∙ ap (λ (l : List ℕ). x ∷ l) h

goods_text : (name : List ℕ) (lines : List (List ℕ)) → Goods name lines → bed_text name (map start_in lines) (map end_in lines) ≡ joined lines
unfolding bed_text
goods_text name [] g = refl
goods_text name (line ∷ lines) g =
    let own : line ≡ bed_line name (start_in line) (end_in line) = (good_said line g.0.0).text ∙ ap (λ (l : List ℕ). bed_line l (start_in line) (end_in line)) g.0.1 in
    ap (λ (l : List ℕ). l ++ bed_text name (map start_in lines) (map end_in lines)) (sym own) ∙ ap (λ (l : List ℕ). line ++ l) (goods_text name lines g.1)

-- an accepted text has no fault of its own
front_passed : (rules later : List Rule) → first_of (rules ++ later) ≡ 0 → first_of rules ≡ 0
front_passed rules later z = go (eqb (first_of rules) 0) refl
  where
    go : (t : Bool) → eqb (first_of rules) 0 ≡ t → first_of rules ≡ 0
    go true e = eqb-true (first_of rules) 0 e
    go false e = stops rules later (first_of rules) refl (eqb-false (first_of rules) 0 e) ∙ z

sixth : (t : Bool) (rest : ℕ) → cond t 6 rest ≡ 0 → rest ≡ 0
sixth true rest e = absurd (omega arith)
sixth false rest e = e

sound : (text : List ℕ) (a b : ℕ) → read_fault text a b ≡ 0 → first_of (text_rules text) ≡ 0
unfolding read_fault
sound text a b z = front_passed (text_rules text) (bound_rules (starts_in text) (ends_in text)) (sixth (under64 a b) (first_of (text_rules text ++ bound_rules (starts_in text) (ends_in text))) z)

pub text_said : (text : List ℕ) (a b : ℕ) → read_fault text a b ≡ 0 → text ≡ bed_text (name_in text) (starts_in text) (ends_in text)
unfolding starts_in ends_in
text_said text a b z = sym (goods_text (name_in text) (lines_of text) (text_good text (sound text a b z)) ∙ joined_lines text)

-- ---- all rows, written back

chosen_at : (numbers rows : List ℕ) (i : ℕ) → i < length rows → get_or (chosen_of numbers rows) i 0 ≡ get_or numbers (get_or rows i 0) 0
unfolding chosen_of
chosen_at numbers [] i h = absurd (omega arith)
chosen_at numbers (r ∷ rows) zero h = refl
chosen_at numbers (r ∷ rows) (suc i) h = chosen_at numbers rows i (omega arith)

chosen_length : (numbers rows : List ℕ) → length (chosen_of numbers rows) ≡ length rows
unfolding chosen_of
chosen_length numbers rows = length-map rows (λ r. get_or numbers r 0)

chosen_all : (numbers rows : List ℕ) → AllRows (length numbers) rows → chosen_of numbers rows ≡ numbers
chosen_all numbers rows all =
    ext_get_or 0 (chosen_of numbers rows) numbers (chosen_length numbers rows ∙ all.0)
    (λ i h. let l = chosen_length numbers rows in let k = all.0 in chosen_at numbers rows i (omega arith) ∙ ap (λ (n : ℕ). get_or numbers n 0) (all.1 i (omega arith)))

none_missing : (v : ℕ) (rows : List ℕ) → ((i : ℕ) → i < length rows → get_or rows i 0 < v) → missing_row v rows ≡ false
unfolding missing_row
none_missing v [] p = refl
none_missing v (r ∷ rows) p = rw (lt-leb v r (p 0 (omega arith))) (none_missing v rows (λ i h. p (suc i) (omega arith)))

starts_count : (text : List ℕ) → length (starts_in text) ≡ length (lines_of text)
unfolding starts_in
starts_count text = length-map (lines_of text) start_in

ends_count : (text : List ℕ) → length (ends_in text) ≡ length (lines_of text)
unfolding ends_in
ends_count text = length-map (lines_of text) end_in

-- a table with a row has a good name
name_good : (name : List ℕ) (lines : List (List ℕ)) → Goods name lines → (length lines ≡ 0 → ⊥) → good_name name ≡ true
name_good name [] g h = absurd (h refl)
name_good name (line ∷ lines) g h = ap good_name (sym g.0.1) ∙ (good_said line g.0.0).name

module _ (text rows : List ℕ) (a b room : ℕ) (z : read_fault text a b ≡ 0) (all : AllRows (length (lines_of text)) rows) (enoughRoom : length text ≤ room) where
  abbrev n : ℕ
  n = length (lines_of text)

  same_text : rows_text (name_in text) (starts_in text) (ends_in text) rows ≡ text
  unfolding rows_text
  same_text =
      ap (λ (l : List ℕ). bed_text (name_in text) l (chosen_of (ends_in text) rows)) (chosen_all (starts_in text) rows (rw (starts_count text) all))
      ∙ ap (bed_text (name_in text) (starts_in text)) (chosen_all (ends_in text) rows (rw (ends_count text) all))
      ∙ sym (text_said text a b z)

  accepted_back : 0 ≡ write_fault (name_in text) (starts_in text) (ends_in text) rows room
  accepted_back = go (eqb (length rows) 0) refl
    where
      even : length (ends_in text) ≡ length (starts_in text)
      even = ends_count text ∙ sym (starts_count text)

      go : (t : Bool) → eqb (length rows) 0 ≡ t → 0 ≡ write_fault (name_in text) (starts_in text) (ends_in text) rows room
      go true e = (nothing (name_in text) (starts_in text) (ends_in text) rows room even (eqb-true (length rows) 0 e)).0
      go false e =
          let some = eqb-false (length rows) 0 e in
          let good = name_good (name_in text) (lines_of text) (text_good text (sound text a b z)) (λ q. some (all.0 ∙ q)) in
          let c = starts_count text in
          let k = all.0 in
          let here = none_missing (length (starts_in text)) rows (λ i h. let q = all.1 i (omega arith) in omega arith) in
          let s = ap length same_text in
          written (name_in text) (starts_in text) (ends_in text) rows room even good here
          (le-ltb room (length (rows_text (name_in text) (starts_in text) (ends_in text) rows)) (omega arith))

  pub written_back : (write_fault (name_in text) (starts_in text) (ends_in text) rows room ≡ 0) × (rows_text (name_in text) (starts_in text) (ends_in text) rows ≡ text)
  written_back = (sym accepted_back, same_text)

-- ---- a table's lines, read back

abbrev bed_lines : List ℕ → List ℕ → List ℕ → List (List ℕ)
bed_lines name [] ends = []
bed_lines name (start ∷ starts) [] = []
bed_lines name (start ∷ starts) (end ∷ ends) = bed_line name start end ∷ bed_lines name starts ends

-- the first line of a line and more is that line
module _ (name : List ℕ) (start end : ℕ) (good : good_name name ≡ true) (rest : List ℕ) where
  abbrev own : List ℕ
  own = bed_line name start end

  ends_there : suc (length (up_to newline (own ++ rest))) ≡ length own
  ends_there =
      let k = ap length (line_whole name start end good) in
      let l = length-append (name ++ (tab ∷ (decimal64 start ++ (tab ∷ decimal64 end)))) (newline ∷ []) in
      ap (λ (s : List ℕ). suc (length s)) (line_ends name start end good rest) ∙ (omega arith)

  first_own : first_line (own ++ rest) ≡ own
  unfolding first_line
  first_own = take_at own rest (suc (length (up_to newline (own ++ rest)))) (sym ends_there)

  behind_own : behind_first newline (own ++ rest) ≡ rest
  unfolding behind_first
  behind_own = drop_at own rest (suc (length (up_to newline (own ++ rest)))) (sym ends_there)

  lines_own : lines_of (own ++ rest) ≡ own ∷ lines_of rest
  lines_own =
      let l = length-append own rest in
      let m = ends_there in
      lines_step (own ++ rest) (omega arith) ∙ ap (λ (s : List ℕ). s ∷ lines_of (behind_first newline (own ++ rest))) first_own ∙ ap (λ (s : List ℕ). own ∷ lines_of s) behind_own

lines_table : (name starts ends : List ℕ) → good_name name ≡ true → lines_of (bed_text name starts ends) ≡ bed_lines name starts ends
unfolding bed_text
lines_table name [] ends g = lines_none
lines_table name (start ∷ starts) [] g = lines_none
lines_table name (start ∷ starts) (end ∷ ends) g =
    lines_own name start end g (bed_text name starts ends) ∙ ap (λ (ls : List (List ℕ)). bed_line name start end ∷ ls) (lines_table name starts ends g)

abbrev Fit : List ℕ → Type 0
Fit numbers = (i : ℕ) → get_or numbers i 0 < 18446744073709551616

table_starts : (name starts ends : List ℕ) → good_name name ≡ true → length ends ≡ length starts → Fit starts → map start_in (bed_lines name starts ends) ≡ starts
table_starts name [] ends g e p = refl
table_starts name (start ∷ starts) [] g e p = absurd (omega arith)
table_starts name (start ∷ starts) (end ∷ ends) g e p =
    ap (λ (n : ℕ). n ∷ map start_in (bed_lines name starts ends)) (start_said name start end g (p 0)) ∙ ap (λ (l : List ℕ). start ∷ l)
    (table_starts name starts ends g (omega arith) (λ i. p (suc i)))

table_ends : (name starts ends : List ℕ) → good_name name ≡ true → length ends ≡ length starts → Fit ends → map end_in (bed_lines name starts ends) ≡ ends
table_ends name [] [] g e p = refl
table_ends name [] (end ∷ ends) g e p = absurd (omega arith)
table_ends name (start ∷ starts) [] g e p = absurd (omega arith)
table_ends name (start ∷ starts) (end ∷ ends) g e p =
    ap (λ (n : ℕ). n ∷ map end_in (bed_lines name starts ends)) (end_said name start end g (p 0)) ∙ ap (λ (l : List ℕ). end ∷ l) (table_ends name starts ends g (omega arith) (λ i. p (suc i)))

table_sound : (name : List ℕ) (i : ℕ) (starts ends : List ℕ) → good_name name ≡ true → Fit starts → Fit ends → i + length starts ≤ 64 → 0 ≡ first_of (lines_from name i (bed_lines name starts ends))
unfolding lines_from
table_sound name i [] ends g p q h = refl
table_sound name i (start ∷ starts) [] g p q h = refl
table_sound name i (start ∷ starts) (end ∷ ends) g p q h =
    let line = bed_line name start end in
    let fine : good_line line ≡ true = said_good line (line_good name start end g (p 0) (q 0)) in
    let same : same_bytes (name_in line) name ≡ true = ap (λ (l : List ℕ). same_bytes l name) (name_said name start end g) ∙ same_self name in
    passed (leb 64 i) 42 _ 0 (lt-leb 64 i (omega arith))
    (passed (not (good_line line)) 40 _ 0 (ap not fine)
    (passed (not (same_bytes (name_in line) name)) 41 _ 0 (ap not same) (table_sound name (suc i) starts ends g (λ k. p (suc k)) (λ k. q (suc k)) (omega arith))))

table_name : (name starts ends : List ℕ) → good_name name ≡ true → length ends ≡ length starts → 1 ≤ length starts → name_in (bed_text name starts ends) ≡ name
unfolding bed_text
table_name name [] ends g e h = absurd (omega arith)
table_name name (start ∷ starts) [] g e h = absurd (omega arith)
table_name name (start ∷ starts) (end ∷ ends) g e h = name_first name start end g (bed_text name starts ends)

module _ (name starts ends : List ℕ) (a b : ℕ) (ha : 64 ≤ a) (hb : 64 ≤ b) (w : Writable name starts ends) where
  abbrev text : List ℕ
  text = bed_text name starts ends

  abbrev lines : lines_of text ≡ bed_lines name starts ends
  lines = lines_table name starts ends w.named

  starts_read : starts_in text ≡ starts
  unfolding starts_in
  starts_read = ap (map start_in) lines ∙ table_starts name starts ends w.named w.even w.starts_fit

  ends_read : ends_in text ≡ ends
  unfolding ends_in
  ends_read = ap (map end_in) lines ∙ table_ends name starts ends w.named w.even w.ends_fit

  text_sound : 0 ≡ first_of (text_rules text)
  unfolding text_rules bed_text lines_of lines_from
  text_sound = go starts ends w.named w.even w.few w.starts_fit w.ends_fit
    where
      go : (starts ends : List ℕ) → good_name name ≡ true → length ends ≡ length starts → length starts ≤ 64 → Fit starts → Fit ends
          → 0 ≡ first_of (text_rules (bed_text name starts ends))
      go [] ends g e f p q = refl
      go (start ∷ starts) [] g e f p q = absurd (omega arith)
      go (start ∷ starts) (end ∷ ends) g e f p q =
          table_sound name 0 (start ∷ starts) (end ∷ ends) g p q (omega arith)
          ∙ sym (ap (λ (l : List ℕ). first_of (lines_from l 0 (lines_of (bed_text name (start ∷ starts) (end ∷ ends))))) (table_name name (start ∷ starts) (end ∷ ends) g e (omega arith))
          ∙ ap (λ (ls : List (List ℕ)). first_of (lines_from name 0 ls)) (lines_table name (start ∷ starts) (end ∷ ends) g))

  table_read : Says text a b name starts ends
  table_read =
      let rules = text_passed text (sym text_sound) in
      let numbers : 0 ≡ first_of (bound_rules (starts_in text) (ends_in text)) =
      sym (ap (λ (l : List ℕ). first_of (bound_rules l (ends_in text))) starts_read ∙ ap (λ (l : List ℕ). first_of (bound_rules starts l)) ends_read ∙ w.bounds) in
      record {
        accepted = sym (enough text a b ha hb (goes_on (text_rules text) _ 0 rules numbers));
        its_starts = starts_read;
        its_ends = ends_read;
        its_name = table_name name starts ends w.named w.even;
      }

pub read_back : (name starts ends rows : List ℕ) (a b : ℕ) → 64 ≤ a → 64 ≤ b → Writable name (chosen_of starts rows) (chosen_of ends rows)
    → Says (rows_text name starts ends rows) a b name (chosen_of starts rows) (chosen_of ends rows)
unfolding rows_text
read_back name starts ends rows a b ha hb w = table_read name (chosen_of starts rows) (chosen_of ends rows) a b ha hb w
