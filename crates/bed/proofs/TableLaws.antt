-- A text line by line: the rules and the rows from here on are those of the whole. Assumes nothing.
use Prim.Native.Nat.{ℕ, suc, ◌+◌, ◌-◌, ◌≤◌, ◌<◌}
use native.Mathlib.Omega.{arith}
use native.Mathlib.Numerals.{add-one}
use native.Mathlib.Nat.{zero-add}
use mathlib.Core.Path.{◌≡◌, refl, sym, ap, ◌∙◌}
use mathlib.Core.Bool.{Bool, true, false, not}
use mathlib.Core.List.{List, [], ◌∷◌, ◌++◌, map, append-nil}
use lib.Dec.{leb}
use lib.ListN.{length, take, drop, set, length-drop, length-set, drop_of_length-le}
use lib.Seq.{drop-drop, take_all, take-suc-set, append_snoc}
use borrow.Author.Tests.{le-leb, lt-leb, lt-ltb, le-ltb, eq-eqb, ne_eqb}
use Rattle.std.specs.Prelude.{Ok, Err}
use Rattle.metrics.specs.Placed.{placed}
use Rattle.metrics.specs.declared.refusals.Refusal.{Refusal}
use Rattle.metrics.specs.Refusals.{refusal_number}
use Rattle.metrics.proofs.RefusalLaws.{never_zero, numbered_is}
use Rattle.bed.specs.declared.Counts.{Counts}
use Rattle.params.specs.Numbers.{first_of, bound_rules}
use Rattle.params.proofs.CheckLaws.{given, passed, numbered, Passed, none_given, stops, goes_on}
use Rattle.params.proofs.BoundLaws.{no_bounds}
use Rattle.bed.specs.Bed.{tab, newline}
use Rattle.bed.specs.Reading.{same_bytes, lines_of, up_to, behind_first, name_in, start_in, end_in, good_line, line_rules, lines_from, text_rules, starts_in, ends_in, read_fault}
use Rattle.bed.specs.Reading.{read_answer, unless_refused}
use Rattle.bed.specs.Steps.{first_line, Rows, text_fault}
use Rattle.bed.proofs.PartLaws.{lines_step, lines_none, first_taken, first_dropped, first_within, first_some}
use Rattle.bed.proofs.LineLaws.{good_said, name_parts, same_is}
use Rattle.bed.proofs.RowLaws.{not_false}

-- ---- the loop

pub record Going (text s e : List ℕ) (at rows : ℕ) : Type 0 where
  pub within : at ≤ length text
  pub few : rows ≤ 64
  pub room_s : length s ≡ 64
  pub room_e : length e ≡ 64
  pub rules : first_of (lines_from (name_in text) rows (lines_of (drop at text))) ≡ first_of (text_rules text)
  pub count : rows + length (lines_of (drop at text)) ≡ length (lines_of text)
  pub starts : take rows s ++ map start_in (lines_of (drop at text)) ≡ starts_in text
  pub ends : take rows e ++ map end_in (lines_of (drop at text)) ≡ ends_in text

pub begun : (text s e : List ℕ) → length s ≡ 64 → length e ≡ 64 → Going text s e 0 0
unfolding text_rules starts_in ends_in
begun text s e p q =
    record { within = omega arith; few = omega arith; room_s = p; room_e = q; rules = refl; count = zero-add (length (lines_of text)); starts = refl; ends = refl }

-- one more number behind those of the first rows
module _ (f : List ℕ → ℕ) (s : List ℕ) (rows : ℕ) (line : List ℕ) (lines later : List (List ℕ)) (step : lines ≡ line ∷ later) (h : rows < length s) where
  number_on : {a : ℕ} → a ≡ f line → take (rows + 1) (set s rows a) ++ map f later ≡ take rows s ++ map f lines
  number_on {a} e =
      let one : take (rows + 1) (set s rows a) ≡ take rows s ++ (a ∷ []) = rw (add-one rows) (take-suc-set s rows a h) in
      ap (λ (l : List ℕ). l ++ map f later) one
      ∙ append_snoc (take rows s) a (map f later)
      ∙ ap (λ (x : ℕ). take rows s ++ x ∷ map f later) e
      ∙ sym (ap (λ (ls : List (List ℕ)). take rows s ++ map f ls) step)

module _ (text s e : List ℕ) (at rows : ℕ) (g : Going text s e at rows) (more : at < length text) where
  abbrev left : List ℕ
  left = drop at text

  abbrev line : List ℕ
  line = first_line left

  abbrev later : List (List ℕ)
  later = lines_of (behind_first newline left)

  left_some : 0 < length left
  left_some = simp length-drop (omega arith)

  step : lines_of left ≡ line ∷ later
  step = lines_step left left_some

  split : first_of (line_rules (name_in text) rows line ++ lines_from (name_in text) (suc rows) later) ≡ first_of (text_rules text)
  unfolding lines_from
  split = sym (ap (λ (ls : List (List ℕ)). first_of (lines_from (name_in text) rows ls)) step) ∙ g.rules

  pub over_64 : 64 ≤ rows → 42 ≡ first_of (text_rules text)
  over_64 h = given (leb 64 rows) 42 _ (le-leb 64 rows h) ∙ split

  -- the line as the code has it
  pub rest_is : take (length text - at) (drop at text) ≡ left
  rest_is = let h : length (drop at text) ≤ length text - at = simp length-drop (omega arith) in take_all (length text - at) (drop at text) h

  pub line_is : {n : ℕ} → n ≡ length (first_line (take (length text - at) (drop at text))) → take n (take (length text - at) (drop at text)) ≡ line
  line_is {n} e =
      let m : n ≡ length line = e ∙ ap (λ (l : List ℕ). length (first_line l)) rest_is in
      ap (take n) rest_is ∙ ap (λ (k : ℕ). take k left) m ∙ first_taken left

  pub length_is : {n : ℕ} → n ≡ length (first_line (take (length text - at) (drop at text))) → (n ≡ length line) × ((0 < n) × (at + n ≤ length text))
  length_is {n} e =
      let m : n ≡ length line = e ∙ ap (λ (l : List ℕ). length (first_line l)) rest_is in
      let some = first_some left left_some in
      let most = first_within left in
      let all = length-drop at text in
      (m, (omega arith, omega arith))

  module _ (h : rows < 64) where
    pub bad_line_lem : good_line line ≡ false → 40 ≡ first_of (text_rules text)
    bad_line_lem b = passed (leb 64 rows) 42 _ 40 (lt-leb 64 rows h) (given (not (good_line line)) 40 _ (ap not b)) ∙ split

    module _ (good : good_line line ≡ true) where
      pub second_name_lem : same_bytes (name_in line) (name_in text) ≡ false → 41 ≡ first_of (text_rules text)
      second_name_lem b =
          passed (leb 64 rows) 42 _ 41 (lt-leb 64 rows h)
          (passed (not (good_line line)) 40 _ 41 (ap not good) (given (not (same_bytes (name_in line) (name_in text))) 41 _ (ap not b)))
          ∙ split

      pub went_on : same_bytes (name_in line) (name_in text) ≡ true → {a b n : ℕ} → a ≡ start_in line → b ≡ end_in line → n ≡ length line
          → Going text (set s rows a) (set e rows b) (at + n) (rows + 1)
      went_on same {a} {b} {n} p q m =
          let behind : drop (at + n) text ≡ behind_first newline left = sym (drop-drop n at text) ∙ ap (λ (k : ℕ). drop k left) m ∙ first_dropped left in
          let lines : lines_of (drop (at + n) text) ≡ later = ap lines_of behind in
          let most = first_within left in
          let all = length-drop at text in
          let c = g.count in
          let l = ap length step in
          let k = ap length lines in
          record {
            within = omega arith;
            few = omega arith;
            room_s = simp length-set g.room_s;
            room_e = simp length-set g.room_e;
            rules =
                ap (λ (ls : List (List ℕ)). first_of (lines_from (name_in text) (rows + 1) ls)) lines
                ∙ ap (λ (i : ℕ). first_of (lines_from (name_in text) i later)) (add-one rows)
                ∙ passed (leb 64 rows) 42 _ _ (lt-leb 64 rows h)
                (passed (not (good_line line)) 40 _ _ (ap not good) (passed (not (same_bytes (name_in line) (name_in text))) 41 _ _ (ap not same) refl))
                ∙ split;
            count = omega arith;
            starts =
                ap (λ (ls : List (List ℕ)). take (rows + 1) (set s rows a) ++ map start_in ls) lines
                ∙ number_on start_in s rows line (lines_of left) later step (let r = g.room_s in omega arith) p
                ∙ g.starts;
            ends =
                ap (λ (ls : List (List ℕ)). take (rows + 1) (set e rows b) ++ map end_in ls) lines
                ∙ number_on end_in e rows line (lines_of left) later step (let r = g.room_e in omega arith) q
                ∙ g.ends;
          }

-- no text is left
module _ (text s e : List ℕ) (at rows : ℕ) (g : Going text s e at rows) (h : length text ≤ at) where
  none_left : lines_of (drop at text) ≡ []
  none_left = ap lines_of (drop_of_length-le text h) ∙ lines_none

  no_fault : first_of (text_rules text) ≡ 0
  unfolding lines_from
  no_fault = sym g.rules ∙ ap (λ (ls : List (List ℕ)). first_of (lines_from (name_in text) rows ls)) none_left

  pub ended : Rows text s e rows
  ended =
      let n = ap length none_left in
      let c = g.count in
      record {
        count = omega arith;
        few = g.few;
        sound = no_fault;
        starts = sym (append-nil (take rows s)) ∙ sym (ap (λ (ls : List (List ℕ)). take rows s ++ map start_in ls) none_left) ∙ g.starts;
        ends = sym (append-nil (take rows e)) ∙ sym (ap (λ (ls : List (List ℕ)). take rows e ++ map end_in ls) none_left) ∙ g.ends;
      }

-- the names, as the code has them
pub names_told : {xs a b : List ℕ} {r : Bool} (line text : List ℕ) → a ≡ up_to tab xs → xs ≡ line → b ≡ up_to tab text → r ≡ same_bytes a b
    → r ≡ same_bytes (name_in line) (name_in text)
names_told {xs} {a} {b} line text p e q t = t ∙ ap (λ (l : List ℕ). same_bytes l b) (p ∙ ap (up_to tab) e) ∙ ap (same_bytes (name_in line)) q

-- ---- 7 and 8 behind the lines' faults

lines_numbered : (name : List ℕ) (i : ℕ) (lines : List (List ℕ)) → numbered (lines_from name i lines) ≡ true
unfolding lines_from
lines_numbered name i [] = refl
lines_numbered name i (line ∷ lines) = lines_numbered name (suc i) lines

pub text_passed : (text : List ℕ) → first_of (text_rules text) ≡ 0 → Passed (text_rules text)
unfolding text_rules
text_passed text z = none_given (lines_from (name_in text) 0 (lines_of text)) (lines_numbered (name_in text) 0 (lines_of text)) z

pub lines_fault : (text : List ℕ) (refusal : Refusal) → refusal_number refusal ≡ first_of (text_rules text) → refusal_number refusal ≡ text_fault text
lines_fault text refusal e = stops (text_rules text) _ _ e (never_zero refusal)

module _ {text s e : List ℕ} {n : ℕ} (w : Rows text s e n) where
  after : {f : ℕ} → f ≡ first_of (bound_rules (starts_in text) (ends_in text)) → f ≡ text_fault text
  after e = goes_on (text_rules text) _ _ (text_passed text w.sound) e

  pub no_rows : n ≡ 0 → text_fault text ≡ 0
  no_rows z =
      let none : starts_in text ≡ [] = sym w.starts ∙ ap (λ (k : ℕ). take k s) z in
      sym (after (no_bounds (starts_in text) (ends_in text) none))

  pub of_numbers : {f : ℕ} → f ≡ first_of (bound_rules (take n s) (take n e)) → f ≡ text_fault text
  of_numbers q =
      after (q ∙ ap (λ (l : List ℕ). first_of (bound_rules l (take n e))) w.starts ∙ ap (λ (l : List ℕ). first_of (bound_rules (starts_in text) l)) w.ends)

-- ---- the whole

-- every line is good, and has the one name
abbrev pub Goods : List ℕ → List (List ℕ) → Type 0
Goods name [] = Unit {0}
Goods name (line ∷ lines) = ((good_line line ≡ true) × (name_in line ≡ name)) × Goods name lines

goods : (name : List ℕ) (i : ℕ) (lines : List (List ℕ)) → Passed (lines_from name i lines) → Goods name lines
unfolding lines_from
goods name i [] p = tt
goods name i (line ∷ lines) p = ((not_false p.1.0, same_is (name_in line) name (not_false p.1.1.0)), goods name (suc i) lines p.1.1.1)

pub text_good : (text : List ℕ) → first_of (text_rules text) ≡ 0 → Goods (name_in text) (lines_of text)
unfolding text_rules
text_good text z = goods (name_in text) 0 (lines_of text) (text_passed text z)

pub name_fits : (text : List ℕ) → first_of (text_rules text) ≡ 0 → length (name_in text) ≤ 32
unfolding up_to
name_fits [] z = omega arith
name_fits (x ∷ text) z =
    let one = lines_step (x ∷ text) (omega arith) in
    let all : Goods (name_in (x ∷ text)) (first_line (x ∷ text) ∷ lines_of (behind_first newline (x ∷ text))) = rw one at (text_good (x ∷ text) z) in
    let short = (name_parts (name_in (first_line (x ∷ text))) (good_said (first_line (x ∷ text)) all.0.0).name).1.0 in
    rw all.0.1 at short

pub little_starts : (text : List ℕ) (a b : ℕ) → a < 64 → 6 ≡ read_fault text a b
unfolding read_fault
little_starts text a b h = rw (lt-ltb a 64 h)

pub little_ends : (text : List ℕ) (a b : ℕ) → 64 ≤ a → b < 64 → 6 ≡ read_fault text a b
unfolding read_fault
little_ends text a b l h = rw (le-ltb a 64 l, lt-ltb b 64 h)

pub enough : (text : List ℕ) (a b : ℕ) {f : ℕ} → 64 ≤ a → 64 ≤ b → f ≡ text_fault text → f ≡ read_fault text a b
unfolding read_fault
enough text a b l h e = rw (le-ltb a 64 l, le-ltb b 64 h) e

-- what a refusal answers and leaves, and what an accepted call does
pub refused_read : (fault : ℕ) (text starts ends name : List ℕ) {refusal : Refusal} → refusal_number refusal ≡ fault
    → (Err refusal ≡ read_answer fault text)
    × ((starts ≡ placed starts (unless_refused fault (starts_in text)))
    × ((ends ≡ placed ends (unless_refused fault (ends_in text)))
    × (name ≡ placed name (unless_refused fault (name_in text)))))
unfolding read_answer unless_refused
refused_read fault text starts ends name {refusal} e =
    let z = ne_eqb fault 0 (λ q. never_zero refusal (e ∙ q)) in
    (rw z (ap Err (numbered_is refusal fault e)), (rw z refl, (rw z refl, rw z refl)))

pub accepted_read : (fault : ℕ) (text starts ends name : List ℕ) {starts' ends' name' : List ℕ} {counts : Counts} → 0 ≡ fault
    → counts.rows ≡ length (lines_of text) → counts.width ≡ length (name_in text)
    → starts' ≡ placed starts (starts_in text) → ends' ≡ placed ends (ends_in text) → name' ≡ placed name (name_in text)
    → (Ok counts ≡ read_answer fault text)
    × ((starts' ≡ placed starts (unless_refused fault (starts_in text)))
    × ((ends' ≡ placed ends (unless_refused fault (ends_in text)))
    × (name' ≡ placed name (unless_refused fault (name_in text)))))
unfolding read_answer unless_refused
accepted_read fault text starts ends name e n w p q r =
    let z = eq-eqb fault 0 (sym e) in
    (rw (z, sym n, sym w) refl, (rw z p, (rw z q, rw z r)))
