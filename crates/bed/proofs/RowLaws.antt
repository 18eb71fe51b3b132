-- Rows there or not, and the text of rows one behind the other. Assumes nothing.
use Prim.Native.Nat.{ℕ, suc, ◌+◌, ◌-◌, ◌≤◌, ◌<◌}
use native.Mathlib.Omega.{arith}
use native.Mathlib.Numerals.{add-one}
use mathlib.Core.Path.{◌≡◌, refl, sym, ap, ◌∙◌}
use mathlib.Core.Bool.{Bool, true, false, not, cond, ◌&&◌, ◌||◌}
use mathlib.Core.List.{List, [], ◌∷◌, ◌++◌, append-nil, append_assoc}
use lib.Dec.{leb, ltb, eqb}
use lib.ListN.{length, get_or, take, drop, drop_of_length-le, length-append}
use lib.Seq.{drop-cons, take-suc, take_all}
use borrow.Author.Tests.{le-leb, lt-ltb, le-ltb, ltb-true, ltb-false, eq-eqb, ne_eqb}
use Rattle.params.proofs.CheckLaws.{given, passed, differ, agree}
use Rattle.std.specs.Prelude.{Ok, Err}
use Rattle.metrics.specs.Placed.{placed}
use Rattle.metrics.specs.declared.refusals.Refusal.{Refusal}
use Rattle.metrics.specs.Refusals.{refusal_number}
use Rattle.metrics.proofs.RefusalLaws.{never_zero, numbered_is}
use Rattle.text.specs.Written.{Written}
use Rattle.text.proofs.PieceLaws.{written_as, written_then, written_none}
use Rattle.bed.specs.Bed.{good_name, bed_line, bed_text}
use Rattle.bed.specs.Reading.{unless_refused}
use Rattle.bed.specs.Writing.{chosen_of, rows_text, bad_name_for, missing_row, little_text_room, write_fault, write_answer}

-- a row is not there where its number is not below v, or where one of the others is not
pub missing_step : (v r : ℕ) (rows : List ℕ) → missing_row v (r ∷ rows) ≡ (leb v r || missing_row v rows)
unfolding missing_row
missing_step v r rows = refl

-- ---- the text of rows

module _ (name starts ends : List ℕ) where
  abbrev line_at : ℕ → List ℕ
  line_at r = bed_line name (get_or starts r 0) (get_or ends r 0)

  abbrev text_of : List ℕ → List ℕ
  text_of rows = rows_text name starts ends rows

  no_rows : text_of [] ≡ []
  unfolding rows_text chosen_of bed_text
  no_rows = refl

  one_more : (r : ℕ) (rows : List ℕ) → text_of (r ∷ rows) ≡ line_at r ++ text_of rows
  unfolding rows_text chosen_of bed_text
  one_more r rows = refl

  rows_snoc : (rows : List ℕ) (r : ℕ) → text_of (rows ++ (r ∷ [])) ≡ text_of rows ++ line_at r
  rows_snoc [] r = one_more r [] ∙ ap (λ (l : List ℕ). line_at r ++ l) no_rows ∙ append-nil (line_at r) ∙ sym (ap (λ (l : List ℕ). l ++ line_at r) no_rows)
  rows_snoc (q ∷ rows) r =
      one_more q (rows ++ (r ∷ []))
      ∙ ap (λ (l : List ℕ). line_at q ++ l) (rows_snoc rows r)
      ∙ sym (append_assoc (line_at q) (text_of rows) (line_at r))
      ∙ sym (ap (λ (l : List ℕ). l ++ line_at r) (one_more q rows))

  -- the first i rows are written
  pub rows_begun : (t rows : List ℕ) → Written t 0 (text_of (take 0 rows)) t 0
  rows_begun t rows = written_as (written_none t 0) (sym no_rows)

  pub rows_on : {t u w : List ℕ} {end r : ℕ} (i : ℕ) (rows : List ℕ) → i < length rows → Written t 0 (text_of (take i rows)) u end
      → {a b : ℕ} → a ≡ get_or starts (get_or rows i 0) 0 → b ≡ get_or ends (get_or rows i 0) 0 → Written u end (bed_line name a b) w r
      → Written t 0 (text_of (take (i + 1) rows)) w r
  rows_on i rows h p {a} {b} e f q =
      let line : bed_line name a b ≡ line_at (get_or rows i 0) = ap (λ (m : ℕ). bed_line name m b) e ∙ ap (bed_line name (get_or starts (get_or rows i 0) 0)) f in
      let step : take (i + 1) rows ≡ take i rows ++ (get_or rows i 0 ∷ []) = rw (add-one i) (take-suc rows i 0 h) in
      written_as (written_then p (written_as q line)) (sym (ap text_of step ∙ rows_snoc (take i rows) (get_or rows i 0)))

  pub rows_done : {t u : List ℕ} {end : ℕ} (i : ℕ) (rows : List ℕ) → length rows ≤ i → Written t 0 (text_of (take i rows)) u end → Written t 0 (text_of rows) u end
  rows_done i rows h p = written_as p (ap text_of (take_all i rows h))

  -- whether there is room: what is left has room for the rest exactly where all of it has for the whole
  abbrev pub Room : List ℕ → ℕ → ℕ → ℕ → Type 0
  Room rows room left i = ltb left (length (text_of (drop i rows))) ≡ ltb room (length (text_of rows))

  module _ (rows : List ℕ) (room left i : ℕ) (inv : Room rows room left i) where
    rest : i < length rows → text_of (drop i rows) ≡ line_at (get_or rows i 0) ++ text_of (drop (suc i) rows)
    rest h = ap text_of (drop-cons rows i 0 h) ∙ one_more (get_or rows i 0) (drop (suc i) rows)

    module _ (h : i < length rows) {a b n : ℕ} (e : a ≡ get_or starts (get_or rows i 0) 0) (f : b ≡ get_or ends (get_or rows i 0) 0) (is : n ≡ length (bed_line name a b)) where
      total : length (text_of (drop i rows)) ≡ n + length (text_of (drop (suc i) rows))
      total =
          let line : bed_line name a b ≡ line_at (get_or rows i 0) = ap (λ (m : ℕ). bed_line name m b) e ∙ ap (bed_line name _) f in
          let k = ap length line in
          ap length (rest h) ∙ length-append (line_at (get_or rows i 0)) (text_of (drop (suc i) rows)) ∙ (omega arith)

      pub room_short : left < n → false ≡ not (little_text_room room (text_of rows))
      room_short l = let t = total in ap not (sym (lt-ltb left (length (text_of (drop i rows))) (omega arith)) ∙ inv)

      pub room_on : n ≤ left → Room rows room (left - n) (i + 1)
      room_on l = rw (add-one i) (go (ltb left (length (text_of (drop i rows)))) refl ∙ inv)
        where
          go : (t : Bool) → ltb left (length (text_of (drop i rows))) ≡ t → ltb (left - n) (length (text_of (drop (suc i) rows))) ≡ t
          go true q = let t = total in let m = ltb-true left (length (text_of (drop i rows))) q in lt-ltb (left - n) (length (text_of (drop (suc i) rows))) (omega arith)
          go false q = let t = total in let m = ltb-false left (length (text_of (drop i rows))) q in le-ltb (left - n) (length (text_of (drop (suc i) rows))) (omega arith)

    pub room_end : length rows ≤ i → true ≡ not (little_text_room room (text_of rows))
    room_end h =
        let none : length (text_of (drop i rows)) ≡ 0 = ap (λ (l : List ℕ). length (text_of l)) (drop_of_length-le rows h) ∙ ap length no_rows in
        ap not (sym (le-ltb left (length (text_of (drop i rows))) (omega arith)) ∙ inv)

pub room_begun : (name starts ends rows : List ℕ) (room : ℕ) → Room name starts ends rows room room 0
room_begun name starts ends rows room = refl

-- ---- which refusal

pub not_true : {b : Bool} → not b ≡ true → b ≡ false
not_true {b = true} h = sym h
not_true {b = false} h = refl

pub not_false : {b : Bool} → not b ≡ false → b ≡ true
not_false {b = true} h = refl
not_false {b = false} h = sym h

module _ (name starts ends rows : List ℕ) (room : ℕ) where
  abbrev all : List ℕ
  all = rows_text name starts ends rows

  abbrev fault : ℕ
  fault = write_fault name starts ends rows room

  pub unequal : (length ends ≡ length starts → ⊥) → 6 ≡ fault
  unfolding write_fault
  unequal h = given _ 6 _ (differ (length ends) (length starts) h)

  module _ (even : length ends ≡ length starts) where
    pub bad_name : (length rows ≡ 0 → ⊥) → good_name name ≡ false → 40 ≡ fault
    unfolding write_fault
    bad_name some h =
        let named : bad_name_for rows name ≡ true = rw (le-leb 1 (length rows) (omega arith), h) in
        passed (not (eqb (length ends) (length starts))) 6 _ 40 (agree (length ends) (length starts) even) (given (bad_name_for rows name) 40 _ named)

    pub nothing : length rows ≡ 0 → (0 ≡ fault) × ([] ≡ all)
    unfolding write_fault rows_text chosen_of bed_text missing_row
    nothing none = go rows none
      where
        go : (rows : List ℕ) → length rows ≡ 0 → (0 ≡ write_fault name starts ends rows room) × ([] ≡ rows_text name starts ends rows)
        go [] z = (passed _ 6 _ 0 (agree (length ends) (length starts) even) (passed _ 43 _ 0 (le-ltb room 0 (omega arith)) refl), refl)
        go (r ∷ rows) z = absurd (omega arith)

    module _ (good : good_name name ≡ true) where
      name_passed : {rest found : ℕ} → found ≡ rest → found ≡ cond (not (eqb (length ends) (length starts))) 6 (cond (bad_name_for rows name) 40 rest)
      name_passed e = passed _ 6 _ _ (agree (length ends) (length starts) even) (passed _ 40 _ _ (go (leb 1 (length rows))) e)
        where
          go : (t : Bool) → (t && not (good_name name)) ≡ false
          go true = ap not good
          go false = refl

      pub missing : missing_row (length starts) rows ≡ true → 44 ≡ fault
      unfolding write_fault
      missing h = name_passed (given _ 44 _ h)

      module _ (present : missing_row (length starts) rows ≡ false) where
        pub short : little_text_room room all ≡ true → 43 ≡ fault
        unfolding write_fault
        short h = name_passed (passed _ 44 _ 43 present (given _ 43 _ h))

        pub written : little_text_room room all ≡ false → 0 ≡ fault
        unfolding write_fault
        written h = name_passed (passed _ 44 _ 0 present (passed _ 43 _ 0 h refl))

-- what a refusal answers and leaves, and what an accepted call does
pub refused_written : (fault : ℕ) {refusal : Refusal} (all text : List ℕ) → refusal_number refusal ≡ fault
    → (Err refusal ≡ write_answer fault all) × (text ≡ placed text (unless_refused fault all))
unfolding write_answer unless_refused
refused_written fault {refusal} all text e =
    let z = ne_eqb fault 0 (λ q. never_zero refusal (e ∙ q)) in
    (rw z (ap Err (numbered_is refusal fault e)), rw z refl)

pub accepted_written : (fault : ℕ) (all old : List ℕ) {new : List ℕ} {r : ℕ} → 0 ≡ fault → r ≡ length all → new ≡ placed old all
    → (Ok r ≡ write_answer fault all) × (new ≡ placed old (unless_refused fault all))
unfolding write_answer unless_refused
accepted_written fault all old e n p = let z = eq-eqb fault 0 (sym e) in (rw z (ap Ok n), rw z p)
