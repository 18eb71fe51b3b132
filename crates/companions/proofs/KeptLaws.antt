-- What holds of a sheet from one change to the next, and what its answers come to: the sheet is its table's, so each entry is the rule's own. Assumes nothing.
use Prim.Native.Nat.{ℕ, ◌+◌, ◌-◌, ◌≤◌, ◌<◌}
use native.Mathlib.Omega.{arith}
use mathlib.Core.Path.{◌≡◌, refl, sym, ap, ◌∙◌}
use mathlib.Core.Logic.{◌≢◌}
use mathlib.Core.Bool.{Bool, true, false, not, ◌&&◌, ◌||◌}
use mathlib.Core.List.{List}
use borrow.Author.Tests.{ltb-true, ltb-false, lt-ltb, le-leb}
use lib.Dec.{leb, ltb}
use lib.ListN.{get_or, take, set, replicate, length-set}
use lib.Seq.{get_or-take}
use Rattle.metrics.proofs.OverlapLaws.{overlap_rule}
use Rattle.companions.specs.Companions.{Companions, lent_of, rows_overlap, companion, sheet_flag, sheet_of}
use Rattle.companions.specs.Changes.{add_fault, remove_fault, added_to, taken_from}
use Rattle.companions.specs.Questions.{together_of, how_many_below, later_of}
use Rattle.companions.specs.Sheets.{Sound, Places, CompanionsKept}
use Rattle.companions.proofs.SheetLaws.{sheet_entry, not_later, not_there, there, other_columns, no_rows, only_present}
use Rattle.companions.proofs.TableLaws.{table_few, table_empty, table_within, table_bounds, sound_table, sound_sheet, sound}
use Rattle.companions.proofs.CountLaws.{count_same, count_past}
use Rattle.companions.proofs.ChangeLaws.{add_own, add_ahead, add_passed, add_ready, remove_some, remove_passed}
use Rattle.companions.proofs.GoodRowsLaws.{bounds_told, bounds_made, good_less, good_more}

or_comm : (a b : Bool) → (a || b) ≡ (b || a)
or_comm true true = refl
or_comm true false = refl
or_comm false true = refl
or_comm false false = refl

or_false : (a : Bool) → (a || false) ≡ a
or_false true = refl
or_false false = refl

module _ (c : Companions) (own : Sound c) where
  few : c.rows ≤ 64
  few = table_within c.rows c.starts c.ends (sound_table c own)

  -- each entry is the rule's own
  pub entry : (r s : ℕ) → r < 64 → s < 64 → sheet_flag c.sheet r s ≡ companion c.starts c.ends c.rows r s
  entry r s h l = ap (λ (t : List Bool). sheet_flag t r s) (sound_sheet c own) ∙ sheet_entry (companion c.starts c.ends c.rows) r s h l

  afresh : c.sheet ≡ sheet_of (take c.rows c.starts) (take c.rows c.ends) c.rows
  afresh = sound_sheet c own
      ∙ only_present c.starts c.ends (take c.rows c.starts) (take c.rows c.ends) c.rows
      (λ i l. sym (get_or-take c.rows c.starts i 0 l))
      (λ i l. sym (get_or-take c.rows c.ends i 0 l))

  itself : (a : ℕ) → a < c.rows → together_of c.sheet a a ≡ false
  unfolding together_of
  itself a h = let k = few in let e = entry a a (omega arith) (omega arith) ∙ not_later c.starts c.ends c.rows a a (omega arith) in rw e

  apart : (a b : ℕ) → a < c.rows → b < c.rows → a ≢ b → together_of c.sheet a b ≡ not (rows_overlap c.starts c.ends a b)
  unfolding together_of
  apart a b h l n = go (ltb a b) refl
    where
      early : (a b : ℕ) → a < b → b < c.rows → sheet_flag c.sheet a b ≡ not (rows_overlap c.starts c.ends a b)
      early a b k l = let m = few in entry a b (omega arith) (omega arith) ∙ there c.starts c.ends c.rows a b k l

      late : (a b : ℕ) → a < b → b < c.rows → sheet_flag c.sheet b a ≡ false
      late a b k l = let m = few in entry b a (omega arith) (omega arith) ∙ not_later c.starts c.ends c.rows b a (omega arith)

      go : (t : Bool) → ltb a b ≡ t → (sheet_flag c.sheet a b || sheet_flag c.sheet b a) ≡ not (rows_overlap c.starts c.ends a b)
      go true e = let k = ltb-true a b e in rw (late a b k l, early a b k l) (or_false (not (rows_overlap c.starts c.ends a b)))
      go false e =
          let q = ltb-false a b e in
          let k : b < a = omega arith in
          rw (late b a k h, early b a k h)
          (ap not (overlap_rule.symmetric (get_or c.starts b 0) (get_or c.ends b 0) (get_or c.starts a 0) (get_or c.ends a 0)))

  counted : (row : ℕ) → row < c.rows → later_of c.sheet row ≡ how_many_below c.rows (λ s. ltb row s && not (rows_overlap c.starts c.ends row s))
  unfolding later_of companion
  counted row h =
      let m = few in
      count_same (sheet_flag c.sheet row) (companion c.starts c.ends c.rows row) 64 (λ s l. entry row s (omega arith) l)
      ∙ count_past (companion c.starts c.ends c.rows row) c.rows 64 m (λ s l. not_there c.starts c.ends c.rows row s l)
      ∙ count_same (companion c.starts c.ends c.rows row) (λ s. ltb row s && not (rows_overlap c.starts c.ends row s)) c.rows (λ s l. rw (lt-ltb s c.rows l))

begins : (starts ends : List ℕ) → Sound (lent_of starts ends (replicate 4096 false) 0)
begins starts ends = sound (lent_of starts ends (replicate 4096 false) 0) (sym (table_empty 0 starts ends refl)) (no_rows starts ends)

-- ---- adding
module _ (c : Companions) (start end : ℕ) (z : add_fault c start end ≡ 0) where
  own : Sound c
  own = add_own c start end z

  room : c.rows < 64
  room = let h = ltb-false 64 (c.rows + 1) (add_passed c start end z).1.0 in omega arith

  -- the row behind the last plays no part in the sheet before
  unchanged : c.sheet ≡ sheet_of (set c.starts c.rows start) (set c.ends c.rows end) c.rows
  unchanged = add_ready c.starts c.ends c.sheet c.rows start end (sym z) start end

  -- of the earlier rows' flags only those of the new row's column can differ
  new_row_only : (r s : ℕ) → r < 64 → s < 64 → s ≢ c.rows → sheet_flag (added_to c start end).sheet r s ≡ sheet_flag c.sheet r s
  new_row_only r s h l n =
      sheet_entry (companion (set c.starts c.rows start) (set c.ends c.rows end) (c.rows + 1)) r s h l
      ∙ sym (other_columns (set c.starts c.rows start) (set c.ends c.rows end) c.rows r s n)
      ∙ sym (sheet_entry (companion (set c.starts c.rows start) (set c.ends c.rows end) c.rows) r s h l)
      ∙ ap (λ (t : List Bool). sheet_flag t r s) (sym unchanged)

  back : ((taken_from (added_to c start end)).sheet ≡ c.sheet) × ((taken_from (added_to c start end)).rows ≡ c.rows)
  back =
      let k : c.rows + 1 - 1 ≡ c.rows = omega arith in
      (ap (λ (n : ℕ). sheet_of (set c.starts c.rows start) (set c.ends c.rows end) n) k ∙ sym unchanged, k)

  added : Places c → Sound (added_to c start end)
  added places =
      let p = add_passed c start end z in
      let h = room in
      let good = bounds_told c.rows c.starts c.ends (omega (arith, places.0)) (table_bounds c.rows c.starts c.ends (sound_table c own)) in
      let ahead = add_ahead c start end z in
      let more = good_more c.rows c.starts c.ends start end good (omega (arith, places.0)) (omega (arith, places.1)) ahead (λ some. last some p.1.1.1.0) in
      let size = length-set c.starts c.rows start in
      let bounds = bounds_made (c.rows + 1) (set c.starts c.rows start) (set c.ends c.rows end) (omega (arith, places.0)) more in
      sound (added_to c start end) (sym (table_few (c.rows + 1) (set c.starts c.rows start) (set c.ends c.rows end) (omega arith) (sym bounds))) refl
    where
      last : 1 ≤ c.rows → (leb 1 c.rows && ltb start (get_or c.starts (c.rows - 1) 0)) ≡ false → get_or c.starts (c.rows - 1) 0 ≤ start
      last some h = ltb-false start (get_or c.starts (c.rows - 1) 0) (rw (le-leb 1 c.rows some) at h)

  taken_again : Places c → remove_fault (added_to c start end) ≡ 0
  taken_again places = remove_some (added_to c start end) (added places) (λ n. omega arith)

-- ---- taking away
taken : (c : Companions) → Places c → remove_fault c ≡ 0 → Sound (taken_from c)
taken c places z =
    let own = (remove_passed c z).0 in
    let some = table_within c.rows c.starts c.ends (sound_table c own) in
    let good = bounds_told c.rows c.starts c.ends (omega (arith, places.0)) (table_bounds c.rows c.starts c.ends (sound_table c own)) in
    let bounds = bounds_made (c.rows - 1) c.starts c.ends (omega (arith, places.0)) (good_less c.rows c.starts c.ends good) in
    sound (taken_from c) (sym (table_few (c.rows - 1) c.starts c.ends (omega arith) (sym bounds))) refl

pub companions_kept : CompanionsKept
unfolding together_of
companions_kept = record {
  afresh = afresh;
  begins = begins;
  added = λ c start end places z. added c start end z places;
  taken = taken;
  new_row_only = new_row_only;
  back = back;
  taken_again = λ c start end places z. taken_again c start end z places;
  in_either_order = λ c a b. or_comm (sheet_flag c.sheet a b) (sheet_flag c.sheet b a);
  itself = itself;
  apart = apart;
  counted = counted;
}
