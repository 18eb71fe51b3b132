-- Where the three rows that the record numbers add to the table of refusals are not given, it is document 01's table, and so are answer and rows. A list of
-- rows that gives 0 gives none of its rows, so an accepted call is of this kind; so is a job of edition 1, whose row numbers are all different.
-- Only the row of 14 has that number, and its test is found exactly where two rows have one number. Records are the rows mapped, one by one. Assumes nothing.
use Prim.Native.Nat.{ℕ, zero, suc, ◌^◌, ◌≤◌, ◌<◌}
use native.Mathlib.Omega.{arith}
use mathlib.Core.Path.{◌≡◌, refl, sym, ap, subst, ◌∙◌}
use mathlib.Core.Bool.{Bool, true, false, not, cond, ◌&&◌, ◌||◌}
use mathlib.Core.List.{List, [], ◌∷◌, ◌++◌, map}
use borrow.Author.Tests.{ltb-true, ltb-false, le-ltb, eqb-true, eq-eqb, not-false}
use lib.Dec.{ltb, eqb}
use lib.ListN.{length, get_or, length-map, get_or-append}
use lib.Seq.{get_or-append_seam}
use Rattle.paths.specs.Best.{All}
use Rattle.paths.proofs.BooleanLaws.{clash, and_both}
use Rattle.paths.proofs.PickLaws.{all_at}
use Rattle.metrics.specs.Placed.{placed}
use Rattle.params.specs.Numbers.{Call, Rule, rule, first_of, any_below, disagrees, little_answer_room, bound_rules, limit_rules, room_rules, first_fault}
use Rattle.params.proofs.CheckLaws.{Passed, none_given, goes_on, given, any_here}
use Rattle.kplib.specs.Answer.{answer_with, in_search_mode, found_after, answer_of, rows_of, searches}
use Rattle.dive.specs.Numbered.{Numbered, repeated_number, numbered_rules, numbered_fault, numbered_answer, numbered_rows, records_at, records_of, numbered_searches}
use Rattle.dive.proofs.RowLaws.{rows_in_table}
use Rattle.form.specs.declared.records.Edition.{Edition}
use Rattle.form.specs.declared.records.Edition.TheVariants.{One}
use Rattle.form.specs.Job.{Job, Variant, Held, read_job, job_of, edition_of, row_numbers, numbers_by, numbers_of}
use Rattle.form.proofs.NumberLaws.{held_job, long_rows}
use Rattle.desk.specs.Desk.{table_of_job}
use Rattle.audit.specs.RecordNumbers.{Shared, up_to_eight, numbered_by_row, RecordNumbers}
use Rattle.audit.proofs.Demand3Laws.{demand3_holds}

-- ---- two rows with one number
pub any_found : (test : ℕ → Bool) (n : ℕ) → any_below n test ≡ true → (i : ℕ) × (i < n) × (test i ≡ true)
unfolding any_below
any_found test zero h = absurd (clash false refl h)
any_found test (suc n) h = go (any_below n test) refl h (λ e. any_found test n e)
  where
    go : (b : Bool) → any_below n test ≡ b → (b || test n) ≡ true → (any_below n test ≡ true → (i : ℕ) × (i < n) × (test i ≡ true)) → (i : ℕ) × (i < suc n) × (test i ≡ true)
    go true e h earlier = let f = earlier e in (f.0, omega (arith, f.1), f.2)
    go false e h earlier = (n, omega arith, h)

module _ (numbers : List ℕ) where
  repeated_shared : repeated_number numbers ≡ true → Shared numbers
  unfolding repeated_number
  repeated_shared h =
      let later = any_found (λ s. any_below s (λ r. eqb (get_or numbers r 0) (get_or numbers s 0))) (length numbers) h in
      let earlier = any_found (λ r. eqb (get_or numbers r 0) (get_or numbers later.0 0)) later.0 later.2 in
      (earlier.0, later.0, earlier.1, later.1, eqb-true (get_or numbers earlier.0 0) (get_or numbers later.0 0) earlier.2)

  shared_repeated : Shared numbers → repeated_number numbers ≡ true
  unfolding repeated_number
  shared_repeated h =
      any_here (λ s. any_below s (λ r. eqb (get_or numbers r 0) (get_or numbers s 0))) (length numbers) h.1 h.3
      (any_here (λ r. eqb (get_or numbers r 0) (get_or numbers h.1 0)) h.1 h.0 h.2 (eq-eqb (get_or numbers h.0 0) (get_or numbers h.1 0) h.4))

  -- none repeated: equal numbers are of one row
  different : repeated_number numbers ≡ false → (r s : ℕ) → r < length numbers → s < length numbers → get_or numbers r 0 ≡ get_or numbers s 0 → r ≡ s
  different none r s hr hs e = go (ltb r s) refl (ltb s r) refl
    where
      go : (a : Bool) → ltb r s ≡ a → (b : Bool) → ltb s r ≡ b → r ≡ s
      go true p b q = absurd (clash (repeated_number numbers) none (shared_repeated (r, s, ltb-true r s p, hs, e)))
      go false p true q = absurd (clash (repeated_number numbers) none (shared_repeated (s, r, ltb-true s r q, hr, sym e)))
      go false p false q = omega (arith, ltb-false r s p, ltb-false s r q)

-- ---- the table of refusals

-- no row of the list has the number
abbrev pub lacks : ℕ → List Rule → Bool
lacks own [] = true
lacks own (r ∷ rows) = not (eqb r.number own) && lacks own rows

pub never : (own : ℕ) (rows : List Rule) → 0 < own → lacks own rows ≡ true → first_of rows ≡ own → ⊥
never own [] h l e = omega arith
never own (r ∷ rows) h l e =
    let both = and_both (not (eqb r.number own)) (lacks own rows) l in
    go r.given e (λ f. never own rows h both.1 f) both.0
  where
    go : (t : Bool) → cond t r.number (first_of rows) ≡ own → (first_of rows ≡ own → ⊥) → not (eqb r.number own) ≡ true → ⊥
    go true e rest n = clash (not (eqb r.number own)) (rw (eq-eqb r.number own e)) n
    go false e rest n = rest e

module _ (n : Numbered) where
  abbrev six : Bool
  six = disagrees (length n.numbers) (length n.call.table.starts)

  abbrev fourteen : Bool
  fourteen = repeated_number n.numbers

  abbrev twelve : Bool
  twelve = little_answer_room (length n.call.table.starts) n.record_room

  -- the rows of the table after 14
  abbrev from_nine : List Rule
  from_nine =
      let c = n.call in
      limit_rules (4 ^ c.settings.k) c.table c.parts
      ++ (room_rules c.settings (length c.table.starts) c.queue_room c.answer_room ++ (rule 12 twelve ∷ []))

  table_is : numbered_fault n ≡ first_of (up_to_eight n ++ (rule 14 fourteen ∷ from_nine))
  unfolding numbered_fault
  table_is = refl

  same_fault : six ≡ false → fourteen ≡ false → twelve ≡ false → numbered_fault n ≡ first_fault n.call
  unfolding numbered_fault first_fault
  same_fault a b d = rw (a, b, d)

  same_answer : numbered_fault n ≡ first_fault n.call → numbered_answer n ≡ answer_of n.call
  unfolding numbered_answer answer_of
  same_answer e = ap (λ (k : ℕ). answer_with k (found_after k n.call)) e

  same_rows : numbered_fault n ≡ first_fault n.call → numbered_rows n ≡ rows_of n.call
  unfolding numbered_rows rows_of
  same_rows e = ap (λ (k : ℕ). (found_after k n.call).rows) e

  only_shared : numbered_fault n ≡ 14 → Shared n.numbers
  only_shared e = go fourteen refl (sym table_is ∙ e)
    where
      go : (t : Bool) → fourteen ≡ t → first_of (up_to_eight n ++ (rule 14 t ∷ from_nine)) ≡ 14 → Shared n.numbers
      go true r e = repeated_shared n.numbers r
      go false r e = absurd (never 14 (up_to_eight n ++ from_nine) (omega arith) refl e)

  always_shared : first_of (up_to_eight n) ≡ 0 → Shared n.numbers → numbered_fault n ≡ 14
  always_shared e h =
      let later = rule 14 fourteen ∷ from_nine in
      table_is ∙ sym (goes_on (up_to_eight n) later 14 (none_given (up_to_eight n) refl e) (given fourteen 14 (first_of from_nine) (shared_repeated n.numbers h)))

  module _ (e : numbered_fault n ≡ 0) where
    passed : Passed (numbered_rules n)
    unfolding numbered_fault
    passed = none_given (numbered_rules n) refl e

    abbrev from_six : Passed (rule 6 six ∷ (bound_rules n.call.table.starts n.call.table.ends ++ (rule 14 fourteen ∷ from_nine)))
    from_six = passed.1.1.1.1.1.1.1.1

    none_repeated : fourteen ≡ false
    none_repeated = from_six.1.1.1.0

    pub accepted_as : numbered_fault n ≡ first_fault n.call
    accepted_as = same_fault from_six.0 none_repeated from_six.1.1.1.1.1.1.1.1.1.1.1.0

    v_numbers : length n.numbers ≡ length n.call.table.starts
    v_numbers = eqb-true (length n.numbers) (length n.call.table.starts) (not-false _ from_six.0)

    names_one : (r s : ℕ) → r < length n.call.table.starts → s < length n.call.table.starts → get_or n.numbers r 0 ≡ get_or n.numbers s 0 → r ≡ s
    names_one r s hr hs q = different n.numbers none_repeated r s (omega (arith, v_numbers)) (omega (arith, v_numbers)) q

-- ---- the records
map_at : (f : ℕ → ℕ) (l : List ℕ) (i : ℕ) → i < length l → get_or (map f l) i 0 ≡ f (get_or l i 0)
map_at f [] i h = absurd (omega arith)
map_at f (x ∷ l) zero h = refl
map_at f (x ∷ l) (suc i) h = map_at f l i (omega arith)

rows_below : (c : Call) → All (λ r. r < length c.table.starts) (rows_of c)
unfolding rows_of
rows_below c = go (first_fault c) refl
  where
    go : (k : ℕ) → first_fault c ≡ k → All (λ r. r < length c.table.starts) (found_after k c).rows
    go zero e = subst (λ (k : ℕ). All (λ r. r < length c.table.starts) (found_after k c).rows) e (rows_in_table c e)
    go (suc k) e = tt

module _ (n : Numbered) where
  none_recorded : (numbered_fault n ≡ 0 → ⊥) → (records : List ℕ) → placed records (records_of n) ≡ records
  unfolding numbered_rows records_at
  none_recorded h records = go (numbered_fault n) h
    where
      go : (k : ℕ) → (k ≡ 0 → ⊥) → placed records (records_at n.numbers (found_after k n.call).rows) ≡ records
      go zero h = absurd (h refl)
      go (suc k) h = refl

  recorded : (i : ℕ) → i < length (numbered_rows n) → get_or (records_of n) i 0 ≡ get_or n.numbers (get_or (numbered_rows n) i 0) 0
  unfolding records_at
  recorded i h = map_at (λ r. get_or n.numbers r 0) (numbered_rows n) i h

  all_recorded : length (records_of n) ≡ length (numbered_rows n)
  unfolding records_at
  all_recorded = length-map (numbered_rows n) (λ r. get_or n.numbers r 0)

  in_table : numbered_fault n ≡ 0 → (i : ℕ) → i < length (numbered_rows n) → get_or (numbered_rows n) i 0 < length n.call.table.starts
  in_table e i h =
      let r = same_rows n (accepted_as n e) in
      rw r (all_at (λ r. r < length n.call.table.starts) 0 (rows_of n.call) i (omega (arith, ap length r)) (rows_below n.call))

  by_search : numbered_searches n ≡ true → searches n.call ≡ true
  unfolding numbered_searches searches
  by_search h =
      let both = and_both (eqb (numbered_fault n) 0) (in_search_mode n.call) h in
      let e = accepted_as n (eqb-true (numbered_fault n) 0 both.0) in
      rw (← e) h

-- ---- a job of edition 1
row_number : (v r : ℕ) → r < v → get_or (row_numbers v) r 0 ≡ r
unfolding row_numbers
row_number zero r h = absurd (omega arith)
row_number (suc v) r h = go (ltb r v) refl (λ k. row_number v r k)
  where
    go : (t : Bool) → ltb r v ≡ t → (r < v → get_or (row_numbers v) r 0 ≡ r) → get_or (row_numbers v ++ (v ∷ [])) r 0 ≡ r
    go true e earlier =
        let l = ltb-true r v e in
        get_or-append (row_numbers v) (v ∷ []) 0 r (omega (arith, long_rows v)) ∙ earlier l
    go false e earlier =
        let q : r ≡ length (row_numbers v) = omega (arith, long_rows v, ltb-false r v e) in
        ap (λ (k : ℕ). get_or (row_numbers v ++ (v ∷ [])) k 0) q ∙ get_or-append_seam (row_numbers v) v [] 0 ∙ omega (arith, long_rows v)

rows_recorded : (v : ℕ) (rows : List ℕ) → All (λ r. r < v) rows → map (λ r. get_or (row_numbers v) r 0) rows ≡ rows
rows_recorded v [] a = refl
rows_recorded v (r ∷ rows) a =
    let here = row_number v r a.0 in
    let later = rows_recorded v rows a.1 in
    rw (here, later)

first_numbers : (s : List ℕ) (job : Job) → read_job s ≡ Held job → edition_of s ≡ One → numbers_of s ≡ row_numbers (length (table_of_job job).starts)
unfolding numbers_by job_of table_of_job
first_numbers s job held first =
    ap (λ (e : Edition). numbers_by e s) first
    ∙ ap (λ (j : Job). row_numbers (length j.variants)) (held_job s held)
    ∙ ap row_numbers (sym (length-map job.variants (λ (x : Variant). x.start)))

module _ (c : Call) (few : length c.table.starts ≤ 16) where
  abbrev v : ℕ
  v = length c.table.starts

  all_different : repeated_number (row_numbers v) ≡ false
  all_different = go (repeated_number (row_numbers v)) refl
    where
      go : (t : Bool) → repeated_number (row_numbers v) ≡ t → t ≡ false
      go true e =
          let h = repeated_shared (row_numbers v) e in
          let s : h.1 < v = omega (arith, h.3, long_rows v) in
          absurd (omega (arith, h.2, h.4, row_number v h.0 (omega (arith, h.2, s)), row_number v h.1 s))
      go false e = refl

  present_fault : numbered_fault (numbered_by_row c) ≡ first_fault c
  present_fault =
      same_fault (numbered_by_row c) (ap not (eq-eqb (length (row_numbers v)) v (long_rows v))) all_different (le-ltb 16 v few)

  present_records : records_of (numbered_by_row c) ≡ rows_of c
  unfolding records_at
  present_records = rw (same_rows (numbered_by_row c) present_fault) (rows_recorded v (rows_of c) (rows_below c))

pub record_numbers_lem : RecordNumbers
record_numbers_lem = record {
  as_before = λ n e. (same_answer n (accepted_as n e), same_rows n (accepted_as n e));
  demand3 = λ n h. demand3_holds n.call (by_search n h);
  independent = λ n m c e f. (
    same_answer n (accepted_as n e) ∙ ap answer_of c ∙ sym (same_answer m (accepted_as m f)),
    same_rows n (accepted_as n e) ∙ ap rows_of c ∙ sym (same_rows m (accepted_as m f)),
  );
  fourteen_shared = only_shared;
  shared_fourteen = always_shared;
  one_row = names_one;
  as_many = all_recorded;
  in_order = λ n e i h. (in_table n e i h, recorded n i h);
  unchanged = none_recorded;
  first_edition = first_numbers;
  present = λ c few. (same_answer (numbered_by_row c) (present_fault c few), (same_rows (numbered_by_row c) (present_fault c few), present_records c few));
}
