-- What a call with record numbers answers, by what was found in the numbers. Where they are refused, nothing is found; where they are not, the fault is
-- the call's own, so that the answer, its rows and who may write the queue are `apply_haplotype`'s. The rows were placed in their buffer, so that its
-- first ones are they; and they are no more than V, for which the numbers have room. Assumes nothing.
use Prim.Native.Nat.{ℕ, zero, suc, ◌≤◌}
use native.Mathlib.Omega.{arith}
use mathlib.Core.Path.{◌≡◌, refl, sym, ap, ◌∙◌}
use mathlib.Core.Bool.{Bool, true, false, cond, ◌&&◌}
use borrow.Author.Tests.{eqb-true, eqb-false}
use mathlib.Core.List.{List, [], ◌++◌}
use lib.Dec.{eqb}
use lib.ListN.{length, take, drop, length-append}
use lib.Seq.{take_at}
use Rattle.metrics.specs.Placed.{placed}
use Rattle.params.specs.Numbers.{Call, first_fault}
use Rattle.kplib.specs.Answer.{answer_with, none_found, in_search_mode, found_after, answer_of, rows_of, searches}
use Rattle.kplib.specs.declared.traverse.Answer.{Answer}
use Rattle.dive.specs.Numbered.{Numbered, numbered_fault, numbered_answer, numbered_rows, records_at, records_of, numbered_searches}
use Rattle.params.specs.TableOrder.{earlier_of, first_in_table}
use Rattle.params.proofs.TableOrderLaws.{still_refused}
use Rattle.dive.specs.NumberChecks.{number_fault}
use Rattle.dive.proofs.NumberLaws.{numbers_good, numbers_refused, records_suffice}
use Rattle.dive.proofs.RowLaws.{rows_within}

-- an accepted call has its rows, any other none
pub few_rows : (c : Call) (room : ℕ) → (first_fault c ≡ 0 → length c.table.starts ≤ room) → length (rows_of c) ≤ room
unfolding rows_of
few_rows c room h = go (first_fault c) refl
  where
    go : (fault : ℕ) → first_fault c ≡ fault → length (rows_of c) ≤ room
    go zero e = let w = rows_within c e in let v = h e in omega arith
    go (suc fault) e = let none : length (rows_of c) ≡ 0 = ap (λ (m : ℕ). length (found_after m c).rows) e in omega arith

module _ (n : Numbered) where
  abbrev own : ℕ
  own = number_fault (length n.call.table.starts) 1 n.numbers n.record_room

  -- ---- the fault, by what the two checks found
  joined : first_in_table (first_fault n.call) own ≡ numbered_fault n
  joined = go (eqb own 0) refl
    where
      go : (t : Bool) → eqb own 0 ≡ t → cond t (first_fault n.call) (earlier_of (first_fault n.call) own) ≡ numbered_fault n
      go true e = sym (numbers_good n (eqb-true own 0 e))
      go false e = sym (numbers_refused n (eqb-false own 0 e))

  pub fault_joined : {found other fault : ℕ} → found ≡ own → other ≡ first_fault n.call → fault ≡ first_in_table other found → fault ≡ numbered_fault n
  fault_joined {found} is others f =
      f ∙ (ap (λ (m : ℕ). first_in_table m found) others ∙ (ap (λ (m : ℕ). first_in_table (first_fault n.call) m) is ∙ joined))

  -- ---- the numbers are refused
  nothing_found : (fault : ℕ) → numbered_fault n ≡ fault → (fault ≡ 0 → ⊥) → (numbered_answer n ≡ answer_with fault none_found) × (numbered_rows n ≡ [])
  unfolding numbered_answer numbered_rows
  nothing_found zero e h = absurd (h refl)
  nothing_found (suc fault) e h =
      (ap (λ (m : ℕ). answer_with m (found_after m n.call)) e, ap (λ (m : ℕ). (found_after m n.call).rows) e)

  pub refused_numbered : {found fault : ℕ} {r : Answer} (rows records : List ℕ) → found ≡ own → (found ≡ 0 → ⊥) → fault ≡ numbered_fault n → r ≡ answer_with fault none_found
      → (r ≡ numbered_answer n) × ((rows ≡ placed rows (numbered_rows n)) × (records ≡ placed records (records_of n)))
  unfolding records_at
  refused_numbered {found} {fault} rows records is h f a =
      let own-refused : own ≡ 0 → ⊥ = λ z. h (is ∙ z) in
      let g = nothing_found fault (sym f) (λ z. still_refused (first_fault n.call) own own-refused (sym (numbers_refused n own-refused) ∙ sym f ∙ z)) in
      (a ∙ sym g.0, (ap (λ (l : List ℕ). placed rows l) (sym g.1), ap (λ (l : List ℕ). placed records (records_at n.numbers l)) (sym g.1)))

  -- ---- the numbers are not refused
  module _ (good : own ≡ 0) where
    pub as_answered : answer_of n.call ≡ numbered_answer n
    unfolding answer_of numbered_answer
    as_answered = ap (λ (m : ℕ). answer_with m (found_after m n.call)) (sym (numbers_good n good))

    pub as_placed : rows_of n.call ≡ numbered_rows n
    unfolding rows_of numbered_rows
    as_placed = ap (λ (m : ℕ). (found_after m n.call).rows) (sym (numbers_good n good))

    pub as_searched : searches n.call ≡ numbered_searches n
    unfolding searches numbered_searches
    as_searched = ap (λ (m : ℕ). eqb m 0 && in_search_mode n.call) (sym (numbers_good n good))

    module _ (rows : List ℕ) {r : Answer} {rows' : List ℕ} (is : r ≡ answer_of n.call) (stand : rows' ≡ placed rows (rows_of n.call)) where
      rows_are : r.rows ≡ length (rows_of n.call)
      unfolding answer_of rows_of
      rows_are = ap (λ (x : Answer). x.rows) is

      pub rows_fit : (r.rows ≤ length rows') × (r.rows ≤ n.record_room)
      rows_fit =
          let e = rows_are in
          let l : length rows' ≡ length (rows_of n.call ++ drop (length (rows_of n.call)) rows) = ap length stand in
          let a = length-append (rows_of n.call) (drop (length (rows_of n.call)) rows) in
          let f = few_rows n.call n.record_room (records_suffice n good) in
          (omega arith, omega arith)

      pub accepted_numbered : (records : List ℕ) {records' : List ℕ} → records' ≡ placed records (records_at n.numbers (take r.rows rows'))
          → (r ≡ numbered_answer n) × ((rows' ≡ placed rows (numbered_rows n)) × (records' ≡ placed records (records_of n)))
      accepted_numbered records h =
          let t : take r.rows rows' ≡ rows_of n.call =
          rw stand (take_at (rows_of n.call) (drop (length (rows_of n.call)) rows) r.rows (sym rows_are)) in
          (is ∙ as_answered, (stand ∙ ap (λ (l : List ℕ). placed rows l) as_placed, h ∙ ap (λ (l : List ℕ). placed records (records_at n.numbers l)) (t ∙ as_placed)))
