-- The faults of the rows present, and 49: a table that is refused, or a sheet that is not the one worked out afresh. Assumes nothing.
use Prim.Native.Nat.{ℕ, ◌≤◌, ◌<◌}
use native.Mathlib.Omega.{arith}
use mathlib.Core.Path.{◌≡◌, refl, sym, ap, ◌∙◌}
use mathlib.Core.Bool.{Bool, true, false, not}
use mathlib.Core.List.{List}
use borrow.Author.Tests.{ltb-true, ltb-false, lt-ltb, le-ltb, eq-eqb, ne_eqb, eqb-true, not-false}
use lib.Dec.{ltb, eqb}
use lib.ListN.{length, take}
use lib.Seq.{length-take-le}
use Rattle.params.specs.Numbers.{first_of, bound_rules, chain_count_fault}
use Rattle.params.proofs.CheckLaws.{given, passed, or_no}
use Rattle.params.proofs.BoundLaws.{count_bounds, no_bounds}
use Rattle.companions.specs.Companions.{Companions, sheet_of, same_flags, table_fault, not_its_sheet}
use Rattle.companions.proofs.SheetLaws.{same_told, same_itself}

module _ (n : ℕ) (starts ends : List ℕ) where
  pub table_long : 64 < n → 5 ≡ table_fault n starts ends
  unfolding table_fault
  table_long h = given (ltb 64 n) 5 _ (lt-ltb 64 n h)

  pub table_few : n ≤ 64 → {f : ℕ} → f ≡ first_of (bound_rules (take n starts) (take n ends)) → f ≡ table_fault n starts ends
  unfolding table_fault
  table_few h e = passed (ltb 64 n) 5 _ _ (le-ltb 64 n h) e

  pub table_empty : n ≡ 0 → 0 ≡ table_fault n starts ends
  table_empty z = table_few (omega arith) (no_bounds (take n starts) (take n ends) (ap (λ (k : ℕ). take k starts) z))

  pub table_some : (1 ≤ n) → n ≤ 64 → length starts ≡ 64 → length ends ≡ 64 → {f : ℕ} → f ≡ chain_count_fault 0 (take n starts) (take n ends) → f ≡ table_fault n starts ends
  table_some l h s e f =
      let some = length-take-le n starts (omega arith) in
      let others = length-take-le n ends (omega arith) in
      table_few h (f ∙ count_bounds (take n starts) (take n ends) (omega arith) (omega arith) (others ∙ sym some))

  -- a table without a fault has few rows, and passes the bounds
  pub table_within : table_fault n starts ends ≡ 0 → n ≤ 64
  unfolding table_fault
  table_within z = go (ltb 64 n) refl
    where
      go : (b : Bool) → ltb 64 n ≡ b → n ≤ 64
      go true e = absurd (ne z)
        where
          ne : table_fault n starts ends ≡ 0 → ⊥
          ne z = let f = table_long (ltb-true 64 n e) in omega arith
      go false e = ltb-false 64 n e

  pub table_bounds : table_fault n starts ends ≡ 0 → first_of (bound_rules (take n starts) (take n ends)) ≡ 0
  table_bounds z = table_few (table_within z) refl ∙ z

module _ (c : Companions) where
  abbrev fault : ℕ
  fault = table_fault c.rows c.starts c.ends

  abbrev own : List Bool
  own = sheet_of c.starts c.ends c.rows

  pub by_table : {f : ℕ} → f ≡ fault → (f ≡ 0 → ⊥) → true ≡ not_its_sheet c
  unfolding not_its_sheet
  by_table e h = rw (ne_eqb fault 0 (λ z. h (e ∙ z)))

  pub by_sheet : 0 ≡ fault → {same : Bool} → {made : List Bool} → made ≡ own → same ≡ same_flags c.sheet made → not same ≡ not_its_sheet c
  unfolding not_its_sheet
  by_sheet e m s = rw (eq-eqb fault 0 (sym e)) (ap not (s ∙ ap (same_flags c.sheet) m))

  -- where 49 is not given, the table has no fault and the sheet is its own
  pub sound_table : not_its_sheet c ≡ false → fault ≡ 0
  unfolding not_its_sheet
  sound_table h = eqb-true fault 0 (not-false (eqb fault 0) (or_no (not (eqb fault 0)) _ h).0)

  pub sound_sheet : not_its_sheet c ≡ false → c.sheet ≡ own
  unfolding not_its_sheet
  sound_sheet h = same_told c.sheet own (not-false (same_flags c.sheet own) (or_no (not (eqb fault 0)) _ h).1)

  pub sound : fault ≡ 0 → c.sheet ≡ own → not_its_sheet c ≡ false
  sound z e = sym (by_sheet (sym z) refl (sym (same_itself own) ∙ ap (λ (l : List Bool). same_flags l own) (sym e)))
