-- An accepted call of several haplotypes: its table is accepted with no parts at all, its stretches lie within their slices, and its rooms suffice. A table that is
-- accepted leaves a haplotype's own call to be refused by the parts' rows alone. Assumes nothing.
use Prim.Native.Nat.{ℕ, ◌*◌, ◌^◌, ◌≤◌, ◌<◌}
use native.Mathlib.Omega.{arith}
use native.Mathlib.Nat.{zero-mul}
use mathlib.Core.Path.{◌≡◌, refl, ◌∙◌}
use mathlib.Core.Bool.{false, not, ◌&&◌}
use mathlib.Core.List.{List, [], ◌∷◌, ◌++◌}
use borrow.Author.Tests.{leb-true, ltb-false, eqb-true, not-false}
use lib.Dec.{leb, eqb}
use lib.ListN.{length, get_or}
use Rattle.paths.proofs.BooleanLaws.{and_both}
use Rattle.params.specs.declared.Settings.{Settings}
use Rattle.params.specs.Numbers.{Table, Parts, parts_of, call_of, Rule, rule, first_of, any_below, no_variants, too_many, table_disagrees, bad_size, bad_row, empty_row}
use Rattle.params.specs.Numbers.{little_queue_room, little_answer_room, settings_rules, bound_rules, parts_rules, call_rules, first_fault}
use Rattle.params.specs.Several.{Several, haplotypes, begin_of, ends_disagree, several_rules, several_fault}
use Rattle.params.proofs.CheckLaws.{Passed, none_given, or_no}
use Rattle.params.proofs.SeveralLaws.{enough}
use Rattle.params.proofs.EndLaws.{within_slice}

-- ---- the rows that look at no part
module _ (s : Settings) (t : Table) (queue answers : ℕ) where
  abbrev table_rows : List Rule
  table_rows =
      settings_rules s
      ++ (rule 4 (no_variants t.starts)
      ∷ (rule 5 (too_many (length t.starts))
      ∷ (rule 6 (table_disagrees (4 ^ s.k) t)
      ∷ (bound_rules t.starts t.ends
      ++ (rule 9 (bad_size t.sizes)
      ∷ (rule 10 (bad_row (4 ^ s.k) (length t.starts) t.features)
      ∷ (rule 16 (empty_row (4 ^ s.k) (length t.starts) t.features)
      ∷ (rule 11 (little_queue_room s (length t.starts) queue)
      ∷ (rule 12 (little_answer_room (length t.starts) answers)
      ∷ [])))))))))

  -- where none of them is given, the call's fault is its parts'
  by_parts : Passed table_rows → (p : Parts) → first_fault (call_of s t p queue answers) ≡ first_of (parts_rules (4 ^ s.k) p)
  unfolding first_fault
  by_parts q p =
      let bounds = q.1.1.1.1.1.1 in
      let last = bounds.1.1 in
      rw (q.0, q.1.0, q.1.1.0, q.1.1.1.0, q.1.1.1.1.0, q.1.1.1.1.1.0, bounds.0, bounds.1.0, last.0, last.1.0, last.1.1.0, last.1.1.1.0, last.1.1.1.1.0)

  no_parts : first_of (parts_rules (4 ^ s.k) (parts_of [] [])) ≡ 0
  unfolding bad_size bad_row any_below
  no_parts = rw (zero-mul (4 ^ s.k))

  pub table_alone : Passed table_rows → first_fault (call_of s t (parts_of [] []) queue answers) ≡ 0
  table_alone q = by_parts q (parts_of [] []) ∙ no_parts

  pub own_fault : (p : Parts) → first_fault (call_of s t (parts_of [] []) queue answers) ≡ 0 → first_fault (call_of s t p queue answers) ≡ first_of (parts_rules (4 ^ s.k) p)
  unfolding first_fault
  own_fault p e =
      let a = none_given (call_rules (call_of s t (parts_of [] []) queue answers)) refl e in
      let rows = a.1.1.1 in
      let bounds = rows.1.1.1.1.1 in
      let limits = bounds.1.1 in
      by_parts (
        a.0,
        (
          a.1.0,
          (
            a.1.1.0,
            (
              rows.0,
              (
                rows.1.0,
                (
                  rows.1.1.1.0,
                  (
                    bounds.0,
                    (
                      bounds.1.0,
                      (limits.0, (limits.1.1.0, (limits.1.1.1.1.0, (limits.1.1.1.1.1.0, (limits.1.1.1.1.1.1.0, tt))))),
                    ),
                  ),
                ),
              ),
            ),
          ),
        ),
      ) p

-- ---- an accepted call of several
module _ (c : Several) (zeroFault : several_fault c ≡ 0) where
  all_passed : Passed (several_rules c)
  unfolding several_fault
  all_passed = none_given (several_rules c) refl zeroFault

  pub table_accepted : first_fault (call_of c.settings c.table (parts_of [] []) c.queue_room (length c.table.starts)) ≡ 0
  table_accepted =
      let a = all_passed in
      let rows = a.1.1.1 in
      let shape = rows.1.1 in
      let bounds = shape.1.1.1.1.1 in
      let limits = bounds.1.1 in
      let empty = limits.1.1.1.1 in
      let rooms = empty.1 in
      table_alone c.settings c.table c.queue_room (length c.table.starts) (
        a.0,
        (
          a.1.0,
          (
            a.1.1.0,
            (
              rows.0,
              (
                shape.0,
                (
                  shape.1.1.0,
                  (
                    bounds.0,
                    (
                      bounds.1.0,
                      (limits.0, (limits.1.1.0, (empty.0, (rooms.0, (enough (length c.table.starts), tt))))),
                    ),
                  ),
                ),
              ),
            ),
          ),
        ),
      )

  -- the row of the stretches, its three parts
  lie_well : (ends_disagree c.part_ends (length c.parts.sizes) ≡ false) × (ends_disagree c.feature_ends (length c.parts.features) ≡ false)
  lie_well =
      or_no (ends_disagree c.part_ends (length c.parts.sizes)) (ends_disagree c.feature_ends (length c.parts.features))
      (or_no (not (eqb (length c.feature_ends) (haplotypes c))) _ all_passed.1.1.1.1.1.1.1.1.1.0).1

  pub as_many_ends : length c.feature_ends ≡ haplotypes c
  as_many_ends =
      eqb-true (length c.feature_ends) (haplotypes c) (not-false (eqb (length c.feature_ends) (haplotypes c))
      (or_no (not (eqb (length c.feature_ends) (haplotypes c))) _ all_passed.1.1.1.1.1.1.1.1.1.0).0)

  pub haplotype_count : (1 ≤ haplotypes c) × (haplotypes c ≤ 16)
  haplotype_count =
      let both = and_both (leb 1 (haplotypes c)) (leb (haplotypes c) 16) (not-false (leb 1 (haplotypes c) && leb (haplotypes c) 16) all_passed.1.1.1.1.0) in
      (leb-true 1 (haplotypes c) both.0, leb-true (haplotypes c) 16 both.1)

  -- stretch i of the parts and of the features
  pub parts_within : (i : ℕ) → i < haplotypes c → (begin_of c.part_ends i ≤ get_or c.part_ends i 0) × (get_or c.part_ends i 0 ≤ length c.parts.sizes)
  parts_within i l = within_slice c.part_ends (length c.parts.sizes) lie_well.0 i l

  pub features_within : (i : ℕ) → i < haplotypes c → (begin_of c.feature_ends i ≤ get_or c.feature_ends i 0) × (get_or c.feature_ends i 0 ≤ length c.parts.features)
  features_within i l = within_slice c.feature_ends (length c.parts.features) lie_well.1 i (omega (arith, as_many_ends))

  abbrev rooms : Passed (rule 12 (little_answer_room (length c.table.starts * haplotypes c) c.answer_room) ∷ (rule 12 (little_answer_room (8 * haplotypes c) c.report_room) ∷ []))
  rooms = all_passed.1.1.1.1.1.1.1.1.1.1.1.1.1.1.1.1.1.1

  pub rows_suffice : length c.table.starts * haplotypes c ≤ c.answer_room
  rows_suffice = ltb-false c.answer_room (length c.table.starts * haplotypes c) rooms.0

  pub reports_suffice : 8 * haplotypes c ≤ c.report_room
  reports_suffice = ltb-false c.report_room (8 * haplotypes c) rooms.1.0
