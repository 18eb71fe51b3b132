-- A row added or taken away: each refusal in its place and nothing changed, or the sheet of the rows then present. Assumes nothing.
use Prim.Native.Nat.{ℕ, zero, suc, ◌+◌, ◌-◌, ◌≤◌, ◌<◌}
use native.Mathlib.Omega.{arith}
use mathlib.Core.Path.{◌≡◌, refl, sym, ap, ◌∙◌}
use mathlib.Core.Bool.{Bool, true, false}
use mathlib.Core.List.{List, [], ◌∷◌}
use borrow.Author.Tests.{ltb-false, eq-eqb, ne_eqb}
use lib.Dec.{eqb}
use lib.ListN.{set}
use lib.Seq.{get_or-set_other}
use Rattle.params.specs.Numbers.{rule}
use Rattle.std.proofs.lemmas.Grind.{common_steps}
use Rattle.params.proofs.CheckLaws.{Passed, none_given}
use Rattle.companions.specs.Companions.{Companions, lent_of, sheet_of, not_its_sheet}
use Rattle.companions.specs.Changes.{add_rules, add_fault, remove_fault, added_to, taken_from, changed_unless}
use Rattle.companions.proofs.SheetLaws.{only_present}
use Rattle.companions.proofs.TableLaws.{table_within, sound_table, sound_sheet}

-- nothing changed on a refusal
pub kept_refused : {f : ℕ} (fault : ℕ) (new old : Companions) → f ≡ fault → (f ≡ 0 → ⊥) → old ≡ changed_unless fault new old
kept_refused zero new old e h = absurd (h e)
kept_refused (suc n) new old e h = refl

pub changed : (fault : ℕ) (new old : Companions) → fault ≡ 0 → new ≡ changed_unless fault new old
changed fault new old z = rw z

-- ---- adding
module _ (c : Companions) (start end : ℕ) where
  pub add_own : add_fault c start end ≡ 0 → not_its_sheet c ≡ false
  unfolding add_fault
  add_own z = grind (arith, common_steps)

  pub add_ahead : add_fault c start end ≡ 0 → start ≤ end
  unfolding add_fault
  add_ahead z = grind (arith, common_steps)

  -- what an accepted row tells
  pub add_passed : add_fault c start end ≡ 0 → Passed (add_rules c start end)
  unfolding add_fault
  add_passed z = none_given (add_rules c start end) refl z

module _ (starts ends : List ℕ) (sheet : List Bool) (rows start end : ℕ) (told : 0 ≡ add_fault (lent_of starts ends sheet rows) start end) where
  abbrev before : Companions
  before = lent_of starts ends sheet rows

  accepted : add_fault before start end ≡ 0
  accepted = sym told

  pub add_room : rows < 64
  add_room = let h = ltb-false 64 (rows + 1) (add_passed before start end accepted).1.0 in omega arith

  -- whatever is laid behind the last row plays no part in the sheet before
  pub add_ready : (x y : ℕ) → sheet ≡ sheet_of (set starts rows x) (set ends rows y) rows
  add_ready x y = sound_sheet before (add_own before start end accepted)
      ∙ only_present starts ends (set starts rows x) (set ends rows y) rows
      (λ i l. sym (get_or-set_other starts rows i x 0 (λ q. omega arith)))
      (λ i l. sym (get_or-set_other ends rows i y 0 (λ q. omega arith)))

  pub add_done : {sheet' : List Bool} → sheet' ≡ sheet_of (set starts rows start) (set ends rows end) (rows + 1)
      → (0 ≡ add_fault before start end)
      × (lent_of (set starts rows start) (set ends rows end) sheet' (rows + 1) ≡ changed_unless (add_fault before start end) (added_to before start end) before)
  add_done k =
      (told, ap (λ (s : List Bool). lent_of (set starts rows start) (set ends rows end) s (rows + 1)) k ∙ changed (add_fault before start end) (added_to before start end) before accepted)

-- ---- taking away
module _ (c : Companions) where
  remove_first : not_its_sheet c ≡ true → 49 ≡ remove_fault c
  unfolding remove_fault
  remove_first h = rw h

  module _ (own : not_its_sheet c ≡ false) where
    remove_empty : c.rows ≡ 0 → 44 ≡ remove_fault c
    unfolding remove_fault
    remove_empty z = rw (own, eq-eqb c.rows 0 z)

    pub remove_some : (c.rows ≡ 0 → ⊥) → remove_fault c ≡ 0
    unfolding remove_fault
    remove_some n = rw (own, ne_eqb c.rows 0 n)

  pub remove_passed : remove_fault c ≡ 0 → Passed (rule 49 (not_its_sheet c) ∷ (rule 44 (eqb c.rows 0) ∷ []))
  unfolding remove_fault
  remove_passed z = none_given (rule 49 (not_its_sheet c) ∷ (rule 44 (eqb c.rows 0) ∷ [])) refl z

module _ (starts ends : List ℕ) (sheet : List Bool) (rows : ℕ) where
  abbrev lent : Companions
  lent = lent_of starts ends sheet rows

  pub remove_not_its : not_its_sheet lent ≡ true → (49 ≡ remove_fault lent) × (lent ≡ changed_unless (remove_fault lent) (taken_from lent) lent)
  remove_not_its h = (told, kept_refused (remove_fault lent) (taken_from lent) lent told (λ z. omega arith))
    where
      told : 49 ≡ remove_fault lent
      told = remove_first lent h

  module _ (own : not_its_sheet lent ≡ false) where
    pub remove_none : rows ≡ 0 → (44 ≡ remove_fault lent) × (lent ≡ changed_unless (remove_fault lent) (taken_from lent) lent)
    remove_none z = (told, kept_refused (remove_fault lent) (taken_from lent) lent told (λ q. omega arith))
      where
        told : 44 ≡ remove_fault lent
        told = remove_empty lent own z

    pub remove_ready : (rows ≡ 0 → ⊥) → (rows - 1 < 64) × (sheet ≡ sheet_of starts ends (rows - 1 + 1))
    remove_ready n =
        let few = table_within rows starts ends (sound_table lent own) in
        let back : rows ≡ rows - 1 + 1 = omega arith in
        (omega arith, sound_sheet lent own ∙ ap (λ (k : ℕ). sheet_of starts ends k) back)

    pub remove_done : (rows ≡ 0 → ⊥) → {sheet' : List Bool} → sheet' ≡ sheet_of starts ends (rows - 1)
        → (0 ≡ remove_fault lent) × (lent_of starts ends sheet' (rows - 1) ≡ changed_unless (remove_fault lent) (taken_from lent) lent)
    remove_done n k =
        let z = remove_some lent own n in
        (sym z, ap (λ (s : List Bool). lent_of starts ends s (rows - 1)) k ∙ changed (remove_fault lent) (taken_from lent) lent z)
