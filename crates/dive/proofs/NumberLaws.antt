-- Where a refusal of the record numbers stands among those of the call: the first refusal of the joined table is the earlier of the two (TableOrderLaws, params).
-- Over 64 variants are refused by 5 at the latest, before any of the three is asked. Assumes nothing.
use Prim.Native.Nat.{ℕ, ◌*◌, ◌^◌, ◌≤◌}
use native.Mathlib.Omega.{arith}
use native.Mathlib.Nat.{mul-one}
use mathlib.Core.Path.{◌≡◌, refl, sym, ap, ◌∙◌}
use mathlib.Core.Bool.{Bool, true, false, cond}
use mathlib.Core.List.{List, [], ◌∷◌, ◌++◌}
use borrow.Author.Tests.{ltb-true, ltb-false}
use lib.Dec.{ltb}
use lib.ListN.{length}
use Rattle.params.specs.Numbers.{Call, Rule, rule, first_of, disagrees, little_answer_room, settings_rules, length_rules, bound_rules, limit_rules, room_rules, first_fault}
use Rattle.params.specs.TableOrder.{earlier_of}
use Rattle.params.proofs.CheckedLaws.{accepted}
use Rattle.params.proofs.TableOrderLaws.{stands}
use Rattle.dive.specs.Numbered.{Numbered, repeated_number, numbered_fault}
use Rattle.dive.specs.NumberChecks.{number_fault}

-- ---- the joined table of a call, by what its three new rows ask

abbrev pub own_of : Bool → Bool → Bool → ℕ
own_of six fourteen twelve = cond six 6 (cond fourteen 14 (cond twelve 12 0))

module _ (c : Call) where
  abbrev first_rows : List Rule
  first_rows = settings_rules c.settings ++ length_rules (4 ^ c.settings.k) c.table c.parts

  abbrev bound_rows : List Rule
  bound_rows = bound_rules c.table.starts c.table.ends

  abbrev last_rows : List Rule
  last_rows =
      limit_rules (4 ^ c.settings.k) c.table c.parts
      ++ room_rules c.settings (length c.table.starts) c.queue_room c.answer_room

  abbrev joined_rows : Bool → Bool → Bool → List Rule
  joined_rows six fourteen twelve =
      first_rows ++ (rule 6 six ∷ (bound_rows ++ (rule 14 fourteen ∷ (last_rows ++ (rule 12 twelve ∷ [])))))

  one_given : (six fourteen twelve : Bool) → (own_of six fourteen twelve ≡ 0 → ⊥)
      → first_of (joined_rows six fourteen twelve) ≡ earlier_of (first_fault c) (own_of six fourteen twelve)
  unfolding first_fault earlier_of
  one_given true fourteen twelve h =
      stands 6 first_rows (bound_rows ++ last_rows) (bound_rows ++ (rule 14 fourteen ∷ (last_rows ++ (rule 12 twelve ∷ [])))) refl refl
  one_given false true twelve h = stands 14 (first_rows ++ bound_rows) last_rows (last_rows ++ (rule 12 twelve ∷ [])) refl refl
  one_given false false true h = stands 12 (first_rows ++ (bound_rows ++ last_rows)) [] [] refl refl
  one_given false false false h = absurd (h refl)

  none_asked : (six fourteen twelve : Bool) → own_of six fourteen twelve ≡ 0 → first_of (joined_rows six fourteen twelve) ≡ first_fault c
  unfolding first_fault
  none_asked true fourteen twelve e = absurd (omega arith)
  none_asked false true twelve e = absurd (omega arith)
  none_asked false false true e = absurd (omega arith)
  none_asked false false false e = refl

  too_many : (six fourteen twelve : Bool) → ltb 64 (length c.table.starts) ≡ true → first_of (joined_rows six fourteen twelve) ≡ first_fault c
  unfolding first_fault
  too_many six fourteen twelve e = rw e

  few_variants : first_fault c ≡ 0 → length c.table.starts ≤ 64
  few_variants e = let h = accepted c e in omega (arith, h.sized.few, h.sizes_are)

module _ (n : Numbered) where
  abbrev variants : ℕ
  variants = length n.call.table.starts

  abbrev six : Bool
  six = disagrees (length n.numbers) variants

  abbrev fourteen : Bool
  fourteen = repeated_number n.numbers

  -- the room for one haplotype
  abbrev twelve : Bool
  twelve = little_answer_room (variants * 1) n.record_room

  abbrev own : ℕ
  own = number_fault variants 1 n.numbers n.record_room

  for_one : numbered_fault n ≡ first_of (joined_rows n.call six fourteen twelve)
  unfolding numbered_fault
  for_one = ap (λ (v : ℕ). first_of (joined_rows n.call six fourteen (little_answer_room v n.record_room))) (sym (mul-one variants))

  -- numbers that are refused join the call's own fault
  pub numbers_refused : (own ≡ 0 → ⊥) → numbered_fault n ≡ earlier_of (first_fault n.call) own
  unfolding number_fault
  numbers_refused h = for_one ∙ go (ltb 64 variants) h
    where
      go : (t : Bool) → (cond t 0 (own_of six fourteen twelve) ≡ 0 → ⊥)
          → first_of (joined_rows n.call six fourteen twelve) ≡ earlier_of (first_fault n.call) (cond t 0 (own_of six fourteen twelve))
      go true h = absurd (h refl)
      go false h = one_given n.call six fourteen twelve h

  -- numbers that are not refused leave it
  pub numbers_good : own ≡ 0 → numbered_fault n ≡ first_fault n.call
  unfolding number_fault
  numbers_good e = for_one ∙ go (ltb 64 variants) refl e
    where
      go : (t : Bool) → ltb 64 variants ≡ t → cond t 0 (own_of six fourteen twelve) ≡ 0 → first_of (joined_rows n.call six fourteen twelve) ≡ first_fault n.call
      go true many e = too_many n.call six fourteen twelve many
      go false few e = none_asked n.call six fourteen twelve e

  -- numbers that are not refused have room for V records
  pub records_suffice : own ≡ 0 → first_fault n.call ≡ 0 → variants ≤ n.record_room
  unfolding number_fault
  records_suffice e f = go (ltb 64 variants) six fourteen twelve refl refl e
    where
      go : (t a b d : Bool) → ltb 64 variants ≡ t → twelve ≡ d → cond t 0 (own_of a b d) ≡ 0 → variants ≤ n.record_room
      go true a b d many room e = let over = ltb-true 64 variants many in let few = few_variants n.call f in absurd (omega arith)
      go false true b d few room e = absurd (omega arith)
      go false false true d few room e = absurd (omega arith)
      go false false false true few room e = absurd (omega arith)
      go false false false false few room e = omega (arith, ltb-false n.record_room (variants * 1) room, mul-one variants)
