-- Where a refusal of the record numbers stands among those of a call of several haplotypes, as NumberLaws has it of one. Over 64 variants are refused by 5 at the
-- latest and over 16 haplotypes by 27, before any of the numbers' rows is asked. Assumes nothing.
use Prim.Native.Nat.{ℕ, ◌*◌, ◌^◌}
use native.Mathlib.Omega.{arith}
use mathlib.Core.Path.{◌≡◌, refl, sym, ap, ◌∙◌}
use mathlib.Core.Bool.{Bool, true, false, cond}
use mathlib.Core.List.{List, [], ◌∷◌, ◌++◌}
use borrow.Author.Tests.{ltb-true, ne_eqb}
use lib.Dec.{ltb, eqb}
use lib.ListN.{length}
use Rattle.params.specs.Numbers.{Parts, Rule, rule, first_of, disagrees, no_variants, little_queue_room, little_answer_room, settings_rules, shape_rules, bound_rules, limit_rules}
use Rattle.params.specs.Several.{Several, haplotypes, bad_count, stretches_disagree, shared_parts, several_fault}
use Rattle.params.specs.TableOrder.{earlier_of, first_in_table}
use Rattle.params.proofs.SeveralLaws.{over_sixteen}
use Rattle.params.proofs.TableOrderLaws.{stands, still_refused}
use Rattle.dive.specs.Numbered.{repeated_number}
use Rattle.dive.specs.NumberedSeveral.{NumberedSeveral, numbered_several_fault}
use Rattle.dive.specs.NumberChecks.{number_fault}
use Rattle.dive.proofs.NumberLaws.{own_of}

module _ (c : Several) where
  abbrev v : ℕ
  v = length c.table.starts

  abbrev p : Parts
  p = shared_parts (eqb (haplotypes c) 1) c.parts

  abbrev first_rows : Bool → List Rule
  first_rows count =
      settings_rules c.settings
      ++ (rule 4 (no_variants c.table.starts)
      ∷ (rule 27 count
      ∷ (shape_rules (4 ^ c.settings.k) c.table p
      ++ (rule 6 (stretches_disagree c.part_ends c.feature_ends (length c.parts.sizes) (length c.parts.features)) ∷ []))))

  abbrev bound_rows : List Rule
  bound_rows = bound_rules c.table.starts c.table.ends

  abbrev last_rows : List Rule
  last_rows =
      limit_rules (4 ^ c.settings.k) c.table p
      ++ (rule 11 (little_queue_room c.settings v c.queue_room)
      ∷ (rule 12 (little_answer_room (v * haplotypes c) c.answer_room)
      ∷ (rule 12 (little_answer_room (8 * haplotypes c) c.report_room) ∷ [])))

  abbrev joined_rows : Bool → Bool → Bool → Bool → List Rule
  joined_rows count six fourteen twelve =
      first_rows count ++ (rule 6 six ∷ (bound_rows ++ (rule 14 fourteen ∷ (last_rows ++ (rule 12 twelve ∷ [])))))

  abbrev count : Bool
  count = bad_count (haplotypes c)

  one_given : (six fourteen twelve : Bool) → (own_of six fourteen twelve ≡ 0 → ⊥)
      → first_of (joined_rows count six fourteen twelve) ≡ earlier_of (several_fault c) (own_of six fourteen twelve)
  unfolding several_fault earlier_of
  one_given true fourteen twelve h =
      stands 6 (first_rows count) (bound_rows ++ last_rows) (bound_rows ++ (rule 14 fourteen ∷ (last_rows ++ (rule 12 twelve ∷ [])))) refl refl
  one_given false true twelve h = stands 14 (first_rows count ++ bound_rows) last_rows (last_rows ++ (rule 12 twelve ∷ [])) refl refl
  one_given false false true h = stands 12 (first_rows count ++ (bound_rows ++ last_rows)) [] [] refl refl
  one_given false false false h = absurd (h refl)

  none_asked : (six fourteen twelve : Bool) → own_of six fourteen twelve ≡ 0 → first_of (joined_rows count six fourteen twelve) ≡ several_fault c
  unfolding several_fault
  none_asked true fourteen twelve e = absurd (omega arith)
  none_asked false true twelve e = absurd (omega arith)
  none_asked false false true e = absurd (omega arith)
  none_asked false false false e = refl

  too_many : (six fourteen twelve : Bool) → ltb 64 v ≡ true → first_of (joined_rows count six fourteen twelve) ≡ several_fault c
  unfolding several_fault
  too_many six fourteen twelve e = rw e

  too_many_haplotypes : (six fourteen twelve : Bool) → ltb 16 (haplotypes c) ≡ true → first_of (joined_rows count six fourteen twelve) ≡ several_fault c
  unfolding several_fault
  too_many_haplotypes six fourteen twelve e = go count (over_sixteen (haplotypes c) (ltb-true 16 (haplotypes c) e)) refl
    where
      go : (given : Bool) → given ≡ true → given ≡ count → first_of (joined_rows given six fourteen twelve) ≡ first_of (first_rows given ++ (bound_rows ++ last_rows))
      go true e f = refl
      go false e f = let z : ◌≡◌ {A = ℕ} 0 1 = cc in absurd (omega arith)

module _ (n : NumberedSeveral) where
  abbrev whole : Several
  whole = n.several

  abbrev variants : ℕ
  variants = length n.several.table.starts

  abbrev many : ℕ
  many = haplotypes n.several

  abbrev own : ℕ
  own = number_fault variants many n.numbers n.record_room

  abbrev six : Bool
  six = disagrees (length n.numbers) variants

  abbrev fourteen : Bool
  fourteen = repeated_number n.numbers

  abbrev twelve : Bool
  twelve = little_answer_room (variants * many) n.record_room

  abbrev asked : Bool → Bool → ℕ
  asked t u = cond t 0 (cond u 0 (own_of six fourteen twelve))

  -- numbers that are refused join the other fault
  pub several_refused : (own ≡ 0 → ⊥) → numbered_several_fault n ≡ earlier_of (several_fault whole) own
  unfolding numbered_several_fault number_fault
  several_refused h = go (ltb 64 variants) (ltb 16 many) h
    where
      go : (t u : Bool) → (asked t u ≡ 0 → ⊥) → first_of (joined_rows whole (count whole) six fourteen twelve) ≡ earlier_of (several_fault whole) (asked t u)
      go true u h = absurd (h refl)
      go false true h = absurd (h refl)
      go false false h = one_given whole six fourteen twelve h

  -- numbers that are not refused leave it
  pub several_good : own ≡ 0 → numbered_several_fault n ≡ several_fault whole
  unfolding numbered_several_fault number_fault
  several_good e = go (ltb 64 variants) (ltb 16 many) refl refl e
    where
      go : (t u : Bool) → ltb 64 variants ≡ t → ltb 16 many ≡ u → asked t u ≡ 0 → first_of (joined_rows whole (count whole) six fourteen twelve) ≡ several_fault whole
      go true u l m e = too_many whole six fourteen twelve l
      go false true l m e = too_many_haplotypes whole six fourteen twelve m
      go false false l m e = none_asked whole six fourteen twelve e

  -- by what the two checks found
  pub joined_fault : {found other fault : ℕ} → found ≡ own → (found ≡ 0 → ⊥) → other ≡ several_fault whole → fault ≡ first_in_table other found
      → (fault ≡ numbered_several_fault n) × (fault ≡ 0 → ⊥)
  joined_fault {found} {other} is h others f =
      let e = rw (ne_eqb found 0 h) at f in
      let same : earlier_of other found ≡ earlier_of (several_fault whole) own = ap (λ (m : ℕ). earlier_of m found) others ∙ ap (λ (m : ℕ). earlier_of (several_fault whole) m) is in
      (e ∙ (same ∙ sym (several_refused (λ z. h (is ∙ z)))), λ z. still_refused other found h (sym e ∙ z))
