-- A call of several haplotypes, by what is asked of its stretches and what of the call that all share: the first refusal of the whole list is the earlier of
-- theirs. Where it is accepted the table is, the stretches lie within their slices, and each haplotype's own call is refused by its parts alone. Assumes nothing.
use Prim.Native.Nat.{ℕ, ◌*◌, ◌^◌, ◌≤◌, ◌<◌}
use native.Mathlib.Omega.{arith}
use mathlib.Core.Path.{◌≡◌, refl, sym, ap, ◌∙◌}
use mathlib.Core.Bool.{Bool, true, false, cond}
use mathlib.Core.List.{List, [], ◌∷◌, ◌++◌}
use borrow.Author.Tests.{le-ltb, le-leb, lt-leb, eqb-true, eqb-false}
use lib.Dec.{ltb, eqb}
use lib.ListN.{length}
use Rattle.params.specs.Numbers.{Parts, Rule, rule, first_of, no_variants, little_queue_room, little_answer_room, settings_rules, shape_rules, bound_rules, limit_rules, first_fault}
use Rattle.params.specs.Several.{Several, haplotypes, bad_count, stretches_disagree, shared_parts, several_fault}
use Rattle.params.specs.TableOrder.{first_in_table, earlier_of}
use Rattle.params.specs.SeveralChecks.{stretch_fault, shared_call}
use Rattle.params.proofs.TableOrderLaws.{stands}

abbrev own_of : Bool → Bool → Bool → Bool → ℕ
own_of count six twelve reports = cond count 27 (cond six 6 (cond twelve 12 (cond reports 12 0)))

-- the room that the shared call is said to have is just enough
pub enough : (v : ℕ) → little_answer_room v v ≡ false
enough v = le-ltb v v (omega arith)

-- the range of the count
pub no_haplotype : (n : ℕ) → n < 1 → bad_count n ≡ true
no_haplotype n h = rw (lt-leb 1 n h)

pub over_sixteen : (n : ℕ) → 16 < n → bad_count n ≡ true
over_sixteen n h = rw (le-leb 1 n (omega arith), lt-leb n 16 h)

pub good_count : (n : ℕ) → 1 ≤ n → n ≤ 16 → bad_count n ≡ false
good_count n l h = rw (le-leb 1 n l, le-leb n 16 h)

module _ (c : Several) where
  abbrev e : ℕ
  e = 4 ^ c.settings.k

  abbrev v : ℕ
  v = length c.table.starts

  abbrev p : Parts
  p = shared_parts (eqb (haplotypes c) 1) c.parts

  abbrev first_rows : List Rule
  first_rows = settings_rules c.settings ++ (rule 4 (no_variants c.table.starts) ∷ [])

  abbrev bound_rows : List Rule
  bound_rows = bound_rules c.table.starts c.table.ends

  abbrev last_rows : List Rule
  last_rows = limit_rules e c.table p ++ (rule 11 (little_queue_room c.settings v c.queue_room) ∷ [])

  abbrev answer_row : List Rule
  answer_row = rule 12 (little_answer_room v v) ∷ []

  abbrev joined_rows : Bool → Bool → Bool → Bool → List Rule
  joined_rows count six twelve reports =
      first_rows ++ (rule 27 count ∷ (shape_rules e c.table p ++ (rule 6 six ∷ (bound_rows ++ (last_rows ++ (rule 12 twelve ∷ (rule 12 reports ∷ [])))))))

  one_given : (count six twelve reports : Bool) → (own_of count six twelve reports ≡ 0 → ⊥)
      → first_of (joined_rows count six twelve reports) ≡ earlier_of (first_fault (shared_call c)) (own_of count six twelve reports)
  unfolding first_fault earlier_of
  one_given true six twelve reports h =
      stands 27 first_rows (shape_rules e c.table p ++ (bound_rows ++ (last_rows ++ answer_row)))
      (shape_rules e c.table p ++ (rule 6 six ∷ (bound_rows ++ (last_rows ++ (rule 12 twelve ∷ (rule 12 reports ∷ [])))))) refl refl
  one_given false true twelve reports h =
      stands 6 (first_rows ++ shape_rules e c.table p) (bound_rows ++ (last_rows ++ answer_row)) (bound_rows ++ (last_rows ++ (rule 12 twelve ∷ (rule 12 reports ∷ [])))) refl refl
  one_given false false true reports h =
      stands 12 (first_rows ++ (shape_rules e c.table p ++ (bound_rows ++ last_rows))) answer_row (rule 12 reports ∷ []) refl refl
  one_given false false false true h =
      stands 12 (first_rows ++ (shape_rules e c.table p ++ (bound_rows ++ last_rows))) answer_row [] refl refl
  one_given false false false false h = absurd (h refl)

  none_asked : (count six twelve reports : Bool) → own_of count six twelve reports ≡ 0 → first_of (joined_rows count six twelve reports) ≡ first_fault (shared_call c)
  unfolding first_fault
  none_asked true six twelve reports q = absurd (omega arith)
  none_asked false true twelve reports q = absurd (omega arith)
  none_asked false false true reports q = absurd (omega arith)
  none_asked false false false true q = absurd (omega arith)
  none_asked false false false false q = rw (enough v) refl

  too_many : (six twelve reports : Bool) → ltb 64 v ≡ true → first_of (joined_rows false six twelve reports) ≡ first_fault (shared_call c)
  unfolding first_fault
  too_many six twelve reports q = rw q

  abbrev own : ℕ
  own = stretch_fault v c.part_ends c.feature_ends (length c.parts.sizes) (length c.parts.features) c.answer_room c.report_room

  abbrev six : Bool
  six = stretches_disagree c.part_ends c.feature_ends (length c.parts.sizes) (length c.parts.features)

  abbrev twelve : Bool
  twelve = little_answer_room (v * haplotypes c) c.answer_room

  abbrev reports : Bool
  reports = little_answer_room (8 * haplotypes c) c.report_room

  abbrev asked : Bool → Bool → ℕ
  asked count many = cond count 27 (cond many 0 (own_of false six twelve reports))

  -- stretches that are refused join the shared call's fault
  pub stretches_refused : (own ≡ 0 → ⊥) → several_fault c ≡ earlier_of (first_fault (shared_call c)) own
  unfolding several_fault stretch_fault
  stretches_refused h = go (bad_count (haplotypes c)) (ltb 64 v) h
    where
      go : (count many : Bool) → (asked count many ≡ 0 → ⊥) → first_of (joined_rows count six twelve reports) ≡ earlier_of (first_fault (shared_call c)) (asked count many)
      go true many h = one_given true six twelve reports (λ q. h q)
      go false true h = absurd (h refl)
      go false false h = one_given false six twelve reports (λ q. h q)

  -- stretches that are not refused leave it
  pub stretches_good : own ≡ 0 → several_fault c ≡ first_fault (shared_call c)
  unfolding several_fault stretch_fault
  stretches_good q = go (bad_count (haplotypes c)) (ltb 64 v) refl q
    where
      go : (count many : Bool) → ltb 64 v ≡ many → asked count many ≡ 0 → first_of (joined_rows count six twelve reports) ≡ first_fault (shared_call c)
      go true many l q = absurd (omega arith)
      go false true l q = too_many six twelve reports l
      go false false l q = none_asked false six twelve reports q

  -- ---- by what the two checks found
  module _ {found other : ℕ} (is : found ≡ own) (others : other ≡ first_fault (shared_call c)) where
    -- what both found, joined
    pub fault_joined : {fault : ℕ} → fault ≡ first_in_table other found → fault ≡ several_fault c
    fault_joined {fault} f = go (eqb found 0) refl f
      where
        go : (t : Bool) → eqb found 0 ≡ t → fault ≡ cond t other (earlier_of other found) → fault ≡ several_fault c
        go true q e = e ∙ others ∙ sym (stretches_good (sym is ∙ eqb-true found 0 q))
        go false q e =
            let h = eqb-false found 0 q in
            e ∙ (ap (λ (m : ℕ). earlier_of m found) others ∙ (ap (λ (m : ℕ). earlier_of (first_fault (shared_call c)) m) is ∙ sym (stretches_refused (λ z. h (is ∙ z)))))
