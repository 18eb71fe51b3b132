-- Where a refusal found apart stands among those of a table. Each row of the table is one that goes before it, or one that it goes before (which of the two,
-- `earlier_of` says, and for each of the table's numbers it computes); so, row by row, the first refusal of the joined table is the earlier of the two. Assumes nothing.
use Prim.Native.Nat.{ℕ, ◌<◌, ◌≤◌}
use native.Mathlib.Omega.{arith}
use mathlib.Core.Path.{◌≡◌, refl, sym, ap, ◌∙◌}
use mathlib.Core.Bool.{Bool, true, false, cond, ◌&&◌}
use mathlib.Core.List.{List, [], ◌∷◌, ◌++◌}
use borrow.Author.Tests.{lt-ltb, le-ltb, eqb-true, eqb-false, ne_eqb}
use lib.Dec.{ltb, eqb}
use Rattle.paths.proofs.BooleanLaws.{and_both}
use Rattle.params.specs.Numbers.{Rule, rule, first_of}
use Rattle.params.specs.TableOrder.{place_of, earlier_of}

-- ---- the earlier of two

none_other : (own : ℕ) → own ≡ earlier_of 0 own
unfolding earlier_of
none_other own = refl

-- by its two tests
pub other_none : (other own : ℕ) → other ≡ 0 → own ≡ earlier_of other own
other_none other own e = none_other own ∙ ap (λ (m : ℕ). earlier_of m own) (sym e)

module _ (other own : ℕ) {there here : ℕ} (h : other ≡ 0 → ⊥) (e : there ≡ place_of other) (f : here ≡ place_of own) where
  pub other_first : there < here → other ≡ earlier_of other own
  unfolding earlier_of
  other_first l = simp (ne_eqb other 0 h, lt-ltb (place_of other) (place_of own) (omega arith))

  pub own_first : here ≤ there → own ≡ earlier_of other own
  unfolding earlier_of
  own_first l = simp (ne_eqb other 0 h, le-ltb (place_of other) (place_of own) (omega arith))

-- the earlier of two refusals refuses
pub still_refused : (other own : ℕ) → (own ≡ 0 → ⊥) → earlier_of other own ≡ 0 → ⊥
unfolding earlier_of
still_refused other own h = go (eqb other 0) refl (ltb (place_of other) (place_of own))
  where
    go : (t : Bool) → eqb other 0 ≡ t → (s : Bool) → cond t own (cond s other own) ≡ 0 → ⊥
    go true q s e = h e
    go false q true e = eqb-false other 0 q e
    go false q false e = h e

-- ---- a table of rows, and a number among them

-- every row goes before the number; and the number goes before every row
abbrev go_before : ℕ → List Rule → Bool
go_before own [] = true
go_before own (r ∷ rows) = eqb (earlier_of r.number own) r.number && go_before own rows

abbrev go_after : ℕ → List Rule → Bool
go_after own [] = true
go_after own (r ∷ rows) = eqb (earlier_of r.number own) own && go_after own rows

comes_first : (own : ℕ) (back : List Rule) → go_after own back ≡ true → own ≡ earlier_of (first_of back) own
comes_first own [] h = none_other own
comes_first own (r ∷ back) h =
    let both = and_both (eqb (earlier_of r.number own) own) (go_after own back) h in
    go r.given (eqb-true (earlier_of r.number own) own both.0) (comes_first own back both.1)
  where
    go : (t : Bool) → earlier_of r.number own ≡ own → own ≡ earlier_of (first_of back) own → own ≡ earlier_of (cond t r.number (first_of back)) own
    go true here rest = sym here
    go false here rest = rest

-- a number given between the rows that go before it and those that it goes before
pub stands : (own : ℕ) (front back later : List Rule) → go_before own front ≡ true → go_after own back ≡ true
    → first_of (front ++ (rule own true ∷ later)) ≡ earlier_of (first_of (front ++ back)) own
stands own [] back later h g = comes_first own back g
stands own (r ∷ front) back later h g =
    let both = and_both (eqb (earlier_of r.number own) r.number) (go_before own front) h in
    go r.given (eqb-true (earlier_of r.number own) r.number both.0) (stands own front back later both.1 g)
  where
    go : (t : Bool) {joined : ℕ} → earlier_of r.number own ≡ r.number → joined ≡ earlier_of (first_of (front ++ back)) own
        → cond t r.number joined ≡ earlier_of (cond t r.number (first_of (front ++ back))) own
    go true here rest = sym here
    go false here rest = rest
