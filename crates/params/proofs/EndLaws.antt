-- Ends that do not fall, one by one; and then each stretch lies within the slice: its begin is not above its end, and its end not above the last. Assumes nothing.
use Prim.Native.Nat.{ℕ, zero, suc, ◌+◌, ◌-◌, ◌≤◌, ◌<◌}
use native.Mathlib.Omega.{arith}
use native.Mathlib.Numerals.{add-one}
use mathlib.Core.Path.{◌≡◌, sym, ap, ◌∙◌}
use mathlib.Core.Bool.{Bool, true, false, not}
use mathlib.Core.List.{List}
use borrow.Author.Tests.{lt-ltb, le-ltb, ltb-false, eqb-true, not-false}
use lib.Dec.{ltb, eqb}
use lib.ListN.{length, get_or}
use Rattle.params.specs.Numbers.{any_below, disagrees}
use Rattle.params.specs.Several.{begin_of, ends_disagree}
use Rattle.params.proofs.CheckLaws.{or_here, or_later, or_no, any_more, any_here, any_end, any_where}

module _ (ends : List ℕ) where
  abbrev falls : ℕ → Bool
  falls j = ltb (get_or ends j 0) (begin_of ends j)

  next_begin : (i : ℕ) → begin_of ends (i + 1) ≡ get_or ends i 0
  next_begin i = rw (add-one i)

  -- one that is less than the end before it
  pub falls_here : (n i : ℕ) {before : ℕ} → before ≡ begin_of ends i → i < length ends → get_or ends i 0 < before → true ≡ ends_disagree ends n
  unfolding ends_disagree
  falls_here n i e l h = sym (or_here (any_below (length ends) falls) _ (any_here falls (length ends) i l (lt-ltb (get_or ends i 0) (begin_of ends i) (omega arith))))

  -- none up to here, nor here
  pub rises_here : (i : ℕ) {before : ℕ} → before ≡ begin_of ends i → before ≤ get_or ends i 0 → any_below i falls ≡ false
      → (get_or ends i 0 ≡ begin_of ends (i + 1)) × (any_below (i + 1) falls ≡ false)
  rises_here i e h none = (sym (next_begin i), any_more falls i none (le-ltb (get_or ends i 0) (begin_of ends i) (omega arith)))

  -- none at all, and the last is asked
  pub none_falls : (n i : ℕ) {before : ℕ} → before ≡ begin_of ends i → i ≡ length ends → any_below i falls ≡ false → not (eqb before n) ≡ ends_disagree ends n
  unfolding ends_disagree
  none_falls n i {before} e l none =
      let last : before ≡ begin_of ends (length ends) = e ∙ ap (λ (m : ℕ). begin_of ends m) l in
      sym (or_later (any_below (length ends) falls) _ _ (any_end falls (length ends) i (omega arith) (omega arith) none) (rw last))

  -- ---- ends that agree with a slice of n
  module _ (n : ℕ) (good : ends_disagree ends n ≡ false) where
    both : (any_below (length ends) falls ≡ false) × (disagrees (begin_of ends (length ends)) n ≡ false)
    unfolding ends_disagree
    both = or_no (any_below (length ends) falls) (disagrees (begin_of ends (length ends)) n) good

    rises : (i : ℕ) → i < length ends → begin_of ends i ≤ get_or ends i 0
    rises i l = ltb-false (get_or ends i 0) (begin_of ends i) (any_where falls (length ends) both.0 i l)

    climbs : (i d : ℕ) → i + d ≤ length ends → begin_of ends i ≤ begin_of ends (i + d)
    climbs i zero h = let z : i + 0 ≡ i = omega arith in rw z (omega arith)
    climbs i (suc d) h =
        let z : i + suc d ≡ suc (i + d) = omega arith in
        let up = climbs i d (omega arith) in
        let one = rises (i + d) (omega arith) in
        rw z (omega arith)

    pub within_slice : (i : ℕ) → i < length ends → (begin_of ends i ≤ get_or ends i 0) × (get_or ends i 0 ≤ n)
    within_slice i l =
        let last = eqb-true (begin_of ends (length ends)) n (not-false (eqb (begin_of ends (length ends)) n) both.1) in
        let z : suc i + (length ends - suc i) ≡ length ends = omega arith in
        let up : get_or ends i 0 ≤ begin_of ends (length ends) = rw z at (climbs (suc i) (length ends - suc i) (omega arith)) in
        (rises i l, omega arith)
