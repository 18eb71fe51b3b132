-- 7 and 8 row by row: a table passes them where each of its rows does, so with one row less it passes them, and with one more where that row does. Assumes nothing.
use Prim.Native.Nat.{ℕ, ◌+◌, ◌-◌, ◌≤◌, ◌<◌}
use native.Mathlib.Omega.{arith}
use mathlib.Core.Path.{◌≡◌, refl}
use mathlib.Core.Bool.{Bool, true, false}
use mathlib.Core.List.{List}
use borrow.Author.Tests.{ltb-true, ltb-false, le-ltb}
use lib.Dec.{ltb}
use lib.ListN.{length, get_or, take, set}
use lib.Seq.{length-take-le, get_or-take, get_or-set_same, get_or-set_other}
use Rattle.params.specs.Numbers.{first_of, bound_rules, start_after_end, falling_start}
use Rattle.params.proofs.CheckLaws.{none_given, none_below, any_where}

-- each of the first n rows passes 7, and each but the last 8 of the next
pub record GoodRows (n : ℕ) (starts ends : List ℕ) : Type 0 where
  pub seven : (r : ℕ) → r < n → get_or starts r 0 ≤ get_or ends r 0
  pub eight : (r : ℕ) → r + 1 < n → get_or starts r 0 ≤ get_or starts (r + 1) 0

module _ (n : ℕ) (starts ends : List ℕ) (room : n ≤ length starts) where
  long : length (take n starts) ≡ n
  long = length-take-le n starts room

  at : (l : List ℕ) (r : ℕ) → r < n → get_or (take n l) r 0 ≡ get_or l r 0
  at l r h = get_or-take n l r 0 h

  pub bounds_told : first_of (bound_rules (take n starts) (take n ends)) ≡ 0 → GoodRows n starts ends
  unfolding start_after_end falling_start
  bounds_told z =
      let p = none_given (bound_rules (take n starts) (take n ends)) refl z in
      record {
        seven = λ r l.
            let h = ltb-false (get_or (take n ends) r 0) (get_or (take n starts) r 0)
            (any_where (λ r. ltb (get_or (take n ends) r 0) (get_or (take n starts) r 0)) (length (take n starts)) p.0 r (rw long l)) in
            rw (at starts r l, at ends r l) at h;
        eight = λ r l.
            let here : r < n = omega arith in
            let below : r < length (take n starts) - 1 = rw long (omega arith) in
            let h = ltb-false (get_or (take n starts) (r + 1) 0) (get_or (take n starts) r 0)
            (any_where (λ r. ltb (get_or (take n starts) (r + 1) 0) (get_or (take n starts) r 0)) (length (take n starts) - 1) p.1.0 r below) in
            rw (at starts (r + 1) l, at starts r here) at h;
      }

  pub bounds_made : GoodRows n starts ends → first_of (bound_rules (take n starts) (take n ends)) ≡ 0
  unfolding start_after_end falling_start
  bounds_made p = rw (
    none_below (λ r. ltb (get_or (take n ends) r 0) (get_or (take n starts) r 0)) (length (take n starts)) (λ r l. pass7 r (rw long at l)),
    none_below (λ r. ltb (get_or (take n starts) (r + 1) 0) (get_or (take n starts) r 0)) (length (take n starts) - 1) (λ r l. pass8 r (rw long at l)),
  )
    where
      pass7 : (r : ℕ) → r < n → ltb (get_or (take n ends) r 0) (get_or (take n starts) r 0) ≡ false
      pass7 r l = rw (at starts r l, at ends r l) (le-ltb (get_or ends r 0) (get_or starts r 0) (p.seven r l))

      pass8 : (r : ℕ) → r < n - 1 → ltb (get_or (take n starts) (r + 1) 0) (get_or (take n starts) r 0) ≡ false
      pass8 r l =
          let next : r + 1 < n = omega arith in
          let here : r < n = omega arith in
          rw (at starts (r + 1) next, at starts r here) (le-ltb (get_or starts (r + 1) 0) (get_or starts r 0) (p.eight r next))

pub good_less : (n : ℕ) (starts ends : List ℕ) → GoodRows n starts ends → GoodRows (n - 1) starts ends
good_less n starts ends p = record { seven = λ r l. p.seven r (omega arith); eight = λ r l. p.eight r (omega arith) }

-- one row more, behind the last
module _ (n : ℕ) (starts ends : List ℕ) (start end : ℕ) (p : GoodRows n starts ends) (room : n < length starts) (others : n < length ends) where
  same : (l : List ℕ) (x r : ℕ) → r < n → get_or (set l n x) r 0 ≡ get_or l r 0
  same l x r h = get_or-set_other l n r x 0 (λ q. omega arith)

  pub good_more : start ≤ end → (1 ≤ n → get_or starts (n - 1) 0 ≤ start) → GoodRows (n + 1) (set starts n start) (set ends n end)
  good_more ahead behind = record { seven = λ r l. seven' r l (ltb r n) refl; eight = λ r l. eight' r l (ltb (r + 1) n) refl }
    where
      seven' : (r : ℕ) → r < n + 1 → (b : Bool) → ltb r n ≡ b → get_or (set starts n start) r 0 ≤ get_or (set ends n end) r 0
      seven' r l true e = let h = ltb-true r n e in rw (same starts start r h, same ends end r h) (p.seven r h)
      seven' r l false e =
          let h = ltb-false r n e in
          let z : r ≡ n = omega arith in
          rw (z, get_or-set_same starts n start 0 room, get_or-set_same ends n end 0 others) ahead

      eight' : (r : ℕ) → r + 1 < n + 1 → (b : Bool) → ltb (r + 1) n ≡ b → get_or (set starts n start) r 0 ≤ get_or (set starts n start) (r + 1) 0
      eight' r l true e =
          let h = ltb-true (r + 1) n e in
          let k : r < n = omega arith in
          rw (same starts start r k, same starts start (r + 1) h) (p.eight r h)
      eight' r l false e =
          let h = ltb-false (r + 1) n e in
          let z : r + 1 ≡ n = omega arith in
          let k : r < n = omega arith in
          let w : n - 1 ≡ r = omega arith in
          rw (z, same starts start r k, get_or-set_same starts n start 0 room) (rw w at (behind (omega arith)))
