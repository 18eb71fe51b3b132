-- Breaks tested one after the other: each law gives the whole test's value once one fails or all but the last hold. Assumes nothing.
use Prim.Native.Nat.{ℕ, suc, ◌+◌, ◌≤◌, ◌<◌}
use native.Mathlib.Numerals.{add-one}
use mathlib.Core.Path.{◌≡◌, sym, ap, ◌∙◌}
use mathlib.Core.Bool.{true, false, ◌&&◌}
use mathlib.Core.List.{List}
use lib.Dec.{leb}
use lib.ListN.{length, get_or, drop, drop_of_length-le}
use lib.Seq.{drop-cons}
use borrow.Author.Tests.{le-leb, lt-leb}
use Rattle.writer.specs.Writing.{in_order}

-- the breaks from the i-th on, behind one of `low`
module _ (m low : ℕ) (breaks : List ℕ) (i : ℕ) where
  pub order_done : length breaks ≤ i → true ≡ in_order m low (drop i breaks)
  unfolding in_order
  order_done h = ap (in_order m low) (sym (drop_of_length-le breaks {i = i} h))

  module _ (inside : i < length breaks) where
    order_next : in_order m low (drop i breaks) ≡ leb low (get_or breaks i 0) && (leb (get_or breaks i 0) m && in_order m (get_or breaks i 0) (drop (suc i) breaks))
    unfolding in_order
    order_next = ap (in_order m low) (drop-cons breaks i 0 inside)

    pub order_falls : get_or breaks i 0 < low → false ≡ in_order m low (drop i breaks)
    order_falls h = sym (order_next ∙ rw (lt-leb _ _ h))

    module _ (rises : low ≤ get_or breaks i 0) where
      pub order_over : m < get_or breaks i 0 → false ≡ in_order m low (drop i breaks)
      order_over h = sym (order_next ∙ rw (le-leb _ _ rises, lt-leb _ _ h))

      pub order_more : get_or breaks i 0 ≤ m → in_order m (get_or breaks i 0) (drop (i + 1) breaks) ≡ in_order m low (drop i breaks)
      order_more h = sym (order_next ∙ rw (le-leb _ _ rises, le-leb _ _ h, add-one i))
