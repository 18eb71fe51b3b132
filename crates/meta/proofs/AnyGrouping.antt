-- Document 02, P14: each part by its law, and the example computed. Assumes nothing.
use Prim.Native.Nat.{ℕ}
use native.Mathlib.Omega.{arith}
use mathlib.Core.Path.{◌≡◌, refl, ap}
use mathlib.Core.Logic.{◌≢◌}
use Rattle.params.specs.Numbers.{any_below}
use Rattle.meta.specs.Meta.{joined_first, sum_passes, combine_fault, combined_of}
use Rattle.meta.specs.Grouping.{Outcome, refused, is, ◌with◌, from_boat, AnyGrouping}
use Rattle.meta.proofs.GroupingLaws.{either_way, blank_right, blank_left}
use Rattle.meta.proofs.TidyLaws.{new_tidy, blank_tidy, combined_tidy, words_held}
use Rattle.meta.proofs.ListLaws.{cut_anywhere}

abbrev id_of : Outcome → ℕ
id_of refused = 0
id_of (is m) = m.id

in_order : is (from_boat 1 5) with is (from_boat 2 6) ≢ is (from_boat 2 6) with is (from_boat 1 5)
unfolding joined_first sum_passes any_below combine_fault combined_of
in_order e = let z : ◌≡◌ {A = ℕ} 1 2 = ap id_of e in omega arith

pub any_grouping : AnyGrouping
unfolding joined_first sum_passes any_below combine_fault combined_of
any_grouping = record {
  either_way = either_way;
  blank_right = blank_right;
  blank_left = λ a h t z. blank_left a h z t;
  new_tidy = new_tidy;
  blank_tidy = blank_tidy;
  combined_tidy = combined_tidy;
  words_held = words_held;
  in_order = in_order;
  first_kept = (refl, refl);
  cut_anywhere = cut_anywhere;
}
