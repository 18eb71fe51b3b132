-- 7 and 8 alone: of one to 64 rows and as many ends a chain count that is capped at 0 asks nothing else, and of no rows there is nothing to ask. Assumes nothing.
use Prim.Native.Nat.{ℕ, ◌≤◌}
use native.Mathlib.Omega.{arith}
use mathlib.Core.Path.{◌≡◌}
use mathlib.Core.List.{List, []}
use borrow.Author.Tests.{le-ltb, eq-eqb, ne_eqb}
use lib.ListN.{length}
use Rattle.params.specs.Numbers.{first_of, bound_rules, start_after_end, falling_start, any_below, chain_count_fault}

pub count_bounds : (starts ends : List ℕ) → 1 ≤ length starts → length starts ≤ 64 → length ends ≡ length starts
    → chain_count_fault 0 starts ends ≡ first_of (bound_rules starts ends)
unfolding chain_count_fault
count_bounds starts ends l h e = rw (ne_eqb (length starts) 0 (λ z. omega arith), le-ltb 64 (length starts) h, eq-eqb (length ends) (length starts) e)

pub no_bounds : (starts ends : List ℕ) → starts ≡ [] → 0 ≡ first_of (bound_rules starts ends)
unfolding start_after_end falling_start any_below
no_bounds starts ends e = rw e
