-- Below a pileupmax there are no lengths from 0 down to 1; at pileupmax 0 the test for the whole haplotype computes.
use mathlib.Core.Path.{◌≡◌, refl}
use mathlib.Core.List.{[]}
use Prim.Native.Nat.{ℕ, suc, ◌-◌}
use native.Mathlib.Omega.{arith}
use borrow.Author.Tests.{lt-leb}
use Rattle.kplib.specs.Parts.{positions_from, choices, falling_lists, part_lists}
use Rattle.audit.specs.NoParts.{NoParts}

below : (fnmax p : ℕ) → part_lists 0 fnmax (suc p) ≡ []
unfolding part_lists positions_from falling_lists choices
below fnmax p = let z : 0 - fnmax ≡ 0 = omega arith in rw (lt-leb (suc p) 0 (omega arith), z)

pub no_parts : NoParts
unfolding part_lists positions_from falling_lists choices
no_parts = record { no_list = below; only_whole = λ fnmax. refl }
