-- The positions written so far, and those that are left, are the whole list.
use mathlib.Core.Path.{◌≡◌}
use Prim.Native.Nat.{◌-◌}
use lib.ListN.{take}
use mathlib.Core.List.{◌++◌}
use Rattle.kplib.specs.Parts.{positions_from, whole_of}
use Rattle.kplib.proofs.haplotype.all_positions.Given as goal

abbrev pub invariant-loop-i : goal.invariant-loop-i
invariant-loop-i l =
    take l.i l.chosen ++ positions_from l.i (l.m - l.i) ≡ whole_of l.m
