-- The positions chosen so far, and those of the bits that are left, are the whole list.
use mathlib.Core.Path.{◌≡◌}
use Prim.Native.Nat.{◌-◌, ◌≤◌}
use lib.ListN.{take}
use mathlib.Core.List.{◌++◌}
use Rattle.kplib.specs.Scoring.{positions_of_bits}
use Rattle.kplib.proofs.haplotype.bit_positions.Given as goal

abbrev pub invariant-loop-i : goal.invariant-loop-i
invariant-loop-i l = (l.d ≤ l.i) × (take l.d l.chosen ++ positions_of_bits l.i (l.m - l.i) l.v ≡ positions_of_bits 0 l.m l.bits)
