-- What is stored and what the rest will add is the whole, of variants, parts, breaks and letters alike; a record adds at most one row, and no more
-- letters than its body has bytes, so all four stay below the position.
use Prim.Native.Nat.{◌≤◌, ◌-◌}
use mathlib.Core.Path.{◌≡◌}
use lib.ListN.{length, drop, set}
use Rattle.reader.specs.Steps.{rows, put_row, part_rows, put_part, stores}
use Rattle.form.specs.Job.{variant_here, part_here, gather}
use Rattle.form.specs.Steps.{letters_walk, breaks_walk}
use Rattle.reader.proofs.fill.fill.Given as goal

abbrev pub invariant-loop-at : goal.invariant-loop-at
invariant-loop-at l =
    (stores put_row (rows l.starts l.ends l.sizes l.negatives l.counts) l.v (gather variant_here (drop l.at l.s) 0) ≡ stores put_row
    (rows l.initial.starts l.initial.ends l.initial.sizes l.initial.negatives l.initial.counts) 0
    (gather variant_here l.s 0)) × ((stores put_part (part_rows l.part_sizes l.part_negatives l.part_counts) l.p (gather part_here (drop l.at l.s) 0) ≡ stores put_part
    (part_rows l.initial.part_sizes l.initial.part_negatives l.initial.part_counts) 0
    (gather part_here l.s 0)) × ((stores set l.breaks l.n (breaks_walk (drop l.at l.s) 0 l.p) ≡ stores set l.initial.breaks 0 (breaks_walk l.s 0 0)) ×
    ((stores set l.letters l.l (letters_walk (drop l.at l.s) 0 l.left) ≡ stores set l.initial.letters 0 (letters_walk l.s 0 0))
    × ((l.v ≤ l.at) × ((l.p ≤ l.at) × ((l.n ≤ l.at) × (l.l ≤ l.at)))))))

abbrev pub decreases-loop-at : goal.decreases-loop-at
decreases-loop-at l = length l.s - l.at
