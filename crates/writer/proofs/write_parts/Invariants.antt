-- The rows written and those still to write are the whole; letters and room suffice for each because they do for the whole.
use mathlib.Core.Path.{◌≡◌}
use Prim.Native.Nat.{◌+◌}
use lib.ListN.{length, drop}
use lib.Seq.{sets}
use Rattle.form.specs.Lent.{sum}
use Rattle.writer.proofs.RowLaws.{parts_at}
use Rattle.writer.proofs.write_parts.Given as goal

abbrev pub invariant-loop-r : goal.invariant-loop-r
invariant-loop-r l =
    (sets l.out l.a (parts_at l.sizes l.negatives l.counts l.letters l.end l.r l.p) ≡ sets l.initial.out l.at (parts_at l.sizes l.negatives l.counts l.letters l.end l.first l.from))
    × (l.a + length (parts_at l.sizes l.negatives l.counts l.letters l.end l.r l.p) ≡ l.at + length (parts_at l.sizes l.negatives l.counts l.letters l.end l.first l.from))
    × (l.p + sum (drop l.r l.counts) ≡ length l.letters) × (length l.out ≡ length l.initial.out)
