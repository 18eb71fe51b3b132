-- The rows written and those still to write are the whole; letters and room suffice for each because they do for the whole.
use mathlib.Core.Path.{◌≡◌}
use Prim.Native.Nat.{◌+◌}
use lib.ListN.{length, drop}
use lib.Seq.{sets}
use Rattle.form.specs.Lent.{sum}
use Rattle.writer.proofs.RowLaws.{variants_at}
use Rattle.writer.proofs.write_variants.Given as goal

abbrev pub invariant-loop-r : goal.invariant-loop-r
invariant-loop-r l =
    (sets l.out l.a (variants_at l.edition l.numbers l.starts l.ends l.sizes l.negatives l.counts l.letters l.r l.p) ≡ sets l.initial.out l.at
    (variants_at l.edition l.numbers l.starts l.ends l.sizes l.negatives l.counts l.letters 0 0))
    × (l.a + length (variants_at l.edition l.numbers l.starts l.ends l.sizes l.negatives l.counts l.letters l.r l.p) ≡ l.at + length
    (variants_at l.edition l.numbers l.starts l.ends l.sizes l.negatives l.counts l.letters 0 0))
    × (l.p + sum (drop l.r l.counts) ≡ sum l.counts) × (length l.out ≡ length l.initial.out)
