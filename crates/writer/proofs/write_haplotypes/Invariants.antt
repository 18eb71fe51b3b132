-- The haplotypes written and those still to write are the whole; letters and room suffice for each because they do for the whole.
use mathlib.Core.Path.{◌≡◌}
use mathlib.Core.Bool.{true}
use Prim.Native.Nat.{◌+◌, ◌≤◌}
use lib.ListN.{length, drop}
use lib.Seq.{sets}
use Rattle.form.specs.Lent.{sum}
use Rattle.writer.specs.Writing.{in_order}
use Rattle.writer.proofs.StretchLaws.{haplotypes_at}
use Rattle.writer.proofs.write_haplotypes.Given as goal

abbrev pub invariant-loop-place : goal.invariant-loop-place
invariant-loop-place l =
    (sets l.out l.a (haplotypes_at l.sizes l.negatives l.counts l.letters l.breaks l.place-index l.r l.p) ≡ sets l.initial.out l.at
    (haplotypes_at l.sizes l.negatives l.counts l.letters l.breaks 0 0 l.from))
    × (l.a + length (haplotypes_at l.sizes l.negatives l.counts l.letters l.breaks l.place-index l.r l.p) ≡ l.at + length (haplotypes_at l.sizes l.negatives l.counts l.letters l.breaks 0 0 l.from))
    × (l.p + sum (drop l.r l.counts) ≡ length l.letters) × (in_order (length l.sizes) l.r (drop l.place-index l.breaks) ≡ true)
    × (l.r ≤ length l.sizes) × (length l.out ≡ length l.initial.out)
