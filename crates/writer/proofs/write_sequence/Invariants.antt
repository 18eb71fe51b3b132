-- The records written and those still to write are the sequence's.
use mathlib.Core.Path.{◌≡◌}
use Prim.Native.Nat.{◌+◌, ◌-◌, ◌*◌}
use lib.ListN.{length}
use lib.Seq.{sets}
use Rattle.form.specs.Job.{records_for}
use Rattle.writer.proofs.WriteLaws.{records_at}
use Rattle.writer.proofs.write_sequence.Given as goal

abbrev pub invariant-loop-p : goal.invariant-loop-p
invariant-loop-p l =
    (sets l.out l.a (records_at l.letters l.end l.p) ≡ sets l.initial.out l.at (records_at l.letters l.end l.from))
    × (l.a + 17 * records_for (l.end - l.p) ≡ l.at + 17 * records_for (l.end - l.from)) × (length l.out ≡ length l.initial.out)

abbrev pub decreases-loop-p : goal.decreases-loop-p
decreases-loop-p l = l.end - l.p
