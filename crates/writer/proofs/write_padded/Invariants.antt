-- What is stored and what the rest will store is the padded body.
use mathlib.Core.Path.{◌≡◌}
use Prim.Native.Nat.{◌+◌}
use lib.ListN.{length, drop}
use lib.Seq.{sets, slice}
use Rattle.form.specs.Job.{padded}
use Rattle.writer.proofs.write_padded.Given as goal

abbrev pub invariant-loop-j : goal.invariant-loop-j
invariant-loop-j l =
    (sets l.out (l.at + l.j) (drop l.j (padded (slice l.from l.end l.letters))) ≡ sets l.initial.out l.at (padded (slice l.from l.end l.letters))) × (length l.out ≡ length l.initial.out)
