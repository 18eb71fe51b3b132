-- What is left to look at decides, since all before are flags.
use Prim.Native.Nat.{◌+◌, ◌-◌}
use mathlib.Core.Path.{◌≡◌}
use Rattle.form.specs.Form.{are_flags}
use Rattle.form.proofs.records.are_flags.Given as goal

abbrev pub invariant-loop-i : goal.invariant-loop-i
invariant-loop-i l = are_flags l.b (l.from + l.i) (l.n - l.i) ≡ are_flags l.b l.from l.n
