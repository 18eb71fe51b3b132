-- What is stored and what the rest will store is the whole.
use Prim.Native.Nat.{◌+◌, ◌-◌}
use mathlib.Core.Path.{◌≡◌}
use mathlib.Core.List.{◌∷◌}
use lib.ListN.{length, set}
use Rattle.reader.specs.Steps.{stores}
use Rattle.form.specs.Job.{letters_in}
use Rattle.reader.proofs.fill.copy_letters.Given as goal

abbrev pub invariant-loop-i : goal.invariant-loop-i
invariant-loop-i l = (stores set l.out (l.at + l.i) (letters_in (4 ∷ l.b) l.i (l.n - l.i)) ≡ stores set l.initial.out l.at (letters_in (4 ∷ l.b) 0 l.n)) ×
    (length l.out ≡ length l.initial.out)
