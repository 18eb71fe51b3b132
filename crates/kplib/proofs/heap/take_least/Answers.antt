-- The last key takes the front's place.
use mathlib.Core.Path.{refl}
use native.Mathlib.Omega.{arith}
use Rattle.paths.proofs.HeapLaws.{taken_off}
use Rattle.kplib.proofs.heap.take_least.Goals as goal

pub returns : goal.returns
returns c =
    (refl, taken_off c.args.n (omega arith) (omega arith) c.requires.2 c.replace_front.ensures)
