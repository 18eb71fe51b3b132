-- Row by row: the sheet is that of the rows passed. Assumes nothing.
use mathlib.Core.Path.{◌≡◌}
use native.Mathlib.Omega.{arith}
use Rattle.companions.proofs.SheetLaws.{no_rows}
use Rattle.companions.proofs.sheet.fresh.Goals as goal

pub loop-last-init : goal.loop-last-init
loop-last-init c = no_rows _ _

pub returns : goal.returns
returns c =
    let l = c.loop-last in
    let e : l.last ≡ c.args.n = omega arith in
    rw e at l.invariant
