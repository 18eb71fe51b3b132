-- As many bytes as stand before the first b.
use mathlib.Core.Path.{sym, ap, ◌∙◌}
use lib.ListN.{take}
use lib.Seq.{length-take-le}
use Rattle.bed.proofs.PartLaws.{up_within, up_take}
use native.Mathlib.Omega.{arith}
use Rattle.bed.proofs.parts.first.Goals as goal

pub slice_bounds-result-end : goal.slice_bounds-result-end
slice_bounds-result-end c =
    let s = c.args.s.now in
    let u = c.up_to in
    let w = up_within c.args.b s in
    let n = u.ensures in
    sym (length-take-le u.result s (omega arith))

pub returns : goal.returns
returns c =
    let s = c.args.s.now in ap (λ n. take n s) c.up_to.ensures ∙ up_take c.args.b s
