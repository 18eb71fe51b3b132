-- All of the line is written, and compared.
use mathlib.Core.Path.{sym, ap, ◌∙◌}
use lib.Seq.{length-take-le}
use Rattle.bed.specs.Bed.{bed_line}
use Rattle.bed.specs.Reading.{same_bytes}
use Rattle.bed.proofs.LineLaws.{line_short, same_pointwise}
use Rattle.bed.proofs.StoredLaws.{stored_front, stored_within}
use Rattle.bed.proofs.lines.says.Goals as goal

pub slice_bounds-eq-end : goal.slice_bounds-eq-end
slice_bounds-eq-end c =
    let a = c.args in
    sym (length-take-le _ _ (stored_within _ (bed_line a.name.now a.start a.end) c.put_line-n.ensures (line_short a.name.now a.start a.end c.requires)))

pub returns : goal.returns
returns c =
    let a = c.args in
    c.eq.ensures ∙ same_pointwise _ _ ∙ ap (same_bytes a.line.now) (stored_front _ (bed_line a.name.now a.start a.end) c.put_line-n.ensures (line_short a.name.now
    a.start a.end c.requires))
