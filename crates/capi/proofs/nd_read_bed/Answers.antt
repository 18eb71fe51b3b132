-- The number and the counts, case by case, and the three slices are those of the library call's own promise.
use Rattle.std.proofs.Common.{sym, ap, ◌∙◌}
use Rattle.metrics.specs.Refusals.{told}
use Rattle.bed.specs.Reading.{read_counts}
use Rattle.capi.proofs.nd_read_bed.Goals as goal

pub returns-in-Ok : goal.returns-in-Ok
returns-in-Ok c =
    let promised = c.read_bed.ensures in
    let e = sym c.in-Ok.is ∙ promised.0 in
    (ap told e, (ap read_counts e, promised.1))

pub returns-in-Err : goal.returns-in-Err
returns-in-Err c =
    let promised = c.read_bed.ensures in
    let e = sym c.in-Err.is ∙ promised.0 in
    (c.into.ensures ∙ ap told e, (ap read_counts e, promised.1))
