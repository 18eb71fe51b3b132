-- The number, and the value or 0.0 at its place.
use Rattle.std.proofs.Common.{ap, ◌∙◌}
use Rattle.metrics.specs.Refusals.{told}
use Rattle.metrics.specs.Similarity.{value}
use Rattle.capi.proofs.ValueLaws.{value_is}
use Rattle.capi.proofs.nd_seqsim.Goals as goal

pub returns : goal.returns
returns c = (c.told_at.ensures.number ∙ ap told c.seqsim.ensures, c.told_at.ensures.value ∙ value_is c.seqsim.result ∙ ap value c.seqsim.ensures)
