-- The first fault or the counts so far is what the job says, since the counts are the job's.
use mathlib.Core.Path.{◌∙◌}
use Rattle.form.proofs.CountLaws.{scan_is}
use Rattle.form.proofs.scan.Goals as goal

pub returns : goal.returns
returns c = c.first_fault.ensures ∙ scan_is c.args.bytes.now
