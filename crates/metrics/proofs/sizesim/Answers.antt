-- Equal sizes give 1.0, whose bits these are.
use Rattle.std.proofs.Common.{eq-eqb, le-ltb}
use lib.Ieee.{of_bits, of_int}
use Rattle.metrics.specs.Similarity.{sizesim_of}
use Rattle.metrics.proofs.sizesim.Goals as goal

pub returns-then-a-b : goal.returns-then-a-b
unfolding of_bits of_int sizesim_of
returns-then-a-b c = rw (← c.max-hi.ensures, le-ltb _ _ c.if-hi-gt8388608.false, eq-eqb _ _ c.if-a-b.true)
