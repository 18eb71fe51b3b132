-- Every count is asked for.
use Rattle.std.proofs.Common.{rules, refl}
use lib.Dec.{ltb}
use Rattle.std.proofs.lemmas.List.Recursion.{or_is}
use Rattle.writer.specs.Writing.{any_over}
use Rattle.writer.proofs.any_over.Goals as goal

pub returns : goal.returns
unfolding any_over
returns c = or_is any_over (λ n. ltb 131072 n) refl (λ x xs. refl) c.args.counts.now 0 _ (search rules) (search rules)
