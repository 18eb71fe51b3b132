-- Each array by its own call; the sums fit, since nothing refuses the combining. Assumes nothing.
use Rattle.std.proofs.Common.{◌+◌, rules}
use Rattle.meta.specs.Meta.{left_else_right}
use Rattle.meta.proofs.FaultLaws.{combine_within, combine_fits, combined_whole}
use Rattle.meta.proofs.JoinLaws.{sum_fits}
use Rattle.meta.proofs.both_as_one.Goals as goal

pub joined_first-coverage-requires-clause-inside : goal.joined_first-coverage-requires-clause-inside
joined_first-coverage-requires-clause-inside c = combine_within _ _ c.requires

pub joined_first-coverage-requires-clause-callable : goal.joined_first-coverage-requires-clause-callable
joined_first-coverage-requires-clause-callable c = λ i inside.
    let fits = sum_fits _ _ _ (combine_fits _ _ c.requires) i inside in search rules

pub joined_first-ps-requires-clause-inside : goal.joined_first-ps-requires-clause-inside
joined_first-ps-requires-clause-inside c = combine_within _ _ c.requires

pub joined_first-hp-requires-clause-inside : goal.joined_first-hp-requires-clause-inside
joined_first-hp-requires-clause-inside c = combine_within _ _ c.requires

pub returns : goal.returns
returns c = combined_whole _ _
    (c.joined_first-coverage.ensures ◌+◌ (λ i x h p. search rules))
    (c.joined_first-ps.ensures left_else_right (λ i x h p. search rules))
    (c.joined_first-hp.ensures left_else_right (λ i x h p. search rules))
