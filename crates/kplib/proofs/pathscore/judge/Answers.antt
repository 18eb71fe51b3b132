-- After each block what is added up and what is left are the whole, so a list is given up only where its own seqsim could not win either.
use mathlib.Core.Path.{refl}
use lib.ListN.{length}
use Rattle.kplib.specs.Sums.{features_of}
use Rattle.kplib.proofs.BlockLaws.{Passed, block_passed, low_n, block_ok, too_low, no_gain, whole_verdict}
use Rattle.kplib.proofs.pathscore.judge.Goals.{After-sum_block-sums}
use Rattle.kplib.proofs.pathscore.judge.Goals as goal

-- after the block that was just summed
abbrev After : After-sum_block-sums → Type 0
After c =
    let a = c.args in
    Passed a.s.minkfreq a.chain_row.now (features_of (length a.chain_row.now) a.table.now a.rows.now) c.block_end-to.result c.sum_block-sums.result

passed : (c : After-sum_block-sums) → After c
passed c =
    block_passed c.loop-from.invariant.1 c.block_end-to.ensures.0 c.block_end-to.ensures.1 c.sum_block-sums.ensures

pub sum_block-sums-requires : goal.sum_block-sums-requires
sum_block-sums-requires c =
    block_ok c.requires c.loop-from.invariant.1 c.block_end-to.ensures.0 c.block_end-to.ensures.1 c.block_end-to.ensures.2

pub most_alike-most-requires : goal.most_alike-most-requires
most_alike-most-requires c = (c.requires.limit, low_n c.requires (passed (goal.at.most_alike-most-requires c).After-sum_block-sums))

pub returns-then-most-s : goal.returns-then-most-s
returns-then-most-s c =
    too_low c.requires (passed (goal.at.returns-then-most-s c).After-sum_block-sums) c.most_alike-most.ensures c.if-most-s.true

pub returns-then-not-may_score : goal.returns-then-not-may_score
returns-then-not-may_score c =
    no_gain c.requires (passed (goal.at.returns-then-not-may_score c).After-sum_block-sums) c.most_alike-most.ensures c.may_score.ensures c.if-not-may_score.true

pub loop-from-preserved : goal.loop-from-preserved
loop-from-preserved c = (refl, passed (goal.at.loop-from-preserved c).After-sum_block-sums)

pub returns : goal.returns
returns c =
    whole_verdict c.requires c.loop-from.invariant.1 c.loop-from-test.false c.similarity.ensures c.verdict_of.ensures
