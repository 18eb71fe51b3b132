-- The best so far, after the lists that are left, stands for the score. Assumes nothing.
use native.Mathlib.Omega.{arith}
use Rattle.kplib.proofs.ChainScoreLaws.{none_tried_lem, one_more, all_tried}
use Rattle.kplib.proofs.pathscore.score_chain.Goals as goal

pub loop-i-init : goal.loop-i-init
loop-i-init c = none_tried_lem _ _ _ _ _ c.none_tried-best.ensures

pub loop-i-preserved : goal.loop-i-preserved
loop-i-preserved c =
    one_more c.requires (omega arith) c.args.floor c.loop-i.best c.loop-i.scratch c.loop-i.invariant c.try_list-best.ensures

pub returns : goal.returns
returns c =
    all_tried c.requires (omega arith) c.args.floor c.loop-i.best c.loop-i.scratch c.loop-i.invariant
