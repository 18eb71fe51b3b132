-- Row by row: the flags of the rows passed are laid. Assumes nothing.
use Rattle.kplib.proofs.TogetherLaws.{pairs_begin}
use Rattle.kplib.proofs.vargraph.lay_pairs.Goals as goal

pub loop-r-init : goal.loop-r-init
loop-r-init c = pairs_begin _ _ c.requires.3
