-- All flags are set before they are laid. Assumes nothing.
use Rattle.kplib.proofs.TogetherLaws.{all_set}
use Rattle.kplib.proofs.vargraph.pairs_together.Goals as goal

pub lay_pairs-requires : goal.lay_pairs-requires
lay_pairs-requires c = (c.requires.0, c.requires.1, c.requires.2, all_set)
