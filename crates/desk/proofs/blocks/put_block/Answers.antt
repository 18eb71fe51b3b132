-- The line, and the lines behind it.
use Rattle.desk.proofs.BlockLaws.{block_printed}
use Rattle.desk.proofs.blocks.put_block.Goals as goal

pub returns : goal.returns
returns c =
    block_printed _ _ _ _ _ c.put_hap-behind.ensures c.put_search.ensures
