-- The higher half and then the lower half.
use Rattle.text.specs.Text.{hex8}
use Rattle.text.proofs.PieceLaws.{written_then}
use Rattle.text.proofs.pieces.put_hex8.Goals as goal

pub returns : goal.returns
unfolding hex8
returns c = written_then c.put_hex4-a.ensures c.put_hex4.ensures
