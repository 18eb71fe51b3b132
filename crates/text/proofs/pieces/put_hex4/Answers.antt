-- The higher half and then the lower half.
use Rattle.text.specs.Text.{hex4}
use Rattle.text.proofs.PieceLaws.{written_then}
use Rattle.text.proofs.pieces.put_hex4.Goals as goal

pub returns : goal.returns
unfolding hex4
returns c = written_then c.put_hex2-a.ensures c.put_hex2.ensures
