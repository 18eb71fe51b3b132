-- Two digits, one behind the other.
use Rattle.text.proofs.PieceLaws.{written_hex2}
use Rattle.text.proofs.pieces.put_hex2.Goals as goal

pub returns : goal.returns
returns c =
    written_hex2 _ c.hex_digit.ensures c.hex_digit-2.ensures c.put_byte-a.ensures c.put_byte.ensures
