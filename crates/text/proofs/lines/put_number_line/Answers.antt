-- The word, the digits, and the end of the line.
use Rattle.text.specs.Text.{bytes_of, number_line}
use Rattle.text.proofs.PieceLaws.{written_then}
use Rattle.text.proofs.lines.put_number_line.Goals as goal

pub returns : goal.returns
unfolding bytes_of number_line
returns c =
    written_then (written_then c.put_bytes-a.ensures c.put_digits-b.ensures) c.put_bytes.ensures
