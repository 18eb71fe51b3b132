-- The word, the eight digits of the bits, and the end of the line.
use Rattle.text.specs.Text.{bytes_of, float_line}
use mathlib.Core.Path.{sym}
use Rattle.text.proofs.PieceLaws.{written_then}
use Rattle.text.proofs.lines.put_float_line.Goals as goal

pub returns : goal.returns
unfolding bytes_of float_line
returns c =
    rw (sym c.bits_of.ensures)
    (written_then (written_then c.put_bytes-a.ensures c.put_hex8-b.ensures) c.put_bytes.ensures)
