-- Six pieces, one behind the other.
use Rattle.text.proofs.PieceLaws.{written_then}
use Rattle.bed.specs.Bed.{bed_line}
use Rattle.bed.proofs.lines.put_line.Goals as goal

pub returns : goal.returns
unfolding bed_line
returns c =
    let two = written_then c.put_bytes-a.ensures c.put_bytes-b.ensures in
    let three = written_then two c.put_digits-c.ensures in
    let four = written_then three c.put_bytes-d.ensures in
    let five = written_then four c.put_digits-e.ensures in
    written_then five c.put_bytes.ensures
