-- The word, and then one of two endings.
use Rattle.text.specs.Text.{bytes_of, flag_line}
use Rattle.text.proofs.PieceLaws.{written_then}
use Rattle.text.proofs.lines.put_flag_line.Goals as goal
use Rattle.text.proofs.lines.put_flag_line.Goals.{then-flag, else-flag}

pub returns : goal.returns
unfolding bytes_of flag_line
returns c =
    let both = written_then c.put_bytes-a.ensures c.put_bytes.ensures in
    elim c.if-flag.branch [ then-flag w ↦ rw (w.if-flag.true) (rw w.put_bytes-is at both) | else-flag w ↦ rw (w.if-flag.false) (rw w.put_bytes-is at both) ]
