-- The word, the entries, and the end of the line.
use Rattle.text.specs.Text.{bytes_of, list_line}
use Rattle.text.proofs.PieceLaws.{written_then}
use Rattle.text.proofs.lines.put_list_line.Goals as goal

pub returns : goal.returns
unfolding bytes_of list_line
returns c =
    written_then (written_then c.put_bytes-a.ensures c.put_entries-b.ensures) c.put_bytes.ensures
