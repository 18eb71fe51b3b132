-- A space and then the digits.
use Rattle.text.specs.Text.{bytes_of, entry_text}
use Rattle.text.proofs.PieceLaws.{written_then}
use Rattle.text.proofs.lines.put_entry.Goals as goal

pub returns : goal.returns
unfolding bytes_of entry_text
returns c = written_then c.put_bytes-a.ensures c.put_digits.ensures
