-- Three lines, the first of which asks which target matched.
use mathlib.Core.Path.{sym}
use Rattle.text.specs.Text.{bytes_of, reach_lines}
use Rattle.text.proofs.PieceLaws.{written_then}
use Rattle.text.proofs.lines.put_reach.Goals as goal

pub returns : goal.returns
unfolding bytes_of reach_lines
returns c =
    rw (sym c.is_whole.ensures) (written_then (written_then c.put_flag_line-b.ensures c.put_number_line-d.ensures) c.put_flag_line.ensures)
