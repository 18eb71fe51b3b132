-- Three lines of the same form.
use Rattle.text.specs.Text.{bytes_of, similarity_lines}
use Rattle.text.proofs.PieceLaws.{written_then}
use Rattle.text.proofs.lines.put_similarities.Goals as goal

pub returns : goal.returns
unfolding bytes_of similarity_lines
returns c =
    written_then (written_then c.put_float_line-b.ensures c.put_float_line-d.ensures) c.put_float_line.ensures
