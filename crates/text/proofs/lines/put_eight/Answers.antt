-- The rows, their records, and twice three lines.
use Rattle.text.specs.Text.{bytes_of, eight_lines}
use Rattle.text.proofs.PieceLaws.{written_then}
use Rattle.text.proofs.lines.put_eight.Goals as goal

pub returns : goal.returns
unfolding bytes_of eight_lines
returns c =
    let lists = written_then c.put_front_line-b.ensures c.put_front_line-d.ensures in
    written_then (written_then lists c.put_similarities-e.ensures) c.put_reach.ensures
