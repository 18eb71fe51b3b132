-- The line of a number.
use Rattle.text.specs.Text.{bytes_of, refused_text}
use Rattle.text.proofs.put_refused.Goals as goal

pub returns : goal.returns
unfolding bytes_of refused_text
returns c = c.put_number_line.ensures
