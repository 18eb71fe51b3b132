-- The line of a number.
use Rattle.text.specs.Text.{bytes_of, hap_text}
use Rattle.text.proofs.put_hap.Goals as goal

pub returns : goal.returns
unfolding bytes_of hap_text
returns c = c.put_number_line.ensures
