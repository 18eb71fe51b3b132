-- What was made, as words, and its number.
use Rattle.capi.proofs.MetaLaws.{blank_words}
use Rattle.capi.proofs.nd_meta_blank.Goals as goal

pub returns : goal.returns
returns c = blank_words _ c.new_blank.ensures c.put_made.ensures.number c.put_made.ensures.words
