-- What was made, as words, and its number.
use Rattle.capi.proofs.MetaLaws.{new_words}
use Rattle.capi.proofs.nd_meta_new.Goals as goal

pub returns : goal.returns
returns c = new_words _ _ c.new.ensures c.put_made.ensures.number c.put_made.ensures.words
