-- The left as it was on a refusal, else the words of the two as one.
use Rattle.capi.proofs.MetaLaws.{refused_words, combined_words}
use Rattle.capi.proofs.nd_meta_combine.Goals as goal

pub returns-in-Ok : goal.returns-in-Ok
returns-in-Ok c = combined_words c.args.left.now c.args.right.now c.meta_of_words.ensures c.meta_of_words-2.ensures _ c.in-Ok.ensures c.words_of_meta.ensures

pub returns-in-Err : goal.returns-in-Err
returns-in-Err c = refused_words c.args.left.now c.args.right.now c.meta_of_words.ensures c.meta_of_words-2.ensures _ c.in-Err.ensures c.into.ensures
