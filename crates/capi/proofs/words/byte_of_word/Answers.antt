-- What a byte holds of a word, by the test.
use mathlib.Core.Path.{refl}
use borrow.Author.Tests.{lt-ltb, le-ltb}
use Rattle.capi.proofs.words.byte_of_word.Goals as goal

pub returns-then-word-gt255 : goal.returns-then-word-gt255
returns-then-word-gt255 c = rw (lt-ltb _ _ c.if-word-gt255.true) refl

pub returns-else-word-gt255 : goal.returns-else-word-gt255
returns-else-word-gt255 c = rw (le-ltb _ _ c.if-word-gt255.false) refl
