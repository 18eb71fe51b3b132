-- Each word is read at its own place, and taken as its field is.
use mathlib.Core.Path.{refl}
use Rattle.capi.specs.Words.{settings_of_words}
use Rattle.capi.proofs.words.settings_of_words.Goals as goal

pub returns : goal.returns
unfolding settings_of_words
returns c =
    rw (
      ← c.byte_of_word.ensures,
      ← c.flag_of_word.ensures,
      ← c.flag_of_word-2.ensures,
      ← c.flag_of_word-3.ensures,
      ← c.byte_of_word-2.ensures,
      ← c.float_of.ensures,
      ← c.float_of-2.ensures,
      ← c.float_of-3.ensures,
      ← c.float_of-4.ensures,
    ) refl
