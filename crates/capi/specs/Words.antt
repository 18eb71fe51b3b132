-- The settings of a search as C and Rust lend them: fourteen words in the order of the record's fields; and words that a refusal leaves as they were.
use Rattle.std.specs.Prelude.{ℕ, zero, suc, Bool, not, List, eqb, get_or}
use Rattle.std.specs.Float.{binary32}
use Rattle.std.specs.Float.Ieee.{of_bits}
use Rattle.params.specs.declared.Settings.{Settings}

-- a flag is no at 0 and yes at any other word
abbrev pub flag_of_word : ℕ → Bool
flag_of_word w = not (eqb w 0)

-- a whole number is its word, a k or letters that no byte holds too, and a float's word is its bits
unfoldable pub settings_of_words : List ℕ → Settings
settings_of_words words = record {
  k = get_or words 0 0;
  squish = flag_of_word (get_or words 1 0);
  one_to_one = flag_of_word (get_or words 2 0);
  full = flag_of_word (get_or words 3 0);
  maxpaths = get_or words 4 0;
  maxnodes = get_or words 5 0;
  fnmax = get_or words 6 0;
  pileupmax = get_or words 7 0;
  minkfreq = get_or words 8 0;
  letters = get_or words 9 0;
  sizesim = of_bits binary32 (get_or words 10 0);
  seqsim = of_bits binary32 (get_or words 11 0);
  fpenalty = of_bits binary32 (get_or words 12 0);
  gpenalty = of_bits binary32 (get_or words 13 0);
}

abbrev pub words_unless : ℕ → List ℕ → List ℕ → List ℕ
words_unless zero new old = new
words_unless (suc f) new old = old
