-- What the code's record of settings holds of settings whose k and letters may be any word. No public promise cites this file.
use Rattle.std.specs.Prelude.{ℕ, cond, ltb}
use Rattle.params.specs.declared.Settings.{Settings}

abbrev pub byte_held : ℕ → ℕ
byte_held word = cond (ltb 255 word) 255 word

abbrev pub settings_held : Settings → Settings
settings_held s = record {
  k = byte_held s.k;
  squish = s.squish;
  one_to_one = s.one_to_one;
  full = s.full;
  maxpaths = s.maxpaths;
  maxnodes = s.maxnodes;
  fnmax = s.fnmax;
  pileupmax = s.pileupmax;
  minkfreq = s.minkfreq;
  letters = byte_held s.letters;
  sizesim = s.sizesim;
  seqsim = s.seqsim;
  fpenalty = s.fpenalty;
  gpenalty = s.gpenalty;
}
