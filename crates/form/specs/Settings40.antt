-- Document 01, "Job form": the 40 bytes of a settings record's body, a code of their own.
-- They have no place for `letters`: such settings read as 0 (document 02, P6). A float is its pattern; there is one NaN, which every NaN's pattern gives and whose own pattern is 0x7fc00000.
use Rattle.std.specs.Prelude.{ℕ, List, ◌∷◌, ◌++◌, Bool, true, false, get_or, eqb}
use Rattle.std.specs.Float.{binary32}
use Rattle.std.specs.Float.Ieee.{of_bits, to_bits}
use Rattle.params.specs.declared.Settings.{Settings}
use Rattle.fields.specs.Fields.{le4, bytes4}

abbrev pub flag : Bool → ℕ
flag true = 1
flag false = 0

unfoldable pub settings_in : List ℕ → Settings
settings_in b = record {
  k = get_or b 0 0;
  squish = eqb (get_or b 1 0) 1;
  one_to_one = eqb (get_or b 2 0) 1;
  full = eqb (get_or b 3 0) 1;
  maxpaths = le4 b 4;
  maxnodes = le4 b 8;
  fnmax = le4 b 12;
  pileupmax = le4 b 16;
  minkfreq = le4 b 20;
  letters = 0;
  sizesim = of_bits binary32 (le4 b 24);
  seqsim = of_bits binary32 (le4 b 28);
  fpenalty = of_bits binary32 (le4 b 32);
  gpenalty = of_bits binary32 (le4 b 36);
}

-- the five whole numbers, and the four floats
unfoldable pub number_bytes : Settings → List ℕ
number_bytes s = bytes4 s.maxpaths ++ (bytes4 s.maxnodes ++ (bytes4 s.fnmax ++ (bytes4 s.pileupmax ++ bytes4 s.minkfreq)))

unfoldable pub float_bytes : Settings → List ℕ
float_bytes s =
    bytes4 (to_bits binary32 s.sizesim) ++ (bytes4 (to_bits binary32 s.seqsim)
    ++ (bytes4 (to_bits binary32 s.fpenalty) ++ bytes4 (to_bits binary32 s.gpenalty)))

unfoldable pub settings_bytes : Settings → List ℕ
settings_bytes s = s.k ∷ flag s.squish ∷ flag s.one_to_one ∷ flag s.full ∷ (number_bytes s ++ float_bytes s)
