-- Document 02, P7: the body of edition 2's settings, the old 40 bytes and then `letters`; and what such bytes are refused by.
use Rattle.std.specs.Prelude.{ℕ, List, [], ◌∷◌, ◌++◌, Bool, not, ◌&&◌, get_or}
use Rattle.params.specs.declared.Settings.{Settings}
use Rattle.params.specs.Numbers.{Rule, rule, first_of, settings_rules}
use Rattle.form.specs.Form.{are_flags, letters_place}
use Rattle.form.specs.Settings40.{settings_in, settings_bytes}

unfoldable pub settings41_in : List ℕ → Settings
settings41_in b =
    let old = settings_in b in
    record {
      k = old.k;
      squish = old.squish;
      one_to_one = old.one_to_one;
      full = old.full;
      maxpaths = old.maxpaths;
      maxnodes = old.maxnodes;
      fnmax = old.fnmax;
      pileupmax = old.pileupmax;
      minkfreq = old.minkfreq;
      letters = get_or b letters_place 0;
      sizesim = old.sizesim;
      seqsim = old.seqsim;
      fpenalty = old.fpenalty;
      gpenalty = old.gpenalty;
    }

unfoldable pub settings41_bytes : Settings → List ℕ
settings41_bytes s = settings_bytes s ++ (s.letters ∷ [])

-- 24: a flag not 0 or 1: squish, one_to_one and full from the second byte on, and `letters`
abbrev pub bad_flags41 : List ℕ → Bool
bad_flags41 b = not (are_flags b 1 3 && are_flags b letters_place 1)

-- 24, 1 to 3
abbrev pub settings41_rules : List ℕ → List Rule
settings41_rules b = rule 24 (bad_flags41 b) ∷ settings_rules (settings41_in b)

unfoldable pub settings41_fault : List ℕ → ℕ
settings41_fault b = first_of (settings41_rules b)
