-- The data as 28 words: id, samples, flags, 8 coverages, 8 phase sets, 8 tags, and a 0.
use Rattle.std.specs.Prelude.{ℕ, ◌+◌, List, [], ◌∷◌, ◌++◌, get_or}
use Rattle.meta.specs.declared.HaplotypeMeta.{HaplotypeMeta}

-- the eight entries from a place on
abbrev pub eight_at : List ℕ → ℕ → List ℕ
eight_at xs at =
    get_or xs at 0
    ∷ (get_or xs (at + 1) 0
    ∷ (get_or xs (at + 2) 0
    ∷ (get_or xs (at + 3) 0
    ∷ (get_or xs (at + 4) 0
    ∷ (get_or xs (at + 5) 0
    ∷ (get_or xs (at + 6) 0
    ∷ (get_or xs (at + 7) 0
    ∷ [])))))))

-- the last word is not looked at
abbrev pub meta_of_words : List ℕ → HaplotypeMeta
meta_of_words words = record {
  id = get_or words 0 0;
  samples = get_or words 1 0;
  samples_flag = get_or words 2 0;
  coverage = eight_at words 3;
  ps = eight_at words 11;
  hp = eight_at words 19;
}

abbrev pub words_of_meta : HaplotypeMeta → List ℕ
words_of_meta m =
    m.id ∷ (m.samples ∷ (m.samples_flag ∷ (eight_at m.coverage 0 ++ (eight_at m.ps 0 ++ (eight_at m.hp 0 ++ (0 ∷ []))))))
