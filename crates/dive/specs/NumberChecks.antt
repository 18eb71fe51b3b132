-- What is asked of the record numbers by themselves. No public promise cites this file.
use Rattle.std.specs.Prelude.{ℕ, ◌*◌, cond, List, [], ◌∷◌, ltb, length}
use Rattle.params.specs.Numbers.{Rule, rule, first_of, disagrees, little_answer_room}
use Rattle.dive.specs.Numbered.{repeated_number}

-- of v variants and n haplotypes
abbrev pub number_rules : ℕ → ℕ → List ℕ → ℕ → List Rule
number_rules v n numbers record_room =
    rule 6 (disagrees (length numbers) v) ∷ (rule 14 (repeated_number numbers) ∷ (rule 12 (little_answer_room (v * n) record_room) ∷ []))

-- a table of over 64 variants, or over 16 haplotypes, are refused for that, before any of these
unfoldable pub number_fault : ℕ → ℕ → List ℕ → ℕ → ℕ
number_fault v n numbers record_room = cond (ltb 64 v) 0 (cond (ltb 16 n) 0 (first_of (number_rules v n numbers record_room)))
