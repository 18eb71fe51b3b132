-- Document 02, P4: the text of the chosen rows of a table, and by which rule the writing is refused.
use Rattle.std.specs.Prelude.{ℕ, Bool, false, not, cond, ◌&&◌, ◌||◌, List, [], ◌∷◌, map, leb, ltb, eqb, length, get_or, Result, Ok, Err}
use Rattle.metrics.specs.declared.refusals.Refusal.{Refusal}
use Rattle.metrics.specs.Refusals.{refusal_of}
use Rattle.params.specs.Numbers.{rule, first_of, disagrees}
use Rattle.bed.specs.Bed.{good_name, bed_text}

-- the chosen rows' numbers, in the rows' order
unfoldable pub chosen_of : List ℕ → List ℕ → List ℕ
chosen_of numbers rows = map (λ r. get_or numbers r 0) rows

unfoldable pub rows_text : List ℕ → List ℕ → List ℕ → List ℕ → List ℕ
rows_text name starts ends rows = bed_text name (chosen_of starts rows) (chosen_of ends rows)

-- 40 where any row is written
abbrev pub bad_name_for : List ℕ → List ℕ → Bool
bad_name_for rows name = leb 1 (length rows) && not (good_name name)

-- 44: a row that isn't there
unfoldable pub missing_row : ℕ → List ℕ → Bool
missing_row v [] = false
missing_row v (r ∷ rows) = leb v r || missing_row v rows

-- 43: too little room for BED text
abbrev pub little_text_room : ℕ → List ℕ → Bool
little_text_room room text = ltb room (length text)

unfoldable pub write_fault : List ℕ → List ℕ → List ℕ → List ℕ → ℕ → ℕ
write_fault name starts ends rows room = first_of
    (rule 6 (disagrees (length ends) (length starts))
    ∷ (rule 40 (bad_name_for rows name)
    ∷ (rule 44 (missing_row (length starts) rows)
    ∷ (rule 43 (little_text_room room (rows_text name starts ends rows))
    ∷ []))))

-- how many bytes were written
unfoldable pub write_answer : ℕ → List ℕ → Result ℕ Refusal
write_answer fault text = cond (eqb fault 0) (Ok (length text)) (Err (refusal_of fault))

-- 0 on a refusal
abbrev pub written_bytes : Result ℕ Refusal → ℕ
written_bytes (Ok n) = n
written_bytes (Err refusal) = 0
