-- Document 02, P3: each variant of a call carries a record number. By which rule such a call is refused, what it answers, and the records of its rows.
use Rattle.std.specs.Prelude.{ℕ, ◌^◌, Bool, ◌&&◌, List, [], ◌∷◌, ◌++◌, map, eqb, length, get_or}
use Rattle.params.specs.Numbers.{Call, Rule, rule, first_of, any_below, disagrees, little_answer_room, settings_rules, length_rules, bound_rules, limit_rules, room_rules}
use Rattle.kplib.specs.Answer.{answer_with, found_after, in_search_mode}
use Rattle.kplib.specs.declared.traverse.Answer.{Answer}

-- a call, the record numbers of its variants, and the room for the records of an answer
pub record Numbered : Type 0 where
  pub call : Call
  pub numbers : List ℕ
  pub record_room : ℕ

-- 14: a repeated record number
unfoldable pub repeated_number : List ℕ → Bool
repeated_number numbers = any_below (length numbers) (λ s. any_below s (λ r. eqb (get_or numbers r 0) (get_or numbers s 0)))

-- document 01's table and three rows more: 6 for other than V numbers, 14 after 8 and before 9, 12 for the second buffer
abbrev pub numbered_rules : Numbered → List Rule
numbered_rules n =
    let c = n.call in
    let e = 4 ^ c.settings.k in
    let v = length c.table.starts in
    settings_rules c.settings
    ++ (length_rules e c.table c.parts
    ++ (rule 6 (disagrees (length n.numbers) v)
    ∷ (bound_rules c.table.starts c.table.ends
    ++ (rule 14 (repeated_number n.numbers)
    ∷ (limit_rules e c.table c.parts
    ++ (room_rules c.settings v c.queue_room c.answer_room
    ++ (rule 12 (little_answer_room v n.record_room) ∷ [])))))))

unfoldable pub numbered_fault : Numbered → ℕ
numbered_fault n = first_of (numbered_rules n)

-- scores, rows, order and count are document 01's; the numbers may only have the call refused
unfoldable pub numbered_answer : Numbered → Answer
numbered_answer n = answer_with (numbered_fault n) (found_after (numbered_fault n) n.call)

unfoldable pub numbered_rows : Numbered → List ℕ
numbered_rows n = (found_after (numbered_fault n) n.call).rows

-- the record numbers of some rows, in the rows' order
unfoldable pub records_at : List ℕ → List ℕ → List ℕ
records_at numbers rows = map (λ r. get_or numbers r 0) rows

abbrev pub records_of : Numbered → List ℕ
records_of n = records_at n.numbers (numbered_rows n)

-- the queue's slices are written by a search only
unfoldable pub numbered_searches : Numbered → Bool
numbered_searches n = eqb (numbered_fault n) 0 && in_search_mode n.call
