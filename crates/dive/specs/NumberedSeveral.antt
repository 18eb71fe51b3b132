-- Document 02, P1 and P3: several haplotypes over one table whose variants carry record numbers. By which rule the whole call is refused, and what it leaves.
use Rattle.std.specs.Prelude.{ℕ, ◌*◌, ◌^◌, Bool, List, [], ◌∷◌, ◌++◌, eqb, length}
use Rattle.params.specs.Numbers.{Rule, rule, first_of, any_below, disagrees, no_variants, little_queue_room, little_answer_room, settings_rules, shape_rules, bound_rules, limit_rules}
use Rattle.params.specs.Several.{Several, haplotypes, own_call, bad_count, stretches_disagree, shared_parts}
use Rattle.kplib.specs.Haplotypes.{laid, report_words, answered_after}
use Rattle.dive.specs.Numbered.{Numbered, repeated_number, numbered_answer, numbered_rows, records_of, numbered_searches}

-- a call of several haplotypes, the record numbers of its variants, and the room for the records of the answers
pub record NumberedSeveral : Type 0 where
  pub several : Several
  pub numbers : List ℕ
  pub record_room : ℕ

-- haplotype i in a call of its own, with room for V records
abbrev pub own_numbered : NumberedSeveral → ℕ → Numbered
own_numbered n i = record { call = own_call n.several i; numbers = n.numbers; record_room = length n.several.table.starts }

-- the order of the call without numbers and three rows more: 6 for other than V numbers, 14 after 8 and before 9, 12 for the second buffer
abbrev pub numbered_several_rules : NumberedSeveral → List Rule
numbered_several_rules n =
    let c = n.several in
    let e = 4 ^ c.settings.k in
    let v = length c.table.starts in
    let p = shared_parts (eqb (haplotypes c) 1) c.parts in
    settings_rules c.settings
    ++ (rule 4 (no_variants c.table.starts)
    ∷ (rule 27 (bad_count (haplotypes c))
    ∷ (shape_rules e c.table p
    ++ (rule 6 (stretches_disagree c.part_ends c.feature_ends (length c.parts.sizes) (length c.parts.features))
    ∷ (rule 6 (disagrees (length n.numbers) v)
    ∷ (bound_rules c.table.starts c.table.ends
    ++ (rule 14 (repeated_number n.numbers)
    ∷ (limit_rules e c.table p
    ++ (rule 11 (little_queue_room c.settings v c.queue_room)
    ∷ (rule 12 (little_answer_room (v * haplotypes c) c.answer_room)
    ∷ (rule 12 (little_answer_room (8 * haplotypes c) c.report_room)
    ∷ (rule 12 (little_answer_room (v * haplotypes c) n.record_room)
    ∷ []))))))))))))

unfoldable pub numbered_several_fault : NumberedSeveral → ℕ
numbered_several_fault n = first_of (numbered_several_rules n)

-- all are answered, or none where the whole call is refused
abbrev pub numbered_answered : NumberedSeveral → ℕ
numbered_answered n = answered_after (numbered_several_fault n) (haplotypes n.several)

abbrev pub numbered_rows_after : NumberedSeveral → List ℕ → List ℕ
numbered_rows_after n rows = laid (length n.several.table.starts) (λ i. numbered_rows (own_numbered n i)) (numbered_answered n) rows

abbrev pub records_after : NumberedSeveral → List ℕ → List ℕ
records_after n records = laid (length n.several.table.starts) (λ i. records_of (own_numbered n i)) (numbered_answered n) records

abbrev pub numbered_reports_after : NumberedSeveral → List ℕ → List ℕ
numbered_reports_after n reports = laid 8 (λ i. report_words (numbered_answer (own_numbered n i))) (numbered_answered n) reports

-- the queue's slices are written by a search only
abbrev pub numbered_several_searches : NumberedSeveral → Bool
numbered_several_searches n = any_below (numbered_answered n) (λ i. numbered_searches (own_numbered n i))
