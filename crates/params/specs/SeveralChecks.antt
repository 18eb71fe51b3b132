-- What is asked of the haplotypes of a call by themselves, and what of the rest. No public promise cites this file.
use Rattle.std.specs.Prelude.{ℕ, ◌*◌, cond, List, [], ◌∷◌, ltb, eqb, length}
use Rattle.params.specs.Numbers.{Call, call_of, Rule, rule, first_of, little_answer_room}
use Rattle.params.specs.Several.{Several, haplotypes, bad_count, stretches_disagree, shared_parts}

abbrev pub stretch_rules : ℕ → List ℕ → List ℕ → ℕ → ℕ → ℕ → ℕ → List Rule
stretch_rules v part_ends feature_ends m f answer_room report_room =
    rule 6 (stretches_disagree part_ends feature_ends m f)
    ∷ (rule 12 (little_answer_room (v * length part_ends) answer_room)
    ∷ (rule 12 (little_answer_room (8 * length part_ends) report_room)
    ∷ []))

-- a table of over 64 variants is refused for that, before any of these but 27
unfoldable pub stretch_fault : ℕ → List ℕ → List ℕ → ℕ → ℕ → ℕ → ℕ → ℕ
stretch_fault v part_ends feature_ends m f answer_room report_room =
    cond (bad_count (length part_ends)) 27 (cond (ltb 64 v) 0 (first_of (stretch_rules v part_ends feature_ends m f answer_room report_room)))

-- the call that all haplotypes share
abbrev pub shared_call : Several → Call
shared_call c = call_of c.settings c.table (shared_parts (eqb (haplotypes c) 1) c.parts) c.queue_room (length c.table.starts)
