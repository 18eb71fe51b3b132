-- Document 02, P1: several haplotypes over one table. What such a call is, by which rule the whole of it is refused, and the call that each haplotype is by itself.
use Rattle.std.specs.Prelude.{ℕ, zero, suc, ◌-◌, ◌*◌, ◌^◌, Bool, true, false, not, ◌&&◌, ◌||◌, List, [], ◌∷◌, ◌++◌, leb, ltb, eqb, length, get_or, take, drop}
use Rattle.params.specs.declared.Settings.{Settings}
use Rattle.params.specs.Numbers.{Table, Parts, parts_of, Call, call_of, Rule, rule, first_of, any_below, disagrees, no_variants}
use Rattle.params.specs.Numbers.{little_queue_room, little_answer_room, settings_rules, shape_rules, bound_rules, limit_rules}

-- the settings, the table, the parts of all haplotypes one behind the other, where each haplotype's stretch of them ends, and the rooms
pub record Several : Type 0 where
  pub settings : Settings
  pub table : Table
  pub parts : Parts
  pub part_ends : List ℕ
  pub feature_ends : List ℕ
  pub queue_room : ℕ
  pub answer_room : ℕ
  pub report_room : ℕ

abbrev pub haplotypes : Several → ℕ
haplotypes c = length c.part_ends

-- a stretch begins where the one before it ends, the first at 0
abbrev pub begin_of : List ℕ → ℕ → ℕ
begin_of ends zero = 0
begin_of ends (suc i) = get_or ends i 0

abbrev pub stretch_of : {A : Type 0} → List ℕ → List A → ℕ → List A
stretch_of ends l i = take (get_or ends i 0 - begin_of ends i) (drop (begin_of ends i) l)

-- the parts of haplotype i
abbrev pub parts_at : Several → ℕ → Parts
parts_at c i = parts_of (stretch_of c.part_ends c.parts.sizes i) (stretch_of c.feature_ends c.parts.features i)

-- haplotype i in a call of its own, with room for V rows
abbrev pub own_call : Several → ℕ → Call
own_call c i = call_of c.settings c.table (parts_at c i) c.queue_room (length c.table.starts)

-- 27: not 1 to 16 haplotypes
abbrev pub bad_count : ℕ → Bool
bad_count n = not (leb 1 n && leb n 16)

-- 6: lent lengths disagree with V, m or 4^k: falling ends, or a last end that is not the slice's length
unfoldable pub ends_disagree : List ℕ → ℕ → Bool
ends_disagree ends n = any_below (length ends) (λ i. ltb (get_or ends i 0) (begin_of ends i)) || disagrees (begin_of ends (length ends)) n

-- and as many ends of the one as of the other
abbrev pub stretches_disagree : List ℕ → List ℕ → ℕ → ℕ → Bool
stretches_disagree part_ends feature_ends m f =
    disagrees (length feature_ends) (length part_ends) || (ends_disagree part_ends m || ends_disagree feature_ends f)

-- the parts that the whole call is refused by: with one haplotype its own, with several none
abbrev pub shared_parts : Bool → Parts → Parts
shared_parts true p = p
shared_parts false p = parts_of [] []

-- document 01's order, with 27 after 4, the 6 of the ends after the table's, and room for each haplotype
abbrev pub several_rules : Several → List Rule
several_rules c =
    let e = 4 ^ c.settings.k in
    let v = length c.table.starts in
    let p = shared_parts (eqb (haplotypes c) 1) c.parts in
    settings_rules c.settings
    ++ (rule 4 (no_variants c.table.starts)
    ∷ (rule 27 (bad_count (haplotypes c))
    ∷ (shape_rules e c.table p
    ++ (rule 6 (stretches_disagree c.part_ends c.feature_ends (length c.parts.sizes) (length c.parts.features))
    ∷ (bound_rules c.table.starts c.table.ends
    ++ (limit_rules e c.table p
    ++ (rule 11 (little_queue_room c.settings v c.queue_room)
    ∷ (rule 12 (little_answer_room (v * haplotypes c) c.answer_room)
    ∷ (rule 12 (little_answer_room (8 * haplotypes c) c.report_room)
    ∷ [])))))))))

unfoldable pub several_fault : Several → ℕ
several_fault c = first_of (several_rules c)
