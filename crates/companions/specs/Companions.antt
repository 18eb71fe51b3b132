-- Document 02, P8: beside a table, for every row the set of later rows that it does not overlap.
use Rattle.std.specs.Prelude.{ℕ, zero, suc, ◌+◌, ◌*◌, ◌/◌, ◌%◌, Bool, true, false, not, ◌&&◌, ◌||◌, List, [], ◌∷◌, ltb, eqb, get_or, take}
use Rattle.metrics.specs.Similarity.{overlaps_of}
use Rattle.params.specs.Numbers.{Rule, rule, first_of, too_many, bound_rules}

-- a table of up to 64 rows and its sheet, as they are lent: 64 starts, 64 ends, 64 × 64 flags, and how many rows there are
pub record Companions : Type 0 where
  pub starts : List ℕ
  pub ends : List ℕ
  pub sheet : List Bool
  pub rows : ℕ

abbrev pub lent_of : List ℕ → List ℕ → List Bool → ℕ → Companions
lent_of starts ends sheet rows = record { starts = starts; ends = ends; sheet = sheet; rows = rows }

-- two rows of a table overlap, under P5's rule
abbrev pub rows_overlap : List ℕ → List ℕ → ℕ → ℕ → Bool
rows_overlap starts ends r s = overlaps_of (get_or starts r 0) (get_or ends r 0) (get_or starts s 0) (get_or ends s 0)

-- s is a later row than r, and does not overlap it
unfoldable pub companion : List ℕ → List ℕ → ℕ → ℕ → ℕ → Bool
companion starts ends rows r s = ltb r s && (ltb s rows && not (rows_overlap starts ends r s))

-- f i ∷ f (i + 1) ∷ .., n flags
unfoldable pub flags_from : (ℕ → Bool) → ℕ → ℕ → List Bool
flags_from f i zero = []
flags_from f i (suc n) = f i ∷ flags_from f (suc i) n

-- a sheet of 64 × 64 flags: that of r and s stands at 64 r + s
unfoldable pub sheet_by : (ℕ → ℕ → Bool) → List Bool
sheet_by f = flags_from (λ i. f (i / 64) (i % 64)) 0 4096

abbrev pub sheet_flag : List Bool → ℕ → ℕ → Bool
sheet_flag sheet r s = get_or sheet (64 * r + s) false

-- the sheet worked out afresh from the rows present: every entry of a row or column at or past their number is no
abbrev pub sheet_of : List ℕ → List ℕ → ℕ → List Bool
sheet_of starts ends rows = sheet_by (companion starts ends rows)

unfoldable pub same_flags : List Bool → List Bool → Bool
same_flags [] [] = true
same_flags [] (y ∷ b) = false
same_flags (x ∷ a) [] = false
same_flags (true ∷ a) (y ∷ b) = y && same_flags a b
same_flags (false ∷ a) (y ∷ b) = not y && same_flags a b

-- 5 to 8 of the rows present: 6 does not arise, since 64 places are lent of each; and a table of no rows is fine
abbrev pub table_rules : ℕ → List ℕ → List ℕ → List Rule
table_rules rows starts ends = rule 5 (too_many rows) ∷ bound_rules (take rows starts) (take rows ends)

unfoldable pub table_fault : ℕ → List ℕ → List ℕ → ℕ
table_fault rows starts ends = first_of (table_rules rows starts ends)

-- 49: a sheet that isn't its table's, or a table that breaks 5 to 8
unfoldable pub not_its_sheet : Companions → Bool
not_its_sheet c = not (eqb (table_fault c.rows c.starts c.ends) 0) || not (same_flags c.sheet (sheet_of c.starts c.ends c.rows))
