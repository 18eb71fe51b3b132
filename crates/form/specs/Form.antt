-- Document 01, "Job form", and change requests P1 and P7: records of one byte of kind and a body, and the first fault, front to back.
use Rattle.std.specs.Prelude.{ℕ, zero, suc, ◌+◌, ◌-◌, List, [], ◌∷◌, Bool, true, false, cond, not, ◌&&◌, get_or, length, take, drop, ltb, leb, eqb, Result, Ok, Err}
use Rattle.fields.specs.Fields.{le4}
use Rattle.form.specs.declared.records.Kind.{Kind}
use Rattle.form.specs.declared.records.Kind.TheVariants.{End, Settings, Variant, Part, Letters, Next, Settings2, Variant2, Unknown}
use Rattle.form.specs.declared.records.Record.{Record}
use Rattle.form.specs.declared.records.Shape.{Shape}
use Rattle.form.specs.declared.records.State.{State}
use Rattle.form.specs.declared.records.Counts.{Counts}
use Rattle.metrics.specs.declared.refusals.Refusal.{Refusal}
use Rattle.metrics.specs.declared.refusals.Refusal.TheVariants.{CutShort}
use Rattle.metrics.specs.Refusals.{refusal_of}

-- the byte that begins a record
abbrev pub end_kind : ℕ
end_kind = 0

abbrev pub settings_kind : ℕ
settings_kind = 1

abbrev pub variant_kind : ℕ
variant_kind = 2

abbrev pub part_kind : ℕ
part_kind = 3

abbrev pub letters_kind : ℕ
letters_kind = 4

-- begins the next haplotype
abbrev pub next_kind : ℕ
next_kind = 5

-- edition 2's settings and its variant
abbrev pub settings2_kind : ℕ
settings2_kind = 17

abbrev pub variant2_kind : ℕ
variant2_kind = 18

unfoldable pub kind_of : ℕ → Kind
kind_of byte =
    cond (eqb byte end_kind) End
    (cond (eqb byte settings_kind) Settings
    (cond (eqb byte variant_kind) Variant
    (cond (eqb byte part_kind) Part
    (cond (eqb byte letters_kind) Letters
    (cond (eqb byte next_kind) Next
    (cond (eqb byte settings2_kind) Settings2
    (cond (eqb byte variant2_kind) Variant2 Unknown)))))))

-- one value for each kind
abbrev pub by_kind : {A : Type 0} → A → A → A → A → A → A → A → A → A → Kind → A
by_kind end settings variant part letters next settings2 variant2 unknown End = end
by_kind end settings variant part letters next settings2 variant2 unknown Settings = settings
by_kind end settings variant part letters next settings2 variant2 unknown Variant = variant
by_kind end settings variant part letters next settings2 variant2 unknown Part = part
by_kind end settings variant part letters next settings2 variant2 unknown Letters = letters
by_kind end settings variant part letters next settings2 variant2 unknown Next = next
by_kind end settings variant part letters next settings2 variant2 unknown Settings2 = settings2
by_kind end settings variant part letters next settings2 variant2 unknown Variant2 = variant2
by_kind end settings variant part letters next settings2 variant2 unknown Unknown = unknown

abbrev pub is_end : Kind → Bool
is_end kind = by_kind true false false false false false false false false kind

-- of either edition
abbrev pub is_settings : Kind → Bool
is_settings kind = by_kind false true false false false false true false false kind

abbrev pub is_variant : Kind → Bool
is_variant kind = by_kind false false true false false false false true false kind

abbrev pub is_part : Kind → Bool
is_part kind = by_kind false false false true false false false false false kind

abbrev pub is_letters : Kind → Bool
is_letters kind = by_kind false false false false true false false false false kind

abbrev pub is_next : Kind → Bool
is_next kind = by_kind false false false false false true false false false kind

-- of edition 2 alone
abbrev pub is_second : Kind → Bool
is_second kind = by_kind false false false false false false true true false kind

abbrev pub is_unknown : Kind → Bool
is_unknown kind = by_kind false false false false false false false false true kind

-- how long the bodies of settings, variant, part and letters are, and edition 2's of settings and variant
abbrev pub settings_len : ℕ
settings_len = 40

abbrev pub variant_len : ℕ
variant_len = 25

abbrev pub part_len : ℕ
part_len = 9

abbrev pub letters_len : ℕ
letters_len = 16

abbrev pub settings2_len : ℕ
settings2_len = 41

abbrev pub variant2_len : ℕ
variant2_len = 29

-- where edition 2's settings have `letters`, a flag, and its variant the record number: behind the old bytes
abbrev pub letters_place : ℕ
letters_place = settings_len

abbrev pub number_place : ℕ
number_place = variant_len

-- A kind's shape: how long its body is, from which byte on how many are flags, where the letter count stands, 0 where it has none, and how many flags stand at `letters_place`.
abbrev pub shape : ℕ → ℕ → ℕ → ℕ → ℕ → Shape
shape body flags flagCount count late = record { body = body; flags = flags; flag_count = flagCount; count = count; late_flags = late }

-- the one table of kinds
abbrev pub shape_of : Kind → Shape
shape_of End = shape 0 0 0 0 0
shape_of Settings = shape settings_len 1 3 0 0
shape_of Variant = shape variant_len 20 1 21 0
shape_of Part = shape part_len 4 1 5 0
shape_of Letters = shape letters_len 0 0 0 0
shape_of Next = shape 0 0 0 0 0
shape_of Settings2 = shape settings2_len 1 3 0 1
shape_of Variant2 = shape variant2_len 20 1 21 0
shape_of Unknown = shape 0 0 0 0 0

unfoldable pub body_len : Kind → ℕ
body_len kind = (shape_of kind).body

-- While letters are owed, only they may follow. Phase 0: settings of either edition, which decide the job's. Phases 1 and 3: variants of edition 1, of edition 2,
-- and parts, the next haplotype and the end. Phase 2: the same without variants.
unfoldable pub in_place : State → Kind → Bool
in_place st Letters = ltb 0 st.left
in_place st Settings = eqb st.left 0 && eqb st.phase 0
in_place st Variant = eqb st.left 0 && eqb st.phase 1
in_place st Settings2 = eqb st.left 0 && eqb st.phase 0
in_place st Variant2 = eqb st.left 0 && eqb st.phase 3
in_place st Part = eqb st.left 0 && ltb 0 st.phase
in_place st End = eqb st.left 0 && ltb 0 st.phase
in_place st Next = eqb st.left 0 && ltb 0 st.phase
in_place st Unknown = false

-- n flags from the i-th byte on
abbrev pub are_flags : List ℕ → ℕ → ℕ → Bool
are_flags b i zero = true
are_flags b i (suc n) = ltb (get_or b i 0) 2 && are_flags b (suc i) n

unfoldable pub flags_ok : Kind → List ℕ → Bool
flags_ok kind b = are_flags b (shape_of kind).flags (shape_of kind).flag_count && are_flags b letters_place (shape_of kind).late_flags

-- how many letters a record announces
unfoldable pub count_of : Kind → List ℕ → ℕ
count_of kind b = cond (eqb (shape_of kind).count 0) 0 (le4 b (shape_of kind).count)

-- the record at a place: its kind, how many letters it announces, and where the next one begins; behind the last byte there is none
abbrev pub record_of : Kind → List ℕ → ℕ → Record
record_of kind b at = record { kind = kind; count = count_of kind b; next = at + 1 + body_len kind }

unfoldable pub record_at : List ℕ → ℕ → Record
record_at s at = cond (ltb at (length s)) (record_of (kind_of (get_or s at 0)) (drop (suc at) s) at) (record { kind = Unknown; count = 0; next = at })

abbrev pub all_zero : List ℕ → Bool
all_zero [] = true
all_zero (x ∷ xs) = eqb x 0 && all_zero xs

-- zeros behind the last of the letters that are owed
unfoldable pub pad_ok : State → Kind → List ℕ → Bool
pad_ok st kind b = cond (is_letters kind) (all_zero (drop st.left (take letters_len b))) true

-- All haplotypes but the first begin with a record of their own: the sixteenth would begin a seventeenth.
abbrev pub most_breaks : ℕ
most_breaks = 15

unfoldable pub too_many : State → Kind → Bool
too_many st kind = is_next kind && leb most_breaks st.breaks

-- the first fault of a record with b from its body on, or 0
unfoldable pub fault_of : State → Kind → List ℕ → ℕ
fault_of st kind b =
    cond (is_unknown kind) 20
    (cond (ltb (length b) (body_len kind)) 21
    (cond (not (in_place st kind)) 22
    (cond (too_many st kind) 27
    (cond (not (flags_ok kind b)) 24
    (cond (ltb 131072 (count_of kind b)) 13
    (cond (not (pad_ok st kind b)) 23
    (cond (is_end kind && ltb 0 (length b)) 25 0)))))))

-- what is known after a record with no fault
unfoldable pub after : State → Kind → List ℕ → State
after st kind b = record {
  phase = cond (is_part kind) 2 (cond (is_next kind) 2 (cond (is_settings kind) (cond (is_second kind) 3 1) st.phase));
  left = cond (is_letters kind) (cond (leb st.left letters_len) 0 (st.left - letters_len)) (count_of kind b);
  variants = cond (is_variant kind) (st.variants + 1) st.variants;
  parts = cond (is_part kind) (st.parts + 1) st.parts;
  breaks = cond (is_next kind) (st.breaks + 1) st.breaks;
  letters = cond (is_letters kind) (st.letters + cond (leb st.left letters_len) st.left letters_len) st.letters;
}

abbrev pub outset : State
outset = record { phase = 0; left = 0; variants = 0; parts = 0; breaks = 0; letters = 0 }

abbrev pub counted : State → Counts
counted st = record { variants = st.variants; parts = st.parts; breaks = st.breaks; letters = st.letters }

abbrev pub judge : ℕ → Kind → State → Result Counts Refusal → Result Counts Refusal
judge f kind st rest = cond (eqb f 0) (cond (is_end kind) (Ok (counted st)) rest) (Err (refusal_of f))

-- Reads the bytes front to back, of which the first n belong to a record that was read already.
unfoldable pub run : List ℕ → ℕ → State → Result Counts Refusal
run [] n st = Err CutShort
run (k ∷ b) (suc n) st = run b n st
run (k ∷ b) zero st = judge (fault_of st (kind_of k) b) (kind_of k) st (run b (body_len (kind_of k)) (after st (kind_of k) b))
