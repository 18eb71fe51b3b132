-- Document 02, P7: a job moved from one edition of the form to the other, and what moving answers.
-- What the editions share is copied byte for byte, so that a NaN's bits survive.
use Rattle.std.specs.Prelude.{ℕ, zero, suc, ◌+◌, ◌^◌, List, [], ◌∷◌, ◌++◌, Bool, false, not, ◌||◌, cond, length, take, ltb, eqb, Result, Ok, Err}
use Rattle.metrics.specs.declared.refusals.Refusal.{Refusal}
use Rattle.metrics.specs.Refusals.{refusal_of}
use Rattle.metrics.specs.Placed.{placed}
use Rattle.params.specs.Numbers.{Rule, rule, first_of}
use Rattle.fields.specs.Fields.{bytes4}
use Rattle.form.specs.Form.{settings_kind, variant_kind, settings2_kind, variant2_kind, settings_len, variant_len, kind_of, is_settings, is_variant, body_len}
use Rattle.form.specs.Job.{Read, Faulty, Held, edition_of, job_of, numbers_of, read_job}
use Rattle.form.specs.declared.records.Edition.{Edition}
use Rattle.form.specs.declared.records.Edition.TheVariants.{One, Two}
use Rattle.form.specs.declared.records.Kind.{Kind}

abbrev pub other_edition : Edition → Edition
other_edition One = Two
other_edition Two = One

-- how an edition is asked for
abbrev pub edition_number : Edition → ℕ
edition_number One = 1
edition_number Two = 2

-- the byte that begins an edition's settings, and its variants
abbrev pub settings_byte : Edition → ℕ
settings_byte One = settings_kind
settings_byte Two = settings2_kind

abbrev pub variant_byte : Edition → ℕ
variant_byte One = variant_kind
variant_byte Two = variant2_kind

-- the byte that begins a record in an edition, by the one that begins it in either; all other kinds are common
unfoldable pub byte_in : Edition → ℕ → ℕ
byte_in e byte = cond (is_settings (kind_of byte)) (settings_byte e) (cond (is_variant (kind_of byte)) (variant_byte e) byte)

-- how much of a body both editions have: the whole of edition 1's
unfoldable pub shared_len : Kind → ℕ
shared_len kind = cond (is_settings kind) settings_len (cond (is_variant kind) variant_len (body_len kind))

-- what edition 2 has behind it: `letters`, which is 0, and the record number, which is the row
unfoldable pub added_in : Edition → Kind → ℕ → List ℕ
added_in One kind row = []
added_in Two kind row = cond (is_settings kind) (0 ∷ []) (cond (is_variant kind) (bytes4 row) [])

-- a record in an edition, with b from its body on and `row` variants before it
unfoldable pub record_in : Edition → ℕ → List ℕ → ℕ → List ℕ
record_in e byte b row = byte_in e byte ∷ (take (shared_len (kind_of byte)) b ++ added_in e (kind_of byte) row)

unfoldable pub next_row : Kind → ℕ → ℕ
next_row kind row = cond (is_variant kind) (row + 1) row

-- every record in an edition, front to back, with `row` variants before them; the first n bytes belong to a record that was read already
unfoldable pub moved_from : Edition → List ℕ → ℕ → ℕ → List ℕ
moved_from e [] n row = []
moved_from e (k ∷ b) (suc n) row = moved_from e b n row
moved_from e (k ∷ b) zero row = record_in e k b row ++ moved_from e b (body_len (kind_of k)) (next_row (kind_of k) row)

abbrev pub moved : Edition → List ℕ → List ℕ
moved e s = moved_from e s 0 0

-- a job in the other edition
abbrev pub moved_over : List ℕ → List ℕ
moved_over s = moved (other_edition (edition_of s)) s

-- a number, of those from a row on, that is not its row
unfoldable pub off_row : ℕ → List ℕ → Bool
off_row row [] = false
off_row row (n ∷ numbers) = not (eqb n row) || off_row (suc row) numbers

-- 22: out of place: a job already in the edition asked for; or there is no such edition
abbrev pub wrong_edition : ℕ → List ℕ → Bool
wrong_edition asked s = not (eqb asked (edition_number (other_edition (edition_of s))))

-- 28: a record number is not its row; in edition 1 all are
abbrev pub numbers_off : List ℕ → Bool
numbers_off s = off_row 0 (numbers_of s)

-- 29: letters is 1; in edition 1 it is 0
abbrev pub letters_one : List ℕ → Bool
letters_one s = eqb (job_of s).settings.letters 1

-- 30: too little room: for the bytes, or for the last row in the 32 bits of a record number
abbrev pub no_room : List ℕ → ℕ → Bool
no_room s room = ltb room (length (moved_over s)) || ltb (2 ^ 32) (length (job_of s).variants)

-- 22, 28, 29, 30
abbrev pub moving_rules : ℕ → List ℕ → ℕ → List Rule
moving_rules asked s room =
    rule 22 (wrong_edition asked s)
    ∷ (rule 28 (numbers_off s)
    ∷ (rule 29 (letters_one s)
    ∷ (rule 30 (no_room s room) ∷ [])))

abbrev pub moving_case : ℕ → ℕ → Result ℕ Refusal
moving_case zero n = Ok n
moving_case (suc f) n = Err (refusal_of (suc f))

abbrev pub moving_by : Read → ℕ → ℕ → Result ℕ Refusal
moving_by (Faulty n) fault written = Err (refusal_of n)
moving_by (Held job) fault written = moving_case fault written

-- the first fault of the form, then the first of the rules; else how many bytes are written
unfoldable pub moving_of : ℕ → List ℕ → ℕ → Result ℕ Refusal
moving_of asked s room = moving_by (read_job s) (first_of (moving_rules asked s room)) (length (moved_over s))

-- what the lent room holds after the answer: the bytes at the front, or what it held
unfoldable pub out_after : Result ℕ Refusal → List ℕ → List ℕ → List ℕ
out_after (Err refusal) bytes old = old
out_after (Ok n) bytes old = placed old bytes
