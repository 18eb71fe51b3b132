-- Where the editions differ, record by record: the kinds of settings and variant, their bodies, and how long they are. Every other law here is said once over both. Assumes nothing.
use Prim.Native.Nat.{ℕ, suc, ◌+◌, ◌*◌, ◌≤◌, ◌<◌}
use native.Mathlib.Omega.{arith}
use mathlib.Core.Path.{◌≡◌, refl, sym, ap}
use mathlib.Core.Bool.{Bool, false}
use mathlib.Core.List.{List, ◌∷◌, ◌++◌, append-nil}
use lib.IntN.{ℤ}
use lib.ListN.{length}
use Rattle.params.specs.declared.Settings.{Settings}
use Rattle.fields.specs.Fields.{le2, le4, bytes2, bytes4, bytes8}
use Rattle.form.specs.Settings40.{settings_bytes, number_bytes, float_bytes}
use Rattle.form.specs.Settings41.{settings41_bytes}
use Rattle.form.specs.Form.{kind_of, body_len, count_of, is_end, is_letters, is_next, is_unknown, is_part}
use Rattle.form.specs.Job.{records_for, part_body, variant_body, settings_record, variant_record}
use Rattle.form.specs.declared.records.Kind.{Kind}
use Rattle.form.specs.declared.records.Kind.TheVariants.{Settings as SettingsRecord, Variant as VariantRecord, Settings2, Variant2}
use Rattle.form.specs.declared.records.Edition.{Edition}
use Rattle.form.specs.declared.records.Edition.TheVariants.{One, Two}
use Rattle.writer.specs.Writing.{by_edition}
use Rattle.writer.specs.Steps.{variant_kind_by, settings_size, variant_size, number_tail, cost_of}
use Rattle.fields.proofs.FieldLaws.{four_back}

-- ---- the record of the settings: its first byte, its kind, and its body
abbrev pub settings_byte : Edition → ℕ
settings_byte e = by_edition 1 17 e

abbrev pub settings_kind_by : Edition → Kind
settings_kind_by e = by_edition SettingsRecord Settings2 e

abbrev pub settings_body : Edition → Settings → List ℕ
settings_body e s = by_edition (settings_bytes s) (settings41_bytes s) e

pub settings_record_lem : (e : Edition) (s : Settings) → settings_record e s ≡ settings_byte e ∷ settings_body e s
unfolding settings_record
settings_record_lem One s = refl
settings_record_lem Two s = refl

pub settings_kind_lem : (e : Edition) → kind_of (settings_byte e) ≡ settings_kind_by e
unfolding kind_of
settings_kind_lem One = refl
settings_kind_lem Two = refl

pub long_settings_body : (e : Edition) (s : Settings) → length (settings_body e s) ≡ body_len (settings_kind_by e)
unfolding settings41_bytes settings_bytes number_bytes float_bytes bytes4 bytes2 body_len
long_settings_body One s = refl
long_settings_body Two s = refl

settings_size_lem : (e : Edition) → suc (body_len (settings_kind_by e)) ≡ settings_size e
unfolding body_len
settings_size_lem One = refl
settings_size_lem Two = refl

pub long_settings : (e : Edition) (s : Settings) → length (settings_record e s) ≡ settings_size e
long_settings e s =
    let a = ap length (settings_record_lem e s) in
    let b = long_settings_body e s in
    let c = settings_size_lem e in
    omega (arith, a, b, c)

pub short_settings : (e : Edition) → settings_size e ≤ 42
short_settings One = omega arith
short_settings Two = omega arith

-- ---- the record of a variant, likewise; its body is edition 1's and what stands behind that
abbrev pub variant_record_by : Edition → Kind
variant_record_by e = by_edition VariantRecord Variant2 e

abbrev pub numbered_body : Edition → ℕ → ℕ → ℕ → ℤ → Bool → ℕ → List ℕ
numbered_body e number first last size negative count = variant_body first last size negative count ++ number_tail e number

pub variant_record_lem : (e : Edition) (number first last : ℕ) (size : ℤ) (negative : Bool) (count : ℕ)
    → variant_record e number first last size negative count ≡ variant_kind_by e ∷ numbered_body e number first last size negative count
unfolding variant_record
variant_record_lem One number first last size negative count = ap (λ (l : List ℕ). 2 ∷ l) (sym (append-nil (variant_body first last size negative count)))
variant_record_lem Two number first last size negative count = refl

pub variant_kind_lem : (e : Edition) → kind_of (variant_kind_by e) ≡ variant_record_by e
unfolding kind_of
variant_kind_lem One = refl
variant_kind_lem Two = refl

pub long_variant_body : (e : Edition) (number first last : ℕ) (size : ℤ) (negative : Bool) (count : ℕ)
    → length (numbered_body e number first last size negative count) ≡ body_len (variant_record_by e)
unfolding variant_body part_body bytes8 bytes4 bytes2 body_len
long_variant_body One number first last size negative count = refl
long_variant_body Two number first last size negative count = refl

pub variant_count : (e : Edition) (number first last : ℕ) (size : ℤ) (negative : Bool) (count : ℕ) (rest : List ℕ) → count < 4294967296
    → count_of (variant_record_by e) (numbered_body e number first last size negative count ++ rest) ≡ count
unfolding count_of variant_body part_body bytes8 bytes4 bytes2 le4 le2
variant_count One number first last size negative count rest h = four_back count h
variant_count Two number first last size negative count rest h = four_back count h

variant_size_lem : (e : Edition) → suc (body_len (variant_record_by e)) ≡ variant_size e
unfolding body_len
variant_size_lem One = refl
variant_size_lem Two = refl

pub long_variant : (e : Edition) (number first last : ℕ) (size : ℤ) (negative : Bool) (count : ℕ) → length (variant_record e number first last size negative count) ≡ variant_size e
long_variant e number first last size negative count =
    let a = ap length (variant_record_lem e number first last size negative count) in
    let b = long_variant_body e number first last size negative count in
    let c = variant_size_lem e in
    omega (arith, a, b, c)

pub variant_cost : (e : Edition) (n : ℕ) → cost_of (variant_kind_by e) n ≡ variant_size e + 17 * records_for n
unfolding cost_of kind_of body_len
variant_cost One n = refl
variant_cost Two n = refl

-- edition 1's record is the shorter one
pub short_variant : (e : Edition) → (26 ≤ variant_size e) × (variant_size e ≤ 30)
short_variant One = (omega arith, omega arith)
short_variant Two = (omega arith, omega arith)

-- ---- none of these kinds is another one
pub record Plain (kind : Kind) : Type 0 where
  pub end : is_end kind ≡ false
  pub letters : is_letters kind ≡ false
  pub next : is_next kind ≡ false
  pub unknown : is_unknown kind ≡ false
  pub part : is_part kind ≡ false

pub plain_settings : (e : Edition) → Plain (settings_kind_by e)
plain_settings One = record { end = refl; letters = refl; next = refl; unknown = refl; part = refl }
plain_settings Two = record { end = refl; letters = refl; next = refl; unknown = refl; part = refl }

pub plain_variant : (e : Edition) → Plain (variant_record_by e)
plain_variant One = record { end = refl; letters = refl; next = refl; unknown = refl; part = refl }
plain_variant Two = record { end = refl; letters = refl; next = refl; unknown = refl; part = refl }
