-- Document 02, P9: saving adds the next version, reading one gives the settings saved under it, going back to one saves its settings again under a new number.
use Rattle.std.specs.Prelude.{ℕ, zero, suc, ◌+◌, ◌-◌, Bool, not, ◌&&◌, List, [], ◌∷◌, ◌++◌, leb, ltb, length, take, drop, Result, Ok, Err}
use Rattle.metrics.specs.declared.refusals.Refusal.{Refusal}
use Rattle.metrics.specs.Refusals.{refused_or}
use Rattle.params.specs.Numbers.{Rule, rule, first_of}
use Rattle.form.specs.Settings41.{settings41_rules}
use Rattle.book.specs.Book.{record_len, place_of, versions_of, settings_at, broken, version_record}

-- 45: a version that isn't there
abbrev pub missing : List ℕ → ℕ → Bool
missing book v = not (leb 1 v && leb v (versions_of book))

-- 46: all 255 versions are used
abbrev pub all_used : List ℕ → Bool
all_used book = leb 255 (versions_of book)

-- 47: fewer than 43 bytes left in the book
abbrev pub little_room : List ℕ → Bool
little_room book = ltb (length book - place_of (versions_of book)) record_len

abbrev pub room_rules : List ℕ → List Rule
room_rules book = rule 46 (all_used book) ∷ (rule 47 (little_room book) ∷ [])

-- 48, 24, 1 to 3, 46, 47
abbrev pub save_rules : List ℕ → List ℕ → List Rule
save_rules book settings = rule 48 (broken book) ∷ (settings41_rules settings ++ room_rules book)

unfoldable pub save_fault : List ℕ → List ℕ → ℕ
save_fault book settings = first_of (save_rules book settings)

-- 48, 45
abbrev pub read_rules : List ℕ → ℕ → List Rule
read_rules book v = rule 48 (broken book) ∷ (rule 45 (missing book v) ∷ [])

unfoldable pub read_fault : List ℕ → ℕ → ℕ
read_fault book v = first_of (read_rules book v)

-- 48, 45, 46, 47: what the book holds is no 24 and no 1 to 3, else it would be a 48
unfoldable pub restore_fault : List ℕ → ℕ → ℕ
restore_fault book v = first_of (read_rules book v ++ room_rules book)

-- the version that a change adds
abbrev pub next_version : List ℕ → ℕ
next_version book = versions_of book + 1

-- one record behind the last, and every other byte as it was
unfoldable pub appended : List ℕ → List ℕ → List ℕ
appended book settings =
    let end = place_of (versions_of book) in
    take end book ++ version_record (next_version book) settings ++ drop (end + record_len) book

-- nothing is changed on a refusal
abbrev pub changed_unless : {A : Type 0} → ℕ → A → A → A
changed_unless zero new old = new
changed_unless (suc f) new old = old

-- what saving answers, and the book after it
unfoldable pub saved_of : List ℕ → List ℕ → Result ℕ Refusal
saved_of book settings = refused_or (save_fault book settings) (next_version book)

unfoldable pub after_save : List ℕ → List ℕ → List ℕ
after_save book settings = changed_unless (save_fault book settings) (appended book settings) book

-- and going back
unfoldable pub restored_of : List ℕ → ℕ → Result ℕ Refusal
restored_of book v = refused_or (restore_fault book v) (next_version book)

unfoldable pub after_restore : List ℕ → ℕ → List ℕ
after_restore book v = changed_unless (restore_fault book v) (appended book (settings_at book v)) book

-- its version; 0 on a refusal
abbrev pub saved_version : Result ℕ Refusal → ℕ
saved_version (Ok version) = version
saved_version (Err refusal) = 0
