-- Document 02, P9: a book of settings in a lent buffer: records of a kind, a version byte from 1 upward and then the 41 settings bytes of edition 2, and zeros behind the last.
use Rattle.std.specs.Prelude.{ℕ, zero, suc, ◌+◌, ◌-◌, ◌*◌, Bool, cond, not, ◌&&◌, ◌||◌, List, ◌∷◌, leb, eqb, length, get_or, take, drop}
use Rattle.params.specs.Numbers.{any_below}
use Rattle.form.specs.Form.{all_zero}
use Rattle.form.specs.Settings41.{settings41_fault}

abbrev pub book_kind : ℕ
book_kind = 0x21

-- the settings bytes, and with kind and version before them the record
abbrev pub saved_len : ℕ
saved_len = 41

abbrev pub record_len : ℕ
record_len = 43

-- where record i begins, the first being 0
abbrev pub place_of : ℕ → ℕ
place_of i = record_len * i

-- A record begins where another byte than 0 stands in the place of a kind. Behind the buffer there is none.
abbrev pub begins_at : List ℕ → ℕ → Bool
begins_at book i = not (eqb (get_or book (place_of i) 0) 0)

-- how many records begin one behind the other from record i on, of n places
unfoldable pub versions_from : List ℕ → ℕ → ℕ → ℕ
versions_from book i zero = 0
versions_from book i (suc n) = cond (begins_at book i) (suc (versions_from book (suc i) n)) 0

-- the book ends at the first place where none begins
unfoldable pub versions_of : List ℕ → ℕ
versions_of book = versions_from book 0 (length book)

-- the settings bytes of the record at a place
abbrev pub saved_in : List ℕ → ℕ → List ℕ
saved_in book at = take saved_len (drop (at + 2) book)

-- the settings saved under version v
unfoldable pub settings_at : List ℕ → ℕ → List ℕ
settings_at book v = saved_in book (place_of (v - 1))

-- the record at a place is of the one kind, whole, has this version, and holds settings that we would not refuse
unfoldable pub good_record : List ℕ → ℕ → ℕ → Bool
good_record book at version =
    eqb (get_or book at 0) book_kind
    && (leb (at + record_len) (length book)
    && (eqb (get_or book (at + 1) 0) version
    && eqb (settings41_fault (saved_in book at)) 0))

abbrev pub bad_version : List ℕ → ℕ → Bool
bad_version book i = not (good_record book (place_of i) (i + 1))

-- 48: a book that breaks its rules or holds settings we would refuse: versions run 1, 2, 3 without gaps, and every byte after the last record is 0
unfoldable pub broken : List ℕ → Bool
broken book = any_below (versions_of book) (bad_version book) || not (all_zero (drop (place_of (versions_of book)) book))

abbrev pub version_record : ℕ → List ℕ → List ℕ
version_record version settings = book_kind ∷ version ∷ settings
