-- Document 02, P9, as a whole: what holds of a book from one change to the next.
use Rattle.std.specs.Prelude.{ℕ, ◌+◌, ◌<◌, ◌≤◌, ◌≡◌, false, List, [], ◌∷◌, length, get_or, take, drop, replicate}
use Rattle.book.specs.Book.{book_kind, saved_len, record_len, place_of, versions_of, settings_at, broken, version_record}
use Rattle.book.specs.Changes.{save_fault, read_fault, restore_fault, next_version, appended, saved_of, after_save, restored_of, after_restore}

-- 48 is not given
abbrev pub Sound : List ℕ → Type 0
Sound book = broken book ≡ false

pub data Change : Type 0 where
  Save : List ℕ → Change
  Restore : ℕ → Change

-- changes one after the other, of which a refused one changes nothing
unfoldable pub after_all : List ℕ → List Change → List ℕ
after_all book [] = book
after_all book (Save settings ∷ later) = after_all (after_save book settings) later
after_all book (Restore v ∷ later) = after_all (after_restore book v) later

-- settings are lent as their 41 bytes
abbrev pub SavedWhole : List Change → Type 0
SavedWhole [] = Unit {0}
SavedWhole (Save settings ∷ later) = (length settings ≡ saved_len) × SavedWhole later
SavedWhole (Restore v ∷ later) = SavedWhole later

pub record BookKept : Type 0 where
  -- a buffer of zeros is a book of no versions
  pub begins : (n : ℕ) → Sound (replicate n 0) × (versions_of (replicate n 0) ≡ 0)
  -- saving appends one record and changes no other byte
  pub before : (book settings : List ℕ) → length settings ≡ saved_len → save_fault book settings ≡ 0
      → take (place_of (versions_of book)) (appended book settings) ≡ take (place_of (versions_of book)) book
  pub new : (book settings : List ℕ) → length settings ≡ saved_len → save_fault book settings ≡ 0
      → take record_len (drop (place_of (versions_of book)) (appended book settings)) ≡ version_record (next_version book) settings
  pub behind : (book settings : List ℕ) → length settings ≡ saved_len → save_fault book settings ≡ 0
      → drop (place_of (next_version book)) (appended book settings) ≡ drop (place_of (next_version book)) book
  pub as_long : (book settings : List ℕ) → length settings ≡ saved_len → save_fault book settings ≡ 0 → length (appended book settings) ≡ length book
  -- it is a book again, of one version more
  pub saved : (book settings : List ℕ) → length settings ≡ saved_len → save_fault book settings ≡ 0
      → Sound (appended book settings) × (versions_of (appended book settings) ≡ next_version book)
  -- reading a version gives the settings saved under it, whatever was saved later
  pub read_back : (book settings : List ℕ) (later : List Change) → length settings ≡ saved_len → save_fault book settings ≡ 0 → SavedWhole later
      → let then = after_all (appended book settings) later in
      (read_fault then (next_version book) ≡ 0) × (settings_at then (next_version book) ≡ settings)
  -- and so each version that could be read before
  pub still_read : (book : List ℕ) (v : ℕ) (later : List Change) → read_fault book v ≡ 0 → SavedWhole later
      → (read_fault (after_all book later) v ≡ 0) × (settings_at (after_all book later) v ≡ settings_at book v)
  -- going back to a version is saving its settings again
  pub again : (book : List ℕ) (v : ℕ) → read_fault book v ≡ 0
      → (restored_of book v ≡ saved_of book (settings_at book v)) × (after_restore book v ≡ after_save book (settings_at book v))
  -- so the new version has the settings of the old
  pub same_settings : (book : List ℕ) (v : ℕ) → restore_fault book v ≡ 0
      → (read_fault (after_restore book v) (next_version book) ≡ 0) × (settings_at (after_restore book v) (next_version book) ≡ settings_at book v)
  -- versions run 1, 2, 3 without gaps: so they stand in the book, and just these can be read
  pub in_order : (book : List ℕ) → Sound book → (i : ℕ) → i < versions_of book → (get_or book (place_of i) 0 ≡ book_kind) × (get_or book (place_of i + 1) 0 ≡ i + 1)
  pub no_gap : (book : List ℕ) → Sound book → (v : ℕ) → 1 ≤ v → v ≤ versions_of book → read_fault book v ≡ 0
  pub none_else : (book : List ℕ) (v : ℕ) → read_fault book v ≡ 0 → (1 ≤ v) × (v ≤ versions_of book)
  -- and there are at most 255, since a version is a byte
  pub at_most : (book : List ℕ) → ((i : ℕ) → get_or book i 0 < 256) → Sound book → versions_of book ≤ 255
