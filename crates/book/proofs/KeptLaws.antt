-- A save that is refused changes nothing, and one that is accepted keeps every version before it; going back is a save of what the book holds, which is accepted.
-- So whatever is done later, a version reads as it was saved. Assumes nothing.
use Prim.Native.Nat.{ℕ, zero, suc, ◌+◌, ◌-◌, ◌<◌, ◌≤◌}
use native.Mathlib.Omega.{arith}
use mathlib.Core.Path.{◌≡◌, refl, sym, ap, subst, ◌∙◌}
use mathlib.Core.Bool.{true}
use mathlib.Core.Logic.{◌⊎◌, inl, inr, ⊎_elim}
use mathlib.Core.List.{List, [], ◌∷◌}
use lib.ListN.{length, get_or, replicate}
use Rattle.form.specs.Form.{all_zero}
use Rattle.form.specs.Settings41.{settings41_fault}
use Rattle.book.specs.Book.{saved_len, place_of, versions_of, saved_in, settings_at}
use Rattle.book.specs.Changes.{save_fault, read_fault, restore_fault, next_version, appended, changed_unless, saved_of, after_save, restored_of, after_restore}
use Rattle.book.specs.Kept.{Sound, Change, Save, Restore, after_all, SavedWhole, BookKept}
use Rattle.book.proofs.FaultLaws.{Good, good_at, read_there, Found, found, save_room, restore_room, restore_found, kept_refused, changed, long_settings}
use Rattle.book.proofs.SavedLaws.{versions_are, sound_made, before_kept, new_there, behind_kept, long_kept, settings_new, versions_new, sound_new, old_settings}
use Rattle.metrics.specs.Refusals.{refused_or}

-- ---- a version of a book, as it reads
abbrev Reads : List ℕ → ℕ → List ℕ → Type 0
Reads book v settings = (read_fault book v ≡ 0) × (settings_at book v ≡ settings)

there : (book : List ℕ) (v : ℕ) → read_fault book v ≡ 0 → Found book v
there book v e = found book v (sym e)

module _ (book settings : List ℕ) (long : length settings ≡ saved_len) (none : save_fault book settings ≡ 0) where
  reads_new : Reads (appended book settings) (next_version book) settings
  unfolding settings_at
  reads_new =
      let is = versions_new book settings long none in
      let back : next_version book - 1 ≡ versions_of book = omega arith in (
        sym (read_there (appended book settings) (next_version book) (sound_new book settings long none) (omega arith) (next_version book) (sym is) (omega arith)),
        ap (λ (i : ℕ). saved_in (appended book settings) (place_of i)) back ∙ settings_new book settings long none,
      )

  reads_old : (v : ℕ) → read_fault book v ≡ 0 → Reads (appended book settings) v (settings_at book v)
  unfolding settings_at
  reads_old v e =
      let f = there book v e in let low = f.low in let high = f.high in
      let is = versions_new book settings long none in (
        sym (read_there (appended book settings) v (sound_new book settings long none) low (versions_of (appended book settings)) refl (omega arith)),
        old_settings book settings long none (v - 1) (omega arith),
      )

-- ---- what one change makes of the book
after_save_lem : (book settings : List ℕ) → save_fault book settings ≡ 0 → after_save book settings ≡ appended book settings
unfolding after_save
after_save_lem book settings e = sym (changed (appended book settings) book (sym e))

after_refused : (book settings : List ℕ) → (save_fault book settings ≡ 0 → ⊥) → after_save book settings ≡ book
unfolding after_save
after_refused book settings h = sym (kept_refused _ _ (appended book settings) book refl h)

-- what the book holds is not refused, so going back is saving it
module _ (book : List ℕ) (v : ℕ) (e : read_fault book v ≡ 0) where
  held : settings41_fault (settings_at book v) ≡ 0
  unfolding settings_at
  held = let f = there book v e in let low = f.low in let high = f.high in (good_at book f.sound (v - 1) (omega arith)).accepted

  long_held : length (settings_at book v) ≡ saved_len
  unfolding settings_at
  long_held = long_settings book (place_of (v - 1)) (there book v e).whole

  same_fault : restore_fault book v ≡ save_fault book (settings_at book v)
  same_fault = sym (restore_room book v (sym e) _ refl) ∙ save_room book (settings_at book v) (there book v e).sound (sym held) _ refl

  again : (restored_of book v ≡ saved_of book (settings_at book v)) × (after_restore book v ≡ after_save book (settings_at book v))
  unfolding restored_of saved_of after_restore after_save
  again = (
    ap (λ (f : ℕ). refused_or f (next_version book)) same_fault,
    ap (λ (f : ℕ). changed_unless f (appended book (settings_at book v)) book) same_fault,
  )

restored : (book : List ℕ) (v : ℕ) → restore_fault book v ≡ 0 → read_fault book v ≡ 0
restored book v e =
    let f = restore_found book v (sym e) in
    sym (read_there book v f.sound f.low (versions_of book) refl f.high)

restore_refused : (book : List ℕ) (v : ℕ) → (restore_fault book v ≡ 0 → ⊥) → after_restore book v ≡ book
unfolding after_restore
restore_refused book v h = sym (kept_refused _ _ (appended book (settings_at book v)) book refl h)

-- ---- whatever is done later
zero_or_not : (n : ℕ) → (n ≡ 0) ⊎ (n ≡ 0 → ⊥)
zero_or_not zero = inl refl
zero_or_not (suc n) = inr (λ e. omega arith)

reads_after_save : (book : List ℕ) (v : ℕ) (settings : List ℕ) {kept : List ℕ} → Reads book v kept → length settings ≡ saved_len → Reads (after_save book settings) v kept
reads_after_save book v settings {kept} r long = ⊎_elim
    (λ (none : save_fault book settings ≡ 0).
    let old = reads_old book settings long none v r.0 in
    subst (λ (b : List ℕ). Reads b v kept) (sym (after_save_lem book settings none)) (old.0, old.1 ∙ r.1))
    (λ (some : save_fault book settings ≡ 0 → ⊥). subst (λ (b : List ℕ). Reads b v kept) (sym (after_refused book settings some)) r)
    (zero_or_not (save_fault book settings))

reads_after_restore : (book : List ℕ) (v u : ℕ) {kept : List ℕ} → Reads book v kept → Reads (after_restore book u) v kept
reads_after_restore book v u {kept} r = ⊎_elim
    (λ (none : restore_fault book u ≡ 0).
    let e = restored book u none in
    subst (λ (b : List ℕ). Reads b v kept) (sym (again book u e).1) (reads_after_save book v (settings_at book u) r (long_held book u e)))
    (λ (some : restore_fault book u ≡ 0 → ⊥). subst (λ (b : List ℕ). Reads b v kept) (sym (restore_refused book u some)) r)
    (zero_or_not (restore_fault book u))

reads_later : (book : List ℕ) (v : ℕ) (kept : List ℕ) (later : List Change) → Reads book v kept → SavedWhole later → Reads (after_all book later) v kept
unfolding after_all
reads_later book v kept [] r lent = r
reads_later book v kept (Save settings ∷ later) r lent = reads_later (after_save book settings) v kept later (reads_after_save book v settings r lent.0) lent.1
reads_later book v kept (Restore u ∷ later) r lent = reads_later (after_restore book u) v kept later (reads_after_restore book v u r) lent

-- ---- a book of no versions, and of at most 255
zeros_only : (n : ℕ) → all_zero (replicate n 0) ≡ true
zeros_only zero = refl
zeros_only (suc n) = zeros_only n

empty : (n : ℕ) → Sound (replicate n 0) × (versions_of (replicate n 0) ≡ 0)
empty n =
    let good : (i : ℕ) → i < 0 → Good (replicate n 0) (place_of i) (i + 1) = λ i h. absurd (omega arith) in
    let is = versions_are (replicate n 0) 0 good (zeros_only n) in
    (sound_made (replicate n 0) 0 is good (zeros_only n), is)

few_versions : (book : List ℕ) → ((i : ℕ) → get_or book i 0 < 256) → Sound book → versions_of book ≤ 255
few_versions book bytes sound = go (versions_of book) refl
  where
    go : (n : ℕ) → versions_of book ≡ n → n ≤ 255
    go zero e = omega arith
    go (suc m) e =
        let last : get_or book (place_of m + 1) 0 ≡ m + 1 = (good_at book sound m (omega arith)).numbered in
        omega (arith, bytes (place_of m + 1))

pub book_kept : BookKept
book_kept = record {
  begins = empty;
  before = λ book settings long none. before_kept book settings long none;
  new = λ book settings long none. new_there book settings long none;
  behind = λ book settings long none. behind_kept book settings long none;
  as_long = λ book settings long none. long_kept book settings long none;
  saved = λ book settings long none. (sound_new book settings long none, versions_new book settings long none);
  read_back = λ book settings later long none lent. reads_later (appended book settings) (next_version book) settings later (reads_new book settings long none) lent;
  still_read = λ book v later e lent. reads_later book v (settings_at book v) later (e, refl) lent;
  again = again;
  same_settings = λ book v none.
      let e = restored book v none in
      let accepted : save_fault book (settings_at book v) ≡ 0 = sym (same_fault book v e) ∙ none in
      subst (λ (b : List ℕ). Reads b (next_version book) (settings_at book v)) (sym ((again book v e).1 ∙ after_save_lem book (settings_at book v) accepted))
      (reads_new book (settings_at book v) (long_held book v e) accepted);
  in_order = λ book sound i h. let g = good_at book sound i h in (g.kind, g.numbered);
  no_gap = λ book sound v low high. sym (read_there book v sound low (versions_of book) refl high);
  none_else = λ book v e. let f = there book v e in (f.low, f.high);
  at_most = few_versions;
}
