-- Each refusal in its place, and what is known of a book where none is given. Assumes nothing.
use Prim.Native.Nat.{ℕ, zero, suc, ◌+◌, ◌-◌, ◌*◌, ◌<◌, ◌≤◌}
use native.Mathlib.Omega.{arith}
use mathlib.Core.Path.{◌≡◌, refl, sym, ap, ◌∙◌}
use mathlib.Core.Bool.{Bool, true, false, not, ◌&&◌}
use mathlib.Core.List.{List, [], ◌∷◌, ◌++◌}
use lib.Dec.{leb, eqb}
use lib.ListN.{length, get_or, take, drop, length-drop}
use lib.Seq.{length-take-le}
use borrow.Author.Tests.{leb-true, leb-false, ltb-false, eqb-true, not-false, eq-eqb, le-leb, lt-leb, lt-ltb, le-ltb}
use Rattle.paths.proofs.BooleanLaws.{and_both}
use Rattle.params.specs.Numbers.{Rule, first_of, any_below}
use Rattle.params.proofs.CheckLaws.{given, passed, Passed, stops, goes_on, none_given, any_where, or_no}
use Rattle.form.specs.Form.{all_zero}
use Rattle.form.specs.Settings41.{settings41_rules, settings41_fault}
use Rattle.book.specs.Book.{book_kind, record_len, place_of, versions_of, saved_in, settings_at, good_record, bad_version, broken, version_record}
use Rattle.book.specs.Changes.{room_rules, save_rules, read_rules, save_fault, read_fault, restore_fault, appended, changed_unless, saved_of, after_save, restored_of, after_restore}
use Rattle.std.specs.Prelude.{Ok, Err}
use Rattle.metrics.specs.declared.refusals.Refusal.{Refusal}
use Rattle.metrics.specs.Refusals.{refusal_number, refused_or}
use Rattle.metrics.proofs.RefusalLaws.{never_zero, numbered_is}

-- ---- a record that passes every test
pub record Good (book : List ℕ) (at version : ℕ) : Type 0 where
  pub kind : get_or book at 0 ≡ book_kind
  pub whole : at + record_len ≤ length book
  pub numbered : get_or book (at + 1) 0 ≡ version
  pub accepted : settings41_fault (saved_in book at) ≡ 0

module _ (book : List ℕ) (at version : ℕ) where
  pub good_told : good_record book at version ≡ true → Good book at version
  unfolding good_record
  good_told e =
      let k : Bool = eqb (get_or book at 0) book_kind in
      let w : Bool = leb (at + record_len) (length book) in
      let n : Bool = eqb (get_or book (at + 1) 0) version in
      let a : Bool = eqb (settings41_fault (saved_in book at)) 0 in
      let kw = and_both k (w && (n && a)) e in
      let wn = and_both w (n && a) kw.1 in
      let na = and_both n a wn.1 in
      record { kind = eqb-true _ _ kw.0; whole = leb-true _ _ wn.0; numbered = eqb-true _ _ na.0; accepted = eqb-true _ _ na.1 }

  pub good_made : Good book at version → good_record book at version ≡ true
  unfolding good_record
  good_made g = rw (
    eq-eqb (get_or book at 0) book_kind g.kind,
    le-leb (at + record_len) (length book) g.whole,
    eq-eqb (get_or book (at + 1) 0) version g.numbered,
    eq-eqb (settings41_fault (saved_in book at)) 0 g.accepted,
  )

-- ---- a book that keeps the rules
module _ (book : List ℕ) (sound : broken book ≡ false) where
  rules_kept : (any_below (versions_of book) (bad_version book) ≡ false) × (not (all_zero (drop (place_of (versions_of book)) book)) ≡ false)
  unfolding broken
  rules_kept = or_no _ _ sound

  pub good_at : (i : ℕ) → i < versions_of book → Good book (place_of i) (i + 1)
  good_at i h = good_told book (place_of i) (i + 1) (not-false _ (any_where (bad_version book) (versions_of book) rules_kept.0 i h))

  pub zeros_behind : all_zero (drop (place_of (versions_of book)) book) ≡ true
  zeros_behind = not-false _ rules_kept.1

-- ---- reading: 48, 45
module _ (book : List ℕ) (v : ℕ) where
  pub read_broken : broken book ≡ true → 48 ≡ read_fault book v
  unfolding read_fault
  read_broken e = rw e

  pub read_zero : broken book ≡ false → v < 1 → 45 ≡ read_fault book v
  unfolding read_fault
  read_zero e h = rw (e, lt-leb 1 v h)

  pub read_past : broken book ≡ false → 1 ≤ v → (n : ℕ) → n ≡ versions_of book → n < v → 45 ≡ read_fault book v
  unfolding read_fault
  read_past e l n is h = rw (e, le-leb 1 v l, lt-leb v (versions_of book) (omega arith))

  pub read_there : broken book ≡ false → 1 ≤ v → (n : ℕ) → n ≡ versions_of book → v ≤ n → 0 ≡ read_fault book v
  unfolding read_fault
  read_there e l n is h = rw (e, le-leb 1 v l, le-leb v (versions_of book) (omega arith))

  -- a version that is there
  pub record Found : Type 0 where
    pub sound : broken book ≡ false
    pub low : 1 ≤ v
    pub high : v ≤ versions_of book
    pub whole : place_of (v - 1) + record_len ≤ length book

  pub found : 0 ≡ read_fault book v → Found
  unfolding read_fault
  found e =
      let p = none_given (read_rules book v) refl (sym e) in
      let there = and_both _ _ (not-false _ p.1.0) in
      let l : 1 ≤ v = leb-true _ _ there.0 in
      let h : v ≤ versions_of book = leb-true _ _ there.1 in
      record { sound = p.0; low = l; high = h; whole = (good_at book p.0 (v - 1) (omega arith)).whole }

-- ---- room: 46, 47
module _ (book : List ℕ) (n : ℕ) (is : n ≡ versions_of book) where
  pub room_used : 255 ≤ n → 46 ≡ first_of (room_rules book)
  room_used h = rw (le-leb 255 (versions_of book) (omega arith))

  pub room_little : n < 255 → length book < record_len * n + record_len → 47 ≡ first_of (room_rules book)
  room_little h l = rw (lt-leb 255 (versions_of book) (omega arith), lt-ltb (length book - place_of (versions_of book)) record_len (omega arith))

  pub room_there : n < 255 → record_len * n + record_len ≤ length book → 0 ≡ first_of (room_rules book)
  room_there h l = rw (lt-leb 255 (versions_of book) (omega arith), le-ltb (length book - place_of (versions_of book)) record_len (omega arith))

-- the later of two groups of rules passes where both do
rooms : (first later : List Rule) → Passed (first ++ later) → 0 ≡ first_of later
rooms [] later p = none_found later p
  where
    none_found : (rules : List Rule) → Passed rules → 0 ≡ first_of rules
    none_found [] q = refl
    none_found (r ∷ rules) q = passed _ _ _ _ q.0 (none_found rules q.1)
rooms (r ∷ first) later p = rooms first later p.1

-- a book with room for the next version
pub record Ready (book : List ℕ) : Type 0 where
  pub sound : broken book ≡ false
  pub few : versions_of book < 255
  pub room : place_of (versions_of book) + record_len ≤ length book

ready : (book : List ℕ) → broken book ≡ false → 0 ≡ first_of (room_rules book) → Ready book
ready book sound e =
    let p = none_given (room_rules book) refl (sym e) in
    record { sound = sound; few = leb-false _ _ p.0; room = let l : record_len ≤ length book - place_of (versions_of book) = ltb-false _ _ p.1.0 in omega arith }

-- ---- saving: 48, 24, 1 to 3, then room
module _ (book settings : List ℕ) where
  pub save_broken : broken book ≡ true → 48 ≡ save_fault book settings
  unfolding save_fault
  save_broken e = given _ _ _ e

  pub save_settings : broken book ≡ false → (fault : ℕ) → fault ≡ settings41_fault settings → (fault ≡ 0 → ⊥) → fault ≡ save_fault book settings
  unfolding save_fault settings41_fault
  save_settings sound fault e h = passed _ _ _ _ sound (stops (settings41_rules settings) (room_rules book) fault e h)

  pub save_room : broken book ≡ false → 0 ≡ settings41_fault settings → (room : ℕ) → room ≡ first_of (room_rules book) → room ≡ save_fault book settings
  unfolding save_fault settings41_fault
  save_room sound e room h =
      passed _ _ _ _ sound (goes_on (settings41_rules settings) (room_rules book) room (none_given (settings41_rules settings) refl (sym e)) h)

-- ---- going back: 48, 45, then room
module _ (book : List ℕ) (v : ℕ) where
  pub restore_first : (fault : ℕ) → fault ≡ read_fault book v → (fault ≡ 0 → ⊥) → fault ≡ restore_fault book v
  unfolding restore_fault read_fault
  restore_first fault e h = stops (read_rules book v) (room_rules book) fault e h

  pub restore_room : 0 ≡ read_fault book v → (room : ℕ) → room ≡ first_of (room_rules book) → room ≡ restore_fault book v
  unfolding restore_fault read_fault
  restore_room e room h = goes_on (read_rules book v) (room_rules book) room (none_given (read_rules book v) refl (sym e)) h

-- ---- what is answered, and what the buffer holds then
refused_case : (refusal : Refusal) (g n : ℕ) → refusal_number refusal ≡ g → Err refusal ≡ refused_or g n
refused_case refusal zero n e = absurd (never_zero refusal e)
refused_case refusal (suc g) n e = ap (λ (r : Refusal). Err r) (numbered_is refusal (suc g) e)

pub kept_refused : (f g : ℕ) (new old : List ℕ) → f ≡ g → (f ≡ 0 → ⊥) → old ≡ changed_unless g new old
kept_refused f zero new old e h = absurd (h e)
kept_refused f (suc g) new old e h = refl

version_case : {m n g : ℕ} → m ≡ n → 0 ≡ g → Ok (m + 1) ≡ refused_or g (n + 1)
version_case is e = rw (sym e) (ap (λ (m : ℕ). Ok (m + 1)) is)

pub changed : {g : ℕ} (new old : List ℕ) → 0 ≡ g → new ≡ changed_unless g new old
changed new old e = rw (sym e)

-- the bytes from a place on up to the next record are its settings
pub slice_settings : (book : List ℕ) (at : ℕ) → take (at + 2 + 41 - (at + 2)) (drop (at + 2) book) ≡ saved_in book at
slice_settings book at = let e : at + 2 + 41 - (at + 2) ≡ 41 = omega arith in rw e

pub long_settings : (book : List ℕ) (at : ℕ) → at + record_len ≤ length book → length (saved_in book at) ≡ 41
long_settings book at h = length-take-le 41 (drop (at + 2) book) (simp length-drop (omega arith))

pub slice_long : (book : List ℕ) (at : ℕ) → at + record_len ≤ length book → length (take (at + 2 + 41 - (at + 2)) (drop (at + 2) book)) ≡ 41
slice_long book at h = ap length (slice_settings book at) ∙ long_settings book at h

-- one record laid behind the last
laid_record : (book settings line : List ℕ) (n : ℕ) → length settings ≡ 41 → n ≡ versions_of book → line ≡ version_record (n + 1) settings
    → take (43 * n) book ++ line ++ drop (43 * n + length line) book ≡ appended book settings
unfolding appended
laid_record book settings line n l is e =
    let long : length line ≡ 43 = ap length e ∙ ap (λ (m : ℕ). suc (suc m)) l in
    rw (long, e, is)

pub line_room_lem : (book settings line : List ℕ) (n version : ℕ) → length settings ≡ 41 → n ≡ versions_of book → line ≡ version_record version settings → Ready book
    → 43 * n + length line ≤ length book
line_room_lem book settings line n version l is e r =
    let long : length line ≡ 43 = ap length e ∙ ap (λ (m : ℕ). suc (suc m)) l in
    let room = r.room in omega arith

pub save_refused : (book settings : List ℕ) (refusal : Refusal) → refusal_number refusal ≡ save_fault book settings
    → (Err refusal ≡ saved_of book settings) × (book ≡ after_save book settings)
unfolding saved_of after_save
save_refused book settings refusal e = (refused_case refusal _ _ e, kept_refused _ _ _ _ e (never_zero refusal))

module _ (book settings : List ℕ) (e : 0 ≡ save_fault book settings) where
  pub save_ready : Ready book
  unfolding save_fault
  save_ready =
      let p = none_given (save_rules book settings) refl (sym e) in
      ready book p.0 (rooms (settings41_rules settings) (room_rules book) p.1)

  pub save_done : length settings ≡ 41 → (n : ℕ) → n ≡ versions_of book → (line : List ℕ) → line ≡ version_record (n + 1) settings
      → (after : List ℕ) → after ≡ take (43 * n) book ++ line ++ drop (43 * n + length line) book
      → (Ok (n + 1) ≡ saved_of book settings) × (after ≡ after_save book settings)
  unfolding saved_of after_save
  save_done l n is line r after a = (version_case is e, a ∙ laid_record book settings line n l is r ∙ changed _ _ e)

pub restore_refused : (book : List ℕ) (v : ℕ) (refusal : Refusal) → refusal_number refusal ≡ restore_fault book v
    → (Err refusal ≡ restored_of book v) × (book ≡ after_restore book v)
unfolding restored_of after_restore
restore_refused book v refusal e = (refused_case refusal _ _ e, kept_refused _ _ _ _ e (never_zero refusal))

module _ (book : List ℕ) (v : ℕ) (e : 0 ≡ restore_fault book v) where
  none_first : Passed (read_rules book v ++ room_rules book)
  unfolding restore_fault
  none_first = none_given (read_rules book v ++ room_rules book) refl (sym e)

  pub restore_found : Found book v
  unfolding read_fault
  restore_found = let p = none_first in found book v (passed _ _ _ _ p.0 (passed _ _ _ _ p.1.0 refl))

  pub restore_ready : Ready book
  restore_ready = let p = none_first in ready book p.0 (rooms (read_rules book v) (room_rules book) p)

  pub restore_done : (n : ℕ) → n ≡ versions_of book → (line : List ℕ) → line ≡ version_record (n + 1) (take (43 * (v - 1) + 2 + 41 - (43 * (v - 1) + 2)) (drop (43 * (v - 1) + 2) book))
      → (after : List ℕ) → after ≡ take (43 * n) book ++ line ++ drop (43 * n + length line) book
      → (Ok (n + 1) ≡ restored_of book v) × (after ≡ after_restore book v)
  unfolding restored_of after_restore settings_at
  restore_done n is line r after a =
      let settings : List ℕ = saved_in book (place_of (v - 1)) in
      let long : length settings ≡ 41 = long_settings book (place_of (v - 1)) restore_found.whole in
      let r' : line ≡ version_record (n + 1) settings = r ∙ ap (version_record (n + 1)) (slice_settings book (43 * (v - 1))) in
      (version_case is e, a ∙ laid_record book settings line n long is r' ∙ changed _ _ e)

-- settings read: they take the whole of the place that was lent
pub read_done : (book settings : List ℕ) (v : ℕ) → 0 ≡ read_fault book v → (after : List ℕ)
    → after ≡ take (43 * (v - 1) + 2 + 41 - (43 * (v - 1) + 2)) (drop (43 * (v - 1) + 2) book)
    → (0 ≡ read_fault book v) × (after ≡ changed_unless (read_fault book v) (settings_at book v) settings)
unfolding settings_at
read_done book settings v e after a = (e, a ∙ slice_settings book (43 * (v - 1)) ∙ changed _ _ e)
