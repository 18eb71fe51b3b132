-- One save: the bytes before its record and behind it stay, so the records before it stay good; its own is good; and behind it are zeros still. Assumes nothing.
use Prim.Native.Nat.{ℕ, zero, suc, ◌+◌, ◌-◌, ◌<◌, ◌≤◌}
use native.Mathlib.Omega.{arith}
use native.Mathlib.Numerals.{add-one}
use mathlib.Core.Path.{◌≡◌, refl, sym, ap, subst, ◌∙◌}
use mathlib.Core.Bool.{Bool, true, false, not}
use mathlib.Core.List.{List, [], ◌∷◌, ◌++◌, append_assoc}
use lib.Dec.{ltb, eqb}
use lib.ListN.{length, get_or, take, drop, length-append, length-drop}
use lib.Seq.{length-take-le, take-take, take_at, drop_at, drop-drop, get_or-take, get_or-drop}
use borrow.Author.Tests.{ltb-true, ltb-false, eqb-true}
use Rattle.paths.proofs.BooleanLaws.{and_both}
use Rattle.params.specs.Numbers.{Rule, first_of, any_below}
use Rattle.params.proofs.CheckLaws.{passed, Passed, none_given, none_below}
use Rattle.form.specs.Form.{all_zero}
use Rattle.form.specs.Settings41.{settings41_rules, settings41_fault}
use Rattle.book.specs.Book.{book_kind, record_len, place_of, versions_of, saved_in, bad_version, broken, version_record}
use Rattle.book.specs.Changes.{room_rules, save_rules, save_fault, next_version, appended}
use Rattle.book.proofs.RecordLaws.{Counted, count_start, count_stop, count_on}
use Rattle.book.proofs.FaultLaws.{Good, good_made, good_at, zeros_behind, Ready, save_ready}

-- ---- lists
-- a part that lies within the first p
part_within : (at m p : ℕ) (l : List ℕ) → at + m ≤ p → take m (drop at (take p l)) ≡ take m (drop at l)
part_within zero m p l h = take-take m p l (omega arith)
part_within (suc at) m zero l h = absurd (omega arith)
part_within (suc at) m (suc p) [] h = refl
part_within (suc at) m (suc p) (x ∷ l) h = part_within at m p l (omega arith)

zero_at : (l : List ℕ) (i : ℕ) → all_zero l ≡ true → get_or l i 0 ≡ 0
zero_at [] i e = refl
zero_at (x ∷ l) zero e = eqb-true x 0 (and_both (eqb x 0) (all_zero l) e).0
zero_at (x ∷ l) (suc i) e = zero_at l i (and_both (eqb x 0) (all_zero l) e).1

zero_drop : (l : List ℕ) (k : ℕ) → all_zero l ≡ true → all_zero (drop k l) ≡ true
zero_drop l zero e = e
zero_drop [] (suc k) e = refl
zero_drop (x ∷ l) (suc k) e = zero_drop l k (and_both (eqb x 0) (all_zero l) e).1

-- ---- a book is what its records and the zeros behind them make it
module _ (book : List ℕ) where
  counted_to : (m : ℕ) → ((i : ℕ) → i < m → Good book (place_of i) (i + 1)) → Counted book m
  counted_to zero good = count_start book
  counted_to (suc m) good =
      let g = good m (omega arith) in
      let w : place_of m + record_len ≤ length book = g.whole in
      let k : get_or book (place_of m) 0 ≡ book_kind = g.kind in
      let inside : place_of m < length book = omega arith in
      subst (λ (n : ℕ). Counted book n) (add-one m) (count_on book m inside (λ z. omega arith) (counted_to m (λ i l. good i (omega arith))))

  pub versions_are : (m : ℕ) → ((i : ℕ) → i < m → Good book (place_of i) (i + 1)) → all_zero (drop (place_of m) book) ≡ true → versions_of book ≡ m
  versions_are m good zeros =
      let e : get_or book (place_of m + 0) 0 ≡ 0 = sym (get_or-drop (place_of m) book 0 0) ∙ zero_at (drop (place_of m) book) 0 zeros in
      let z : place_of m + 0 ≡ place_of m = omega arith in
      sym (count_stop book m (ap (λ (at : ℕ). get_or book at 0) (sym z) ∙ e) (counted_to m good))

  pub sound_made : (m : ℕ) → versions_of book ≡ m → ((i : ℕ) → i < m → Good book (place_of i) (i + 1)) → all_zero (drop (place_of m) book) ≡ true → broken book ≡ false
  unfolding broken
  sound_made m is good zeros =
      let none : any_below m (bad_version book) ≡ false = none_below (bad_version book) m (λ i l. ap not (good_made book (place_of i) (i + 1) (good i l))) in
      rw (is, none, zeros)

-- the first of two groups of rules passes where both do
firsts : (first later : List Rule) → Passed (first ++ later) → 0 ≡ first_of first
firsts [] later p = refl
firsts (r ∷ first) later p = passed _ _ _ _ p.0 (firsts first later p.1)

module _ (book settings : List ℕ) (long : length settings ≡ 41) (none : save_fault book settings ≡ 0) where
  abbrev n : ℕ
  n = versions_of book

  abbrev end : ℕ
  end = place_of n

  abbrev line : List ℕ
  line = version_record (n + 1) settings

  abbrev new : List ℕ
  new = appended book settings

  room : Ready book
  room = save_ready book settings (sym none)

  accepted : settings41_fault settings ≡ 0
  unfolding save_fault settings41_fault
  accepted = sym (firsts (settings41_rules settings) (room_rules book) (none_given (save_rules book settings) refl none).1)

  long_line : length line ≡ 43
  long_line = ap (λ (m : ℕ). suc (suc m)) long

  fits : end + 43 ≤ length book
  fits = room.room

  long_front : length (take end book) ≡ end
  long_front = let h = fits in length-take-le end book (omega arith)

  cut : new ≡ take end book ++ (line ++ drop (end + 43) book)
  unfolding appended
  cut = append_assoc (take end book) line (drop (end + 43) book)

  -- ---- the bytes
  pub before_kept : take end new ≡ take end book
  before_kept = ap (take end) cut ∙ take_at (take end book) (line ++ drop (end + 43) book) end long_front

  from_end : drop end new ≡ line ++ drop (end + 43) book
  from_end = ap (drop end) cut ∙ drop_at (take end book) (line ++ drop (end + 43) book) end long_front

  pub new_there : take 43 (drop end new) ≡ line
  new_there = ap (take 43) from_end ∙ take_at line (drop (end + 43) book) 43 long_line

  behind_end : drop (end + 43) new ≡ drop (end + 43) book
  unfolding appended
  behind_end =
      drop_at (take end book ++ line) (drop (end + 43) book) (end + 43)
      (let f = long_front in let l = long_line in length-append (take end book) line ∙ omega arith)

  next : place_of (next_version book) ≡ end + 43
  next = omega arith

  pub behind_kept : drop (place_of (next_version book)) new ≡ drop (place_of (next_version book)) book
  behind_kept = ap (λ (at : ℕ). drop at new) next ∙ behind_end ∙ ap (λ (at : ℕ). drop at book) (sym next)

  pub long_kept : length new ≡ length book
  long_kept =
      let f = long_front in let l = long_line in let h = fits in
      let rest : length (drop (end + 43) book) ≡ length book - (end + 43) = length-drop (end + 43) book in
      let behind : length (line ++ drop (end + 43) book) ≡ length line + length (drop (end + 43) book) = length-append line (drop (end + 43) book) in
      ap length cut ∙ length-append (take end book) (line ++ drop (end + 43) book) ∙ omega arith

  byte_kept : (i : ℕ) → i < end → get_or new i 0 ≡ get_or book i 0
  byte_kept i h = sym (get_or-take end new i 0 h) ∙ ap (λ (l : List ℕ). get_or l i 0) before_kept ∙ get_or-take end book i 0 h

  part_kept : (at m : ℕ) → at + m ≤ end → take m (drop at new) ≡ take m (drop at book)
  part_kept at m h = sym (part_within at m end new h) ∙ ap (λ (l : List ℕ). take m (drop at l)) before_kept ∙ part_within at m end book h

  byte_new : (j : ℕ) → j < 43 → get_or new (end + j) 0 ≡ get_or line j 0
  byte_new j h =
      sym (get_or-drop end new j 0) ∙ sym (get_or-take 43 (drop end new) j 0 h) ∙ ap (λ (l : List ℕ). get_or l j 0) new_there

  pub settings_new : saved_in new end ≡ settings
  settings_new =
      ap (take 41) (sym (drop-drop 2 end new) ∙ ap (drop 2) from_end) ∙ take_at settings (drop (end + 43) book) 41 long

  -- ---- the records
  old_good : (i : ℕ) → i < n → Good new (place_of i) (i + 1)
  old_good i h =
      let g = good_at book room.sound i h in
      let l = long_kept in let w = g.whole in
      record {
        kind = byte_kept (place_of i) (omega arith) ∙ g.kind;
        whole = omega arith;
        numbered = byte_kept (place_of i + 1) (omega arith) ∙ g.numbered;
        accepted = ap settings41_fault (part_kept (place_of i + 2) 41 (omega arith)) ∙ g.accepted;
      }

  new_good : Good new end (n + 1)
  new_good =
      let l = long_kept in let w = fits in
      let z : end + 0 ≡ end = omega arith in
      record {
        kind = ap (λ (at : ℕ). get_or new at 0) (sym z) ∙ byte_new 0 (omega arith);
        whole = omega arith;
        numbered = byte_new 1 (omega arith);
        accepted = ap settings41_fault settings_new ∙ accepted;
      }

  all_good : (i : ℕ) → i < n + 1 → Good new (place_of i) (i + 1)
  all_good i h = go (ltb i n) refl
    where
      go : (t : Bool) → ltb i n ≡ t → Good new (place_of i) (i + 1)
      go true e = old_good i (ltb-true i n e)
      go false e = let here : i ≡ n = omega (arith, ltb-false i n e) in subst (λ (m : ℕ). Good new (place_of m) (m + 1)) (sym here) new_good

  zeros : all_zero (drop (place_of (n + 1)) new) ≡ true
  zeros =
      ap all_zero (behind_kept ∙ ap (λ (at : ℕ). drop at book) next ∙ sym (drop-drop 43 end book))
      ∙ zero_drop (drop end book) 43 (zeros_behind book room.sound)

  pub versions_new : versions_of new ≡ n + 1
  versions_new = versions_are new (n + 1) all_good zeros

  pub sound_new : broken new ≡ false
  sound_new = sound_made new (n + 1) versions_new all_good zeros

  pub old_settings : (i : ℕ) → i < n → saved_in new (place_of i) ≡ saved_in book (place_of i)
  old_settings i h = part_kept (place_of i + 2) 41 (omega arith)
