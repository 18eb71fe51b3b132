-- Records counted one by one, one record test by test, and zeros byte by byte. Assumes nothing.
use Prim.Native.Nat.{ℕ, zero, suc, ◌+◌, ◌-◌, ◌<◌, ◌≤◌}
use native.Mathlib.Omega.{arith}
use native.Mathlib.Numerals.{add-one}
use mathlib.Core.Path.{◌≡◌, refl, sym, ap, ◌∙◌}
use mathlib.Core.Bool.{true, false, not, ◌&&◌}
use mathlib.Core.List.{List}
use lib.Dec.{eqb}
use lib.ListN.{length, get_or, drop, drop_of_length-le, get_or-eq_default}
use lib.Seq.{drop-cons}
use borrow.Author.Tests.{eq-eqb, ne_eqb, le-leb, lt-leb}
use Rattle.std.specs.Prelude.{Result, Ok, Err, is_ok}
use Rattle.metrics.specs.declared.refusals.Refusal.{Refusal}
use Rattle.metrics.specs.Refusals.{refusal_number, told}
use Rattle.metrics.proofs.RefusalLaws.{never_zero}
use Rattle.params.specs.Numbers.{any_below}
use Rattle.params.proofs.CheckLaws.{any_here}
use Rattle.form.specs.Form.{all_zero}
use Rattle.form.specs.Settings41.{settings41_fault}
use Rattle.book.specs.Book.{book_kind, record_len, place_of, versions_from, versions_of, saved_in, good_record, bad_version, broken}

-- ---- records counted: those before and those from here on are all
pub from_none : (book : List ℕ) (i n : ℕ) → get_or book (place_of i) 0 ≡ 0 → versions_from book i n ≡ 0
unfolding versions_from
from_none book i zero e = refl
from_none book i (suc n) e = rw e

pub from_more : (book : List ℕ) (i n : ℕ) → (get_or book (place_of i) 0 ≡ 0 → ⊥) → versions_from book i (suc n) ≡ suc (versions_from book (suc i) n)
unfolding versions_from
from_more book i n h = rw (ne_eqb (get_or book (place_of i) 0) 0 h)

module _ (book : List ℕ) where
  abbrev pub Counted : ℕ → Type 0
  Counted n = n + versions_from book n (length book - n) ≡ versions_of book

  pub count_start : Counted 0
  unfolding versions_of
  count_start = let z : length book - 0 ≡ length book = omega arith in rw z (omega arith)

  pub count_stop : (n : ℕ) → get_or book (place_of n) 0 ≡ 0 → Counted n → n ≡ versions_of book
  count_stop n e counted = let z : versions_from book n (length book - n) ≡ 0 = from_none book n _ e in omega arith

  pub count_end : (n : ℕ) → length book ≤ place_of n → Counted n → n ≡ versions_of book
  count_end n h counted = count_stop n (get_or-eq_default book 0 {n = place_of n} h) counted

  pub count_on : (n : ℕ) → place_of n < length book → (get_or book (place_of n) 0 ≡ 0 → ⊥) → Counted n → Counted (n + 1)
  count_on n h some counted =
      let s : length book - n ≡ suc (length book - (n + 1)) = omega arith in
      let more : versions_from book n (suc (length book - (n + 1))) ≡ suc (versions_from book (suc n) (length book - (n + 1))) = from_more book n _ some in
      let here : n + versions_from book n (suc (length book - (n + 1))) ≡ versions_of book = rw s at counted in
      let next : n + 1 ≡ suc n = add-one n in
      let at_next : versions_from book (n + 1) (length book - (n + 1)) ≡ versions_from book (suc n) (length book - (n + 1)) =
      ap (λ (m : ℕ). versions_from book m (length book - (n + 1))) next in
      omega arith

-- ---- one record, in the order of its tests
module _ (book : List ℕ) (at version : ℕ) where
  pub other_kind : (get_or book at 0 ≡ book_kind → ⊥) → false ≡ good_record book at version
  unfolding good_record
  other_kind h = rw (ne_eqb (get_or book at 0) book_kind h)

  pub cut_short : get_or book at 0 ≡ book_kind → length book - at < record_len → at < length book → false ≡ good_record book at version
  unfolding good_record
  cut_short k h l = rw (eq-eqb (get_or book at 0) book_kind k, lt-leb (at + record_len) (length book) (omega arith))

  pub other_version : get_or book at 0 ≡ book_kind → record_len ≤ length book - at → (get_or book (at + 1) 0 ≡ version → ⊥) → false ≡ good_record book at version
  unfolding good_record
  other_version k h v = rw (eq-eqb (get_or book at 0) book_kind k, le-leb (at + record_len) (length book) (omega arith), ne_eqb (get_or book (at + 1) 0) version v)

  pub by_settings : get_or book at 0 ≡ book_kind → record_len ≤ length book - at → get_or book (at + 1) 0 ≡ version
      → eqb (settings41_fault (saved_in book at)) 0 ≡ good_record book at version
  unfolding good_record
  by_settings k h v = rw (eq-eqb (get_or book at 0) book_kind k, le-leb (at + record_len) (length book) (omega arith), eq-eqb (get_or book (at + 1) 0) version v)

-- settings are accepted where no refusal is told
pub told_none : (found : Result Unit Refusal) → is_ok found ≡ eqb (told found) 0
told_none (Ok tt) = refl
told_none (Err refusal) = rw (ne_eqb (refusal_number refusal) 0 (never_zero refusal))

-- ---- zeros to the end
module _ (book : List ℕ) (i : ℕ) where
  next_zero : i < length book → all_zero (drop i book) ≡ (eqb (get_or book i 0) 0 && all_zero (drop (suc i) book))
  next_zero h = ap all_zero (drop-cons book i 0 h)

  pub zero_broken : i < length book → (get_or book i 0 ≡ 0 → ⊥) → false ≡ all_zero (drop i book)
  zero_broken h some = sym (next_zero h ∙ simp (ne_eqb _ _ some))

  pub zero_more : i < length book → get_or book i 0 ≡ 0 → all_zero (drop (i + 1) book) ≡ all_zero (drop i book)
  zero_more h none = sym (next_zero h ∙ simp (eq-eqb _ _ none, add-one))

  pub zero_done : length book ≤ i → true ≡ all_zero (drop i book)
  zero_done h = ap all_zero (sym (drop_of_length-le book {i = i} h))

-- ---- the whole book: record by record, then what is behind the last
module _ (book : List ℕ) (n : ℕ) (all : n ≡ versions_of book) where
  pub bad_found : (i : ℕ) → i < n → good_record book (place_of i) (i + 1) ≡ false → true ≡ broken book
  unfolding broken
  bad_found i h e =
      let found : any_below (versions_of book) (bad_version book) ≡ true = any_here (bad_version book) (versions_of book) i (omega arith) (rw e) in
      rw found

  pub by_rest : (i : ℕ) → n ≤ i → i ≤ n → any_below i (bad_version book) ≡ false → not (all_zero (drop (place_of n) book)) ≡ broken book
  unfolding broken
  by_rest i l h none =
      let e : i ≡ versions_of book = omega arith in
      let good : any_below (versions_of book) (bad_version book) ≡ false = rw e at none in
      rw (all, good)
