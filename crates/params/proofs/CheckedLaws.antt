-- What an accepted call is known to be. A list of rows that gives 0 has no row whose test holds, and each test that fails is a fact
-- about the settings, the table or the parts; a row past the end of a table is empty, so that its limit holds too. Assumes nothing.
use mathlib.Core.Path.{◌≡◌, refl}
use Prim.Native.Nat.{ℕ, zero, suc, ◌*◌, ◌^◌, ◌≤◌}
use native.Mathlib.Omega.{arith}
use native.Mathlib.Nat.{mul-le-mul_right}
use mathlib.Core.Bool.{Bool, true, false, not, ◌&&◌}
use mathlib.Core.List.{List, [], ◌∷◌}
use borrow.Author.Tests.{ltb-true, ltb-false, leb-true, eqb-true, eqb-false, not-false}
use lib.Dec.{leb, ltb, eqb}
use lib.IntN.{ℤ, pos, nat_abs}
use lib.ListN.{length, get_or, take, drop_of_length-le}
use Rattle.paths.proofs.BooleanLaws.{and_both}
use Rattle.metrics.specs.Similarity.{magnitude_sum}
use Rattle.metrics.proofs.Entries.{few_entries}
use Rattle.params.specs.declared.Settings.{Settings}
use Rattle.params.specs.Checked.{Flat, Checked}
use Rattle.params.specs.Numbers.{Table, Parts, Call, bad_k, bad_number, bad_size, bad_row, search_mode, queue_needs, little_queue_room}
use Rattle.params.specs.Numbers.{settings_rules, length_rules, room_rules, call_rules, first_fault, row_at}
use Rattle.params.proofs.CheckLaws.{Passed, none_given, or_no, any_where}

agreed : (a b : ℕ) → not (eqb a b) ≡ false → a ≡ b
agreed a b e = eqb-true a b (not-false (eqb a b) e)

pub record Settled (s : Settings) : Type 0 where
  pub k_low : 1 ≤ s.k
  pub k_high : s.k ≤ 6
  pub maxpaths : s.maxpaths ≤ 4095
  pub pileupmax : s.pileupmax ≤ 12
  pub minkfreq : s.minkfreq ≤ 16777216

pub settled : (s : Settings) → Passed (settings_rules s) → Settled s
unfolding bad_k bad_number
settled s p =
    let k = and_both (leb 1 s.k) (leb s.k 6) (not-false (leb 1 s.k && leb s.k 6) p.0) in
    let a = or_no (ltb 4095 s.maxpaths) _ p.1.1.0 in
    let b = or_no (ltb 65535 s.maxnodes) _ a.1 in
    let c = or_no (ltb 65535 s.fnmax) _ b.1 in
    let d = or_no (ltb 12 s.pileupmax) _ c.1 in
    let e = or_no (ltb 16777216 s.minkfreq) (ltb 1 s.letters) d.1 in
    record {
      k_low = leb-true 1 s.k k.0;
      k_high = leb-true s.k 6 k.1;
      maxpaths = ltb-false 4095 s.maxpaths a.0;
      pileupmax = ltb-false 12 s.pileupmax d.0;
      minkfreq = ltb-false 16777216 s.minkfreq e.0;
    }

pub record Measured (e : ℕ) (t : Table) (p : Parts) : Type 0 where
  pub some : 1 ≤ length t.starts
  pub few : length t.starts ≤ 64
  pub part_few : length p.sizes ≤ 64
  pub ends_are : length t.ends ≡ length t.starts
  pub sizes_are : length t.sizes ≡ length t.starts
  pub rows : length t.features ≡ length t.starts * e
  pub part_rows : length p.features ≡ length p.sizes * e

at_least_one : (n : ℕ) → (n ≡ 0 → ⊥) → 1 ≤ n
at_least_one zero h = absurd (h refl)
at_least_one (suc n) h = omega arith

pub measured : (e : ℕ) (t : Table) (p : Parts) → Passed (length_rules e t p) → Measured e t p
measured e t p q =
    let a = or_no (not (eqb (length t.ends) (length t.starts))) _ q.1.1.1.0 in
    let b = or_no (not (eqb (length t.sizes) (length t.starts))) (not (eqb (length t.features) (length t.starts * e))) a.1 in
    record {
      some = at_least_one (length t.starts) (eqb-false (length t.starts) 0 q.0);
      few = ltb-false 64 (length t.starts) q.1.0;
      part_few = ltb-false 64 (length p.sizes) q.1.1.0;
      ends_are = agreed (length t.ends) (length t.starts) a.0;
      sizes_are = agreed (length t.sizes) (length t.starts) b.0;
      rows = agreed (length t.features) (length t.starts * e) b.1;
      part_rows = agreed (length p.features) (length p.sizes * e) q.1.1.1.1.0;
    }

-- a row past the end has no size and no entries
no_size : (sizes : List ℤ) (r : ℕ) → length sizes ≤ r → nat_abs (get_or sizes r (pos 0)) ≤ 131072
no_size [] r h = omega arith
no_size (x ∷ sizes) zero h = absurd (omega arith)
no_size (x ∷ sizes) (suc r) h = no_size sizes r (omega arith)

no_entries : (e : ℕ) (features : List ℤ) (r : ℕ) → length features ≤ r * e → magnitude_sum (row_at e features r) ≤ 131072
unfolding magnitude_sum
no_entries e features r h = rw (drop_of_length-le features h) (nothing e)
  where
    nothing : (e : ℕ) → magnitude_sum (take e []) ≤ 131072
    nothing zero = omega arith
    nothing (suc e) = omega arith

size_within : (sizes : List ℤ) → bad_size sizes ≡ false → (r : ℕ) → nat_abs (get_or sizes r (pos 0)) ≤ 131072
unfolding bad_size
size_within sizes none r = go (ltb r (length sizes)) refl
  where
    go : (b : Bool) → ltb r (length sizes) ≡ b → nat_abs (get_or sizes r (pos 0)) ≤ 131072
    go true e = ltb-false 131072 (nat_abs (get_or sizes r (pos 0))) (any_where (λ i. ltb 131072 (nat_abs (get_or sizes i (pos 0)))) (length sizes) none r (ltb-true r (length sizes) e))
    go false e = no_size sizes r (ltb-false r (length sizes) e)

row_within : (e n : ℕ) (features : List ℤ) → length features ≡ n * e → bad_row e n features ≡ false → (r : ℕ) → magnitude_sum (row_at e features r) ≤ 131072
unfolding bad_row
row_within e n features flat none r = go (ltb r n) refl
  where
    go : (b : Bool) → ltb r n ≡ b → magnitude_sum (row_at e features r) ≤ 131072
    go true q = ltb-false 131072 (magnitude_sum (row_at e features r)) (any_where (λ i. ltb 131072 (magnitude_sum (row_at e features i))) n none r (ltb-true r n q))
    go false q = no_entries e features r (omega (arith, mul-le-mul_right e (ltb-false r n q)))

-- n rows of features within their limits
flat_of : (n e : ℕ) (features : List ℤ) → n ≤ 64 → e ≤ 4096 → length features ≡ n * e → bad_row e n features ≡ false → Flat n e features
flat_of n e features few short flat none = record { few = few; short = short; flat = flat; rowed = row_within e n features flat none }

module _ (c : Call) (zeroFault : first_fault c ≡ 0) where
  abbrev s : Settings
  s = c.settings

  abbrev t : Table
  t = c.table

  abbrev p : Parts
  p = c.parts

  all_passed : Passed (call_rules c)
  unfolding first_fault
  all_passed = none_given (call_rules c) refl zeroFault

  pub accepted : Checked s t p
  accepted =
      let a = all_passed in
      let q = a.1.1.1 in
      let limits = q.1.1.1.1.1.1.1 in
      let h = settled s (a.0, (a.1.0, (a.1.1.0, tt))) in
      let m = measured (4 ^ s.k) t p (q.0, (q.1.0, (q.1.1.0, (q.1.1.1.0, (q.1.1.1.1.0, tt))))) in
      let sizes-few : length t.sizes ≤ 64 = omega arith in
      record {
        k_low = h.k_low;
        k_high = h.k_high;
        maxpaths = h.maxpaths;
        pileupmax = h.pileupmax;
        minkfreq = h.minkfreq;
        some = m.some;
        ends_are = m.ends_are;
        sizes_are = m.sizes_are;
        sized = record { few = sizes-few; sized = size_within t.sizes limits.0 };
        rows = rw m.sizes_are (flat_of (length t.starts) (4 ^ s.k) t.features m.few (few_entries s.k h.k_high) m.rows limits.1.1.0);
        part_sized = record { few = m.part_few; sized = size_within p.sizes limits.1.0 };
        part_rows = flat_of (length p.sizes) (4 ^ s.k) p.features m.part_few (few_entries s.k h.k_high) m.part_rows limits.1.1.1.0;
      }

  abbrev rooms : Passed (room_rules s (length t.starts) c.queue_room c.answer_room)
  rooms = all_passed.1.1.1.1.1.1.1.1.1.1.1.1.1.1.1

  pub queue_suffices : search_mode s (length t.starts) ≡ true → queue_needs s (length t.starts) ≤ c.queue_room
  unfolding little_queue_room
  queue_suffices mode =
      let full : ltb c.queue_room (queue_needs s (length t.starts)) ≡ false = rw mode at rooms.0 in
      ltb-false c.queue_room (queue_needs s (length t.starts)) full

  pub answer_suffices : length t.starts ≤ c.answer_room
  answer_suffices = ltb-false c.answer_room (length t.starts) rooms.1.0
