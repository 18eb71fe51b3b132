-- The refusals of a proposal are those of a call whose rooms suffice whatever is asked, then 54; and the cases of its answer. One list is scored against one chain
-- as the search scores them: what is summed in front of a local array is the chain's row, and the list's. Assumes nothing.
use Rattle.std.specs.Prelude.{Option, Ok}
use mathlib.Core.Path.{◌≡◌, refl, sym, ap, ◌∙◌}
use Prim.Native.Nat.{ℕ, zero, suc, ◌+◌, ◌-◌, ◌*◌, ◌^◌, ◌≤◌, ◌<◌, max}
use native.Mathlib.Omega.{arith}
use native.Mathlib.Nat.{mul-le-mul_right}
use mathlib.Core.Logic.{◌⊎◌, inl, inr}
use mathlib.Core.Bool.{Bool, true, false, ◌&&◌}
use mathlib.Core.List.{List, [], ◌∷◌, ◌++◌, reverse}
use lib.Dec.{leb, ltb}
use lib.IntN.{ℤ}
use lib.ListN.{length, get_or, drop, drop_of_length-le}
use lib.Seq.{drop-cons}
use borrow.Author.Tests.{le-leb, lt-leb, lt-ltb, le-ltb, ltb-false}
use Rattle.paths.proofs.BooleanLaws.{and_both, and_false}
use Rattle.params.specs.Checked.{Checked}
use Rattle.params.specs.Numbers.{Table, Parts, Rule, first_of, call_of, search_mode, queue_needs, little_queue_room, settings_rules, length_rules, bound_rules, limit_rules, room_rules, first_fault}
use Rattle.params.proofs.CheckLaws.{Passed, stops, goes_on, none_given}
use Rattle.params.proofs.CheckedLaws.{settled, measured, accepted}
use Rattle.kplib.specs.Graph.{is_chain_in}
use Rattle.kplib.specs.Parts.{part_lists}
use Rattle.kplib.specs.Sums.{size_of, features_of}
use Rattle.kplib.specs.Score.{list_score}
use Rattle.kplib.specs.Scoring.{Summable, Comparable, total}
use Rattle.kplib.specs.Proposal.{one_of, gives, Proposal, pair_score, is_good, long_rules, proposal_rules, proposal_fault, check_of, rises_below, fewest_of, Pairable}
use Rattle.params.specs.declared.Settings.{Settings}
use Rattle.kplib.specs.declared.pathscore.Scores.{Scores}
use Rattle.kplib.proofs.CountedLaws.{answered_is}
use Rattle.kplib.proofs.MemberLaws.{member, rising_below, rising_length}
use Rattle.kplib.proofs.OneToOneLaws.{tables_of}
use Rattle.kplib.proofs.RowChainLaws.{sent_below}
use Rattle.kplib.proofs.RowSumLaws.{summable, features_length, features_sum}
use Rattle.kplib.proofs.SizeSumLaws.{size_le}

-- ---- refusals
passed_front : (rows later : List Rule) → Passed (rows ++ later) → Passed rows
passed_front [] later q = tt
passed_front (r ∷ rows) later q = (q.0, passed_front rows later q.1)

module _ (s : Settings) (t : Table) (p : Parts) where
  -- what both ask first
  abbrev front : List Rule
  front = settings_rules s ++ (length_rules (4 ^ s.k) t p ++ (bound_rules t.starts t.ends ++ limit_rules (4 ^ s.k) t p))

  -- no search queues more than 1 + 4,096 × 64 entries, and no answer has more than 64 rows
  rooms_suffice : Passed front → first_of (room_rules s (length t.starts) 262145 64) ≡ 0
  unfolding little_queue_room
  rooms_suffice a =
      let q = a.1.1.1 in
      let h = settled s (a.0, (a.1.0, (a.1.1.0, tt))) in
      let m = measured (4 ^ s.k) t p (q.0, (q.1.0, (q.1.1.0, (q.1.1.1.0, (q.1.1.1.1.0, tt))))) in
      let few : (s.maxpaths + 1) * length t.starts ≤ 4096 * length t.starts = mul-le-mul_right (length t.starts) (omega (arith, h.maxpaths)) in
      rw (le-ltb 262145 (queue_needs s (length t.starts)) (omega (arith, few, m.few)), and_false (search_mode s (length t.starts)), le-ltb 64 (length t.starts) m.few)

  front_passed : first_of front ≡ 0 → Passed front
  front_passed e = none_given front refl e

  module _ (o : Proposal) where
    pub by_call : (found : ℕ) → found ≡ first_fault (call_of s t p 262145 64) → (found ≡ 0 → ⊥) → found ≡ proposal_fault s t p o
    unfolding first_fault proposal_fault
    by_call found e h = go (first_of front) refl
      where
        go : (n : ℕ) → first_of front ≡ n → found ≡ first_of (front ++ long_rules s t p o)
        go zero z = absurd (h (e ∙ sym (goes_on front (room_rules s (length t.starts) 262145 64) 0 (front_passed z) (sym (rooms_suffice (front_passed z))))))
        go (suc n) z =
            let some : first_of front ≡ 0 → ⊥ = λ f. omega arith in
            e ∙ sym (stops front (room_rules s (length t.starts) 262145 64) (first_of front) refl some) ∙ stops front (long_rules s t p o) (first_of front) refl some

    -- an accepted call leaves 54 to be asked, whatever its rooms
    module _ (queue answers : ℕ) (e : 0 ≡ first_fault (call_of s t p queue answers)) where
      all_asked : Passed front
      unfolding first_fault
      all_asked =
          let rooms = room_rules s (length t.starts) queue answers in
          passed_front front rooms (none_given (front ++ rooms) refl (sym e))

      then_long : (n : ℕ) → n ≡ first_of (long_rules s t p o) → n ≡ proposal_fault s t p o
      unfolding proposal_fault
      then_long n h = goes_on front (long_rules s t p o) n all_asked h

      pub too_long : (64 < length o.rows) ⊎ ((length o.rows ≤ 64) × (64 < length o.positions)) → 54 ≡ proposal_fault s t p o
      too_long (inl h) = then_long 54 (rw (lt-ltb 64 (length o.rows) h))
      too_long (inr h) = then_long 54 (rw (le-ltb 64 (length o.rows) h.0, lt-ltb 64 (length o.positions) h.1))

      pub no_fault : length o.rows ≤ 64 → length o.positions ≤ 64 → 0 ≡ proposal_fault s t p o
      no_fault k h = then_long 0 (rw (le-ltb 64 (length o.rows) k, le-ltb 64 (length o.positions) h))

    -- an accepted proposal
    module _ (e : proposal_fault s t p o ≡ 0) where
      all_passed : Passed (proposal_rules s t p o)
      unfolding proposal_fault
      all_passed = none_given (proposal_rules s t p o) refl e

      last : Passed (long_rules s t p o)
      last = all_passed.1.1.1.1.1.1.1.1.1.1.1.1.1.1.1

      call_accepted : first_fault (call_of s t p 262145 64) ≡ 0
      unfolding first_fault
      call_accepted =
          let f = passed_front front (long_rules s t p o) all_passed in
          sym (goes_on front (room_rules s (length t.starts) 262145 64) 0 f (sym (rooms_suffice f)))

      pub proposal_checked : Checked s t p
      proposal_checked = accepted (call_of s t p 262145 64) call_accepted

      pub rows_few : length o.rows ≤ 64
      rows_few = ltb-false 64 (length o.rows) last.0

-- ---- positions
pub fewest_all : (m fnmax pileupmax : ℕ) → pileupmax ≤ m → m ≡ fewest_of m fnmax pileupmax
unfolding fewest_of
fewest_all m fnmax pileupmax h = rw (le-leb pileupmax m h)

pub fewest_left : (m fnmax pileupmax : ℕ) {r : ℕ} → m < pileupmax → r ≡ max 1 (m - fnmax) → r ≡ fewest_of m fnmax pileupmax
unfolding fewest_of
fewest_left m fnmax pileupmax h e = rw (lt-leb pileupmax m h) e

-- the positions from place i on decide
pub record Rising (m : ℕ) (positions : List ℕ) (next i : ℕ) : Type 0 where
  pub rest : rises_below m next (drop i positions) ≡ rises_below m 0 positions

pub none_risen : (m : ℕ) (positions : List ℕ) → Rising m positions 0 0
none_risen m positions = record { rest = refl }

module _ {m next i : ℕ} {positions : List ℕ} (h : Rising m positions next i) where
  position_first : i < length positions
      → (leb next (get_or positions i 0) && (ltb (get_or positions i 0) m && rises_below m (suc (get_or positions i 0)) (drop (suc i) positions))) ≡ rises_below m 0 positions
  position_first k = sym (ap (λ (l : List ℕ). rises_below m next l) (drop-cons positions i 0 k)) ∙ h.rest

  -- a position that is not above the last one, or not below m
  pub falls : i < length positions → (get_or positions i 0 < next) ⊎ ((next ≤ get_or positions i 0) × (m ≤ get_or positions i 0)) → false ≡ rises_below m 0 positions
  falls k (inl l) = rw (lt-leb next (get_or positions i 0) l) at (position_first k)
  falls k (inr l) = rw (le-leb next (get_or positions i 0) l.0, le-ltb (get_or positions i 0) m l.1) at (position_first k)

  pub rises_on : i < length positions → next ≤ get_or positions i 0 → get_or positions i 0 < m → Rising m positions (get_or positions i 0 + 1) (i + 1)
  rises_on k l n =
      let a : i + 1 ≡ suc i = omega arith in
      let b : get_or positions i 0 + 1 ≡ suc (get_or positions i 0) = omega arith in
      record { rest = rw (a, b) (rw (le-leb next (get_or positions i 0) l, lt-ltb (get_or positions i 0) m n) at (position_first k)) }

  pub rises_all : length positions ≤ i → true ≡ rises_below m 0 positions
  rises_all k = rw (drop_of_length-le positions k) at h.rest

module _ (m fnmax pileupmax : ℕ) (positions : List ℕ) {least : ℕ} (e : least ≡ fewest_of m fnmax pileupmax) where
  pub too_few : length positions < least → false ≡ one_of positions (part_lists m fnmax pileupmax)
  too_few h = sym (member m fnmax pileupmax positions ∙ rw (lt-leb (fewest_of m fnmax pileupmax) (length positions) (omega (arith, e))))

  pub enough : least ≤ length positions → {r : Bool} → r ≡ rises_below m 0 positions → r ≡ one_of positions (part_lists m fnmax pileupmax)
  enough h f = f ∙ sym (member m fnmax pileupmax positions ∙ rw (le-leb (fewest_of m fnmax pileupmax) (length positions) (omega (arith, e))))

-- ---- the score
module _ {s : Settings} {t : Table} {p : Parts} {rows positions : List ℕ} (y : Pairable s t p rows positions) where
  chain_sum : Summable (4 ^ s.k) t.features rows
  chain_sum = summable (length t.sizes) (4 ^ s.k) t.features rows y.tables.rows y.within y.few

  list_few : length positions ≤ 64
  list_few = omega (arith, y.positions_few, y.tables.part_sized.few)

  list_sum : Summable (4 ^ s.k) p.features positions
  list_sum = summable (length p.sizes) (4 ^ s.k) p.features positions y.tables.part_rows y.positions_within list_few

  -- both rows summed into rooms of a feature row each, and both sizes
  module _ {room room' : ℕ} (l : room ≡ 4 ^ s.k) (l' : room' ≡ 4 ^ s.k) where
    pub chain_summable : Summable room t.features rows
    chain_summable = rw l chain_sum

    pub list_summable : Summable room' p.features positions
    list_summable = rw l' list_sum

    module _ {row row' : List ℤ} (g : row ≡ features_of room t.features rows) (g' : row' ≡ features_of room' p.features positions)
        {size size' : ℤ} (z : size ≡ size_of t.sizes rows) (z' : size' ≡ size_of p.sizes positions) where
      chain_row_is : row ≡ features_of (4 ^ s.k) t.features rows
      chain_row_is = g ∙ rw l

      list_row_is : row' ≡ features_of (4 ^ s.k) p.features positions
      list_row_is = g' ∙ rw l'

      pub comparable : Comparable s (total size row (length rows)) (total size' row' (length positions)) (length p.sizes - length positions)
      comparable = rw (chain_row_is, list_row_is) (record {
        minkfreq = y.tables.minkfreq;
        widths = features_length (4 ^ s.k) t.features rows chain_sum ∙ sym (features_length (4 ^ s.k) p.features positions list_sum);
        chain_row = features_sum (4 ^ s.k) t.features rows chain_sum;
        list_row = features_sum (4 ^ s.k) p.features positions list_sum;
        tests = record {
          chain_size = rw z (size_le t.sizes rows y.tables.sized y.few);
          list_size = rw z' (size_le p.sizes positions y.tables.part_sized list_few);
          chain_few = y.few;
          list_few = list_few;
          partial_few = omega (arith, y.tables.part_sized.few);
        };
      })

      pub pair_is : {r : Option Scores} → r ≡ list_score s (total size row (length rows)) (total size' row' (length positions)) (length p.sizes - length positions)
          → r ≡ pair_score s t p rows positions
      unfolding pair_score
      pair_is h = rw (chain_row_is, list_row_is, z, z') at h

-- ---- the answer
-- what is asked once a proposal is accepted
module _ (s : Settings) (t : Table) (p : Parts) (o : Proposal) (e : 0 ≡ proposal_fault s t p o) where
  sound : Checked s t p
  sound = proposal_checked s t p o (sym e)

  pub graph_ready : (length t.ends ≡ length t.starts) × (length t.starts ≤ 64)
  graph_ready = (sound.ends_are, omega (arith, sound.sized.few, sound.sizes_are))

  abbrev chain : Bool
  chain = is_chain_in t.starts t.ends s.full (reverse o.rows)

  abbrev listed : Bool
  listed = one_of o.positions (part_lists (length p.sizes) s.fnmax s.pileupmax)

  pub pairable : {a b : Bool} → a ≡ chain → a ≡ true → b ≡ listed → b ≡ true → Pairable s t p o.rows o.positions
  pairable f g k l =
      let rises =
      (and_both (leb (fewest_of (length p.sizes) s.fnmax s.pileupmax) (length o.positions)) (rises_below (length p.sizes) 0 o.positions)
      (sym (member (length p.sizes) s.fnmax s.pileupmax o.positions) ∙ sym k ∙ l)).1 in
      record {
        k_high = sound.k_high;
        tables = tables_of sound;
        within = rw sound.sizes_are (sent_below _ (length t.starts) o.rows (sym f ∙ g));
        few = rows_few s t p o (sym e);
        positions_within = rising_below (length p.sizes) 0 o.positions rises;
        positions_few = rising_length (length p.sizes) o.positions rises;
      }

  is_no : is_good s t p o ≡ false → Ok false ≡ check_of s t p o
  unfolding check_of
  is_no h = answered_is _ e (sym h)

  pub no_chain : {r : Bool} → r ≡ chain → r ≡ false → Ok false ≡ check_of s t p o
  unfolding is_good
  no_chain f h = is_no (rw (sym f ∙ h))

  pub no_list : {r : Bool} → r ≡ listed → r ≡ false → Ok false ≡ check_of s t p o
  unfolding is_good
  no_list f h = is_no (rw (sym f ∙ h) (and_false chain))

  module _ {a b : Bool} (f : a ≡ chain) (g : a ≡ true) (k : b ≡ listed) (l : b ≡ true)
      {v : Option Scores} (i : v ≡ pair_score s t p o.rows o.positions) {r : Bool} (j : r ≡ gives o.score v) where
    pub scored : Ok r ≡ check_of s t p o
    unfolding check_of is_good
    scored = answered_is _ e (rw (sym f ∙ g, sym k ∙ l, ← i) j)
