-- The capped count. The rows that are left stand in a lent list; a row that is taken leaves those behind it that may stand with it, which are put behind the
-- others; what one part of the count leaves of the cap is asked of the next. Assumes nothing.
use mathlib.Core.Path.{◌≡◌, refl, sym, ap, ◌∙◌}
use mathlib.Core.Logic.{◌≢◌}
use Prim.Native.Nat.{ℕ, zero, suc, ◌+◌, ◌-◌, ◌≤◌, ◌<◌, min}
use native.Mathlib.Omega.{arith}
use native.Mathlib.Nat.{le_refl}
use native.Mathlib.Numerals.{add-one}
use mathlib.Core.Bool.{Bool, true, false}
use mathlib.Core.List.{List, [], ◌∷◌, ◌++◌, append-nil, append_assoc}
use lib.Dec.{eqb}
use lib.ListN.{length, get_or, set, replicate, length-set, length-replicate}
use lib.Seq.{get_or-set_same, get_or-set_other}
use borrow.Author.Count.{below_more}
use borrow.Author.Tests.{eqb-true, eqb-false}
use Rattle.paths.specs.Sums.{keep}
use Rattle.paths.specs.Count.{chain_count, onward, rows_from}
use Rattle.paths.proofs.CountLaws.{walk_counts, onward_first}
use Rattle.paths.proofs.Demand.{chains_are_n}
use Rattle.kplib.specs.Graph.{edge, chains_of}
use Rattle.kplib.specs.GraphWalk.{flag_of, Together, span_of, Kept, Counting, Narrowed}
use Rattle.kplib.proofs.TogetherLaws.{flags_count}

-- ---- the rows in a stretch of the list
span_same : (a b : List ℕ) (n i : ℕ) → ((j : ℕ) → j < i + n → get_or a j 0 ≡ get_or b j 0) → span_of a n i ≡ span_of b n i
unfolding span_of
span_same a b zero i h = refl
span_same a b (suc n) i h = rw (h i (omega arith), span_same a b n (suc i) (λ j l. h j (omega arith)))

-- one row more at its end
span_end : (a : List ℕ) (n i : ℕ) → span_of a (suc n) i ≡ span_of a n i ++ (get_or a (i + n) 0 ∷ [])
unfolding span_of
span_end a zero i = let e : i + 0 ≡ i = omega arith in rw e
span_end a (suc n) i =
    let e : suc i + n ≡ i + suc n = omega arith in
    ap (λ (l : List ℕ). get_or a i 0 ∷ l) (span_end a n (suc i) ∙ ap (λ (j : ℕ). span_of a n (suc i) ++ (get_or a j 0 ∷ [])) e)

-- its first row
span_first : (a : List ℕ) {from to : ℕ} → from < to → span_of a (to - from) from ≡ get_or a from 0 ∷ span_of a (to - (from + 1)) (from + 1)
unfolding span_of
span_first a {from} {to} l =
    let e : to - from ≡ suc (to - (from + 1)) = omega arith in
    ap (λ (k : ℕ). span_of a k from) e ∙ rw (add-one from)

span_none : (a : List ℕ) {from to : ℕ} → to ≤ from → span_of a (to - from) from ≡ []
unfolding span_of
span_none a {from} {to} l = let e : to - from ≡ 0 = omega arith in ap (λ (k : ℕ). span_of a k from) e

-- ---- what stays
pub kept_all : {to : ℕ} {rows : List ℕ} → ((i : ℕ) → get_or rows i 0 < 64) → Kept to rows rows
kept_all h = record { long = refl; rows = h; before = λ i l. refl }

pub kept_on : {to end : ℕ} {a b c : List ℕ} → to ≤ end → Kept to a b → Kept end b c → Kept to a c
kept_on l h k = record { long = k.long ∙ h.long; rows = k.rows; before = λ i q. k.before i (omega arith) ∙ h.before i q }

-- a row is stored at or behind place `to`
kept_store : {to end s : ℕ} {a b : List ℕ} → Kept to a b → to ≤ end → end < length b → s < 64 → Kept to a (set b end s)
kept_store {to} {end} {s} {a} {b} h l room small = record {
  long = length-set b end s ∙ h.long;
  rows = λ i. go i (eqb i end) refl;
  before = λ i q. let ne : i ≢ end = omega arith in get_or-set_other b end i s 0 ne ∙ h.before i q;
}
  where
    go : (i : ℕ) (t : Bool) → eqb i end ≡ t → get_or (set b end s) i 0 < 64
    go i true e = let p : i ≡ end = eqb-true i end e in rw (p, get_or-set_same b end s 0 room) small
    go i false e = rw (get_or-set_other b end i s 0 (eqb-false i end e)) (h.rows i)

-- ---- the rows that a row taken leaves
pub record Narrowing (p : ℕ → Bool) (from to : ℕ) (old new : List ℕ) (i end : ℕ) : Type 0 where
  pub kept : Kept to old new
  pub at_least : from ≤ i
  pub at_most : i ≤ to
  pub low : to ≤ end
  pub high : end - to ≤ i - from
  pub left : span_of new (end - to) to ++ keep p (span_of old (to - i) i) ≡ keep p (span_of old (to - from) from)

pub narrowing_begin : (p : ℕ → Bool) {from to : ℕ} {rows : List ℕ} → Counting rows from to → Narrowing p from to rows rows from to
unfolding span_of
narrowing_begin p {from} {to} {rows} h =
    let z : to - to ≡ 0 = omega arith in
    record { kept = kept_all h.small; at_least = omega arith; at_most = h.in_order; low = omega arith; high = omega arith; left = rw z }

module _ {p : ℕ → Bool} {from to : ℕ} {old new : List ℕ} {i end : ℕ} (h : Narrowing p from to old new i end) where
  pub narrowing_room : Counting old from to → i < to → end < length new
  narrowing_room c l = omega (arith, h.kept.long, c.long, c.room, h.high, h.at_least, h.low)

  pub narrowing_done : to ≤ i → Narrowed p from to old new end
  narrowing_done l = record {
    kept = h.kept;
    low = h.low;
    high = omega (arith, h.high, h.at_most);
    left = sym (append-nil (span_of new (end - to) to)) ∙ ap (λ (r : List ℕ). span_of new (end - to) to ++ keep p r) (sym (span_none old l)) ∙ h.left;
  }

  module _ (l : i < to) (room : end < length new) where
    read : get_or new i 0 ≡ get_or old i 0
    read = h.kept.before i l

    stored : Kept to old (set new end (get_or new i 0))
    stored = kept_store h.kept h.low room (h.kept.rows i)

    -- what stands behind place `to` is not touched by the store
    same : span_of (set new end (get_or new i 0)) (end - to) to ≡ span_of new (end - to) to
    same = span_same (set new end (get_or new i 0)) new (end - to) to (λ j q. let ne : j ≢ end = omega (arith, h.low) in get_or-set_other new end j (get_or new i 0) 0 ne)

    next : span_of old (to - i) i ≡ get_or new i 0 ∷ span_of old (to - (i + 1)) (i + 1)
    next = span_first old l ∙ ap (λ (s : ℕ). s ∷ span_of old (to - (i + 1)) (i + 1)) (sym read)

    pub narrowing_skip : p (get_or new i 0) ≡ false → Narrowing p from to old (set new end (get_or new i 0)) (i + 1) end
    narrowing_skip e = record {
      kept = stored;
      at_least = omega (arith, h.at_least);
      at_most = omega arith;
      low = h.low;
      high = omega (arith, h.high);
      left = rw same (ap (λ (r : List ℕ). span_of new (end - to) to ++ r) (sym (ap (keep p) next ∙ rw e)) ∙ h.left);
    }

    longer : span_of (set new end (get_or new i 0)) (end + 1 - to) to ≡ span_of new (end - to) to ++ (get_or new i 0 ∷ [])
    longer =
        let a : end + 1 - to ≡ suc (end - to) = omega (arith, h.low) in
        let b : to + (end - to) ≡ end = omega (arith, h.low) in
        ap (λ (n : ℕ). span_of (set new end (get_or new i 0)) n to) a ∙ span_end (set new end (get_or new i 0)) (end - to) to
        ∙ rw (same, b, get_or-set_same new end (get_or new i 0) 0 room)

    pub narrowing_take : p (get_or new i 0) ≡ true → Narrowing p from to old (set new end (get_or new i 0)) (i + 1) (end + 1)
    narrowing_take e = record {
      kept = stored;
      at_least = omega (arith, h.at_least);
      at_most = omega arith;
      low = omega (arith, h.low);
      high = omega (arith, h.high, h.at_least, h.low);
      left = rw (longer, append_assoc) (ap (λ (r : List ℕ). span_of new (end - to) to ++ r) (sym (ap (keep p) next ∙ rw e)) ∙ h.left);
    }

-- ---- the walk
module _ (joins : ℕ → ℕ → Bool) where
  pub none_left : (rows : List ℕ) {from to : ℕ} (cap : ℕ) → to ≤ from → cap ≡ cap - onward joins [] (span_of rows (to - from) from)
  unfolding onward
  none_left rows cap l = rw (span_none rows l) (omega arith)

  -- the first row, the chains that go on from it, and those without it
  pub row_taken : {rows mid low : List ℕ} {from to end below left : ℕ} (cap : ℕ) → from < to → Narrowed (joins (get_or rows from 0)) (from + 1) to rows mid end → Kept end mid low
      → below ≡ cap - 1 - onward joins [] (span_of mid (end - to) to) → left ≡ below - onward joins [] (span_of low (to - (from + 1)) (from + 1))
      → left ≡ cap - onward joins [] (span_of rows (to - from) from)
  row_taken {rows} {mid} {low} {from} {to} {end} {below} {left} cap l n k a b =
      let rest = span_of rows (to - (from + 1)) (from + 1) in
      let same : span_of low (to - (from + 1)) (from + 1) ≡ rest =
      span_same low rows (to - (from + 1)) (from + 1) (λ j q. k.before j (omega (arith, n.low)) ∙ n.kept.before j (omega arith)) in
      let first = onward_first joins (get_or rows from 0) rest in
      rw (span_first rows l) (omega (arith, first, (rw n.left at a), (rw same at b)))

pub kept_both : {p : ℕ → Bool} {rows mid low new : List ℕ} {from to end : ℕ} → Narrowed p from to rows mid end → Kept end mid low → Kept to low new → Kept to rows new
kept_both n k m = kept_on (omega arith) (kept_on n.low n.kept k) m

-- ---- where it begins
-- the first r rows stand in their places
pub record Rows (rows : List ℕ) (r : ℕ) : Type 0 where
  pub long : length rows ≡ 4160
  pub small : (i : ℕ) → get_or rows i 0 < 64
  pub are : (i : ℕ) → i < r → get_or rows i 0 ≡ i

zeros_small : (n i : ℕ) → get_or (replicate {A = ℕ} n 0) i 0 < 64
zeros_small zero i = omega arith
zeros_small (suc n) zero = omega arith
zeros_small (suc n) (suc i) = zeros_small n i

pub rows_begin : Rows (replicate {A = ℕ} 4160 0) 0
rows_begin = record { long = length-replicate {A = ℕ} 4160 0; small = zeros_small 4160; are = λ i l. absurd (omega arith) }

pub rows_on : {rows : List ℕ} {r : ℕ} → Rows rows r → r < 64 → Rows (set rows r r) (r + 1)
rows_on {rows} {r} h l =
    let room : r < length rows = omega (arith, h.long) in
    let k : Kept r rows (set rows r r) = kept_store (kept_all h.small) (le_refl r) room l in
    record {
      long = length-set rows r r ∙ h.long;
      small = k.rows;
      are = below_more (λ i. get_or (set rows r r) i 0 ≡ i) r (λ i q. k.before i q ∙ h.are i q) (get_or-set_same rows r r 0 (omega (arith, h.long)));
    }

rows_are : (rows : List ℕ) (n i : ℕ) → ((j : ℕ) → j < i + n → get_or rows j 0 ≡ j) → span_of rows n i ≡ rows_from n i
unfolding span_of rows_from
rows_are rows zero i h = refl
rows_are rows (suc n) i h = rw (h i (omega arith), rows_are rows n (suc i) (λ j l. h j (omega arith)))

pub rows_done : {rows : List ℕ} {r v : ℕ} → Rows rows r → r ≡ v → v ≤ 64 → Counting rows 0 v × (span_of rows v 0 ≡ rows_from v 0)
rows_done {rows} {r} {v} h e l = (
  record { long = h.long; small = h.small; in_order = omega arith; few = omega arith; room = omega arith },
  rows_are rows v 0 (λ j q. h.are j (omega arith)),
)

pub bare_count : (joins : ℕ → ℕ → Bool) (n : ℕ) (full : Bool) (cap : ℕ) → full ≡ false → (cap ≡ 0 → ⊥) → 1 ≡ min (chain_count joins n full) cap
unfolding chain_count
bare_count joins n full cap f z = rw f (omega arith)

-- what the walk leaves of the cap, but for the empty chain, is what N leaves of it
module _ (starts ends : List ℕ) (together : List Bool) (laid : Together (edge starts ends) (length starts) together) where
  pub graph_count : (rows : List ℕ) (full : Bool) (cap left : ℕ) → span_of rows (length starts) 0 ≡ rows_from (length starts) 0 → full ≡ true → (cap ≡ 0 → ⊥)
      → left ≡ cap - 1 - onward (flag_of together) [] (span_of rows (length starts - 0) 0) → cap - 1 - left + 1 ≡ min (chains_of starts ends full) cap
  graph_count rows full cap left s f z e =
      let a : length starts - 0 ≡ length starts = omega arith in
      let walk = walk_counts (flag_of together) (length starts) in
      let n = chains_are_n (flag_of together) (length starts) true in
      rw (← flags_count starts ends together laid full, f) (omega (arith, walk, n, (rw (a, s) at e)))
