-- A sheet is known by its 64 × 64 entries. One row more or less changes one column: the rows before r have it already, those from r on not yet; and the rows that
-- are not there play no part. Assumes nothing.
use Prim.Native.Nat.{ℕ, zero, suc, ◌+◌, ◌*◌, ◌/◌, ◌%◌, ◌≤◌, ◌<◌}
use native.Mathlib.Omega.{arith}
use native.Mathlib.Nat.{add-zero}
use mathlib.Core.Path.{◌≡◌, refl, sym, ap, ◌∙◌}
use mathlib.Core.Logic.{◌≢◌}
use mathlib.Core.Bool.{Bool, true, false, not, beq, ◌&&◌}
use mathlib.Core.List.{List, [], ◌∷◌}
use borrow.Author.Count.{below_more}
use borrow.Author.Tests.{ltb-true, ltb-false, lt-ltb, le-ltb, eqb-true, eqb-false}
use lib.Dec.{ltb, eqb}
use lib.ListN.{length, get_or, set, replicate, length-set, length-replicate, get_or-replicate}
use lib.Pointwise.{pointwise}
use lib.Seq.{get_or-set_same, get_or-set_other, ext_get_or}
use Rattle.paths.proofs.BooleanLaws.{clash, and_false}
use Rattle.companions.specs.Companions.{rows_overlap, companion, flags_from, sheet_by, sheet_flag, sheet_of, same_flags}
use Rattle.companions.specs.Steps.{Passing}

-- ---- entries
flags_length : (f : ℕ → Bool) (i n : ℕ) → length (flags_from f i n) ≡ n
unfolding flags_from
flags_length f i zero = refl
flags_length f i (suc n) = ap suc (flags_length f (suc i) n)

flags_at : (f : ℕ → Bool) (i n j : ℕ) → j < n → get_or (flags_from f i n) j false ≡ f (i + j)
unfolding flags_from
flags_at f i zero j h = absurd (none j h)
  where
    none : (j : ℕ) → j < 0 → ⊥
    none j h = omega arith
flags_at f i (suc n) zero h = rw add-zero
flags_at f i (suc n) (suc j) h = flags_at f (suc i) n j (less j n h) ∙ ap f (moved i j)
  where
    less : (j n : ℕ) → suc j < suc n → j < n
    less j n h = omega arith

    moved : (i j : ℕ) → suc i + j ≡ i + suc j
    moved i j = omega arith

module _ (f : ℕ → ℕ → Bool) where
  pub sheet_length : length (sheet_by f) ≡ 4096
  unfolding sheet_by
  sheet_length = flags_length (λ i. f (i / 64) (i % 64)) 0 4096

  pub sheet_entry : (r s : ℕ) → r < 64 → s < 64 → sheet_flag (sheet_by f) r s ≡ f r s
  unfolding sheet_by
  sheet_entry r s h l =
      let row : (0 + (64 * r + s)) / 64 ≡ r = omega arith in
      let column : (0 + (64 * r + s)) % 64 ≡ s = omega arith in
      flags_at (λ i. f (i / 64) (i % 64)) 0 4096 (64 * r + s) (omega arith) ∙ ap (λ (q : ℕ). f q ((0 + (64 * r + s)) % 64)) row ∙ ap (f r) column

  -- a sheet whose entries are f's is f's
  pub sheet_known : (sheet : List Bool) → length sheet ≡ 4096 → ((r s : ℕ) → r < 64 → s < 64 → sheet_flag sheet r s ≡ f r s) → sheet ≡ sheet_by f
  sheet_known sheet long h = ext_get_or false sheet (sheet_by f) (long ∙ sym sheet_length) (λ i l.
      let place : i ≡ 64 * (i / 64) + i % 64 = omega arith in
      let row : i / 64 < 64 = omega arith in
      let column : i % 64 < 64 = omega arith in
      ap (λ (j : ℕ). get_or sheet j false) place
      ∙ h (i / 64) (i % 64) row column
      ∙ sym (sheet_entry (i / 64) (i % 64) row column)
      ∙ ap (λ (j : ℕ). get_or (sheet_by f) j false) (sym place))

pub sheet_same : (f g : ℕ → ℕ → Bool) → ((r s : ℕ) → r < 64 → s < 64 → f r s ≡ g r s) → sheet_by f ≡ sheet_by g
sheet_same f g h = sheet_known g (sheet_by f) (sheet_length f) (λ r s p q. sheet_entry f r s p q ∙ h r s p q)

-- ---- one column, row by row
module _ (f g : ℕ → ℕ → Bool) where
  pub passing_begin : (sheet : List Bool) → sheet ≡ sheet_by f → Passing f g 0 sheet
  passing_begin sheet e = record {
    long = ap length e ∙ sheet_length f;
    done = λ q s h. absurd (omega arith);
    left = λ q s h k l. ap (λ (t : List Bool). sheet_flag t q s) e ∙ sheet_entry f q s k l;
  }

  -- the rows from r on are as g says too
  pub passing_end : (r : ℕ) (sheet : List Bool) → Passing f g r sheet → ((q s : ℕ) → r ≤ q → s < 64 → f q s ≡ g q s) → sheet ≡ sheet_by g
  passing_end r sheet p h = sheet_known g sheet p.long (λ q s k l. go q s k l (ltb q r) refl)
    where
      go : (q s : ℕ) → q < 64 → s < 64 → (b : Bool) → ltb q r ≡ b → sheet_flag sheet q s ≡ g q s
      go q s k l true e = p.done q s (ltb-true q r e) k l
      go q s k l false e = let late = ltb-false q r e in p.left q s late k l ∙ h q s late l

  -- one row more: its flag in the column is g's, and its others are the same for both
  module _ (column : ℕ) (small : column < 64) (same : (r s : ℕ) → s ≢ column → f r s ≡ g r s) (r : ℕ) (sheet : List Bool) (flag : Bool) (few : r < 64) (e : flag ≡ g r column)
      (p : Passing f g r sheet) where
    abbrev next : List Bool
    next = set sheet (64 * r + column) flag

    other : (q s : ℕ) → q ≢ r → s < 64 → sheet_flag next q s ≡ sheet_flag sheet q s
    other q s n l = let ne : 64 * q + s ≢ 64 * r + column = λ z. n (omega arith) in get_or-set_other sheet (64 * r + column) (64 * q + s) flag false ne

    before : (q s : ℕ) → q < r → q < 64 → s < 64 → sheet_flag next q s ≡ g q s
    before q s h k l = other q s (λ z. omega arith) l ∙ p.done q s h k l

    room : 64 * r + column < length sheet
    room = let h = p.long in omega arith

    off : (s : ℕ) → s < 64 → s ≢ column → sheet_flag next r s ≡ g r s
    off s l n =
        let ne : 64 * r + s ≢ 64 * r + column = λ z. n (omega arith) in
        get_or-set_other sheet (64 * r + column) (64 * r + s) flag false ne ∙ p.left r s (omega arith) few l ∙ same r s n

    at : (s : ℕ) → s < 64 → (b : Bool) → eqb s column ≡ b → sheet_flag next r s ≡ g r s
    at s l true t = rw (eqb-true s column t) (get_or-set_same sheet (64 * r + column) flag false room ∙ e)
    at s l false t = off s l (eqb-false s column t)

    pub passing_on : Passing f g (r + 1) next
    passing_on = record {
      long = length-set sheet (64 * r + column) flag ∙ p.long;
      done = λ q s h. below_more (λ q. q < 64 → s < 64 → sheet_flag next q s ≡ g q s) r (λ q h k l. before q s h k l) (λ k l. at s l (eqb s column) refl) q h;
      left = λ q s h k l. other q s (λ z. omega arith) l ∙ p.left q s (omega arith) k l;
    }

-- ---- companions
module _ (starts ends : List ℕ) where
  -- a row is no companion of itself or of a later one, and none at or past the number of rows is one
  pub not_later : (rows r s : ℕ) → s ≤ r → companion starts ends rows r s ≡ false
  unfolding companion
  not_later rows r s h = rw (le-ltb r s h)

  pub not_there : (rows r s : ℕ) → rows ≤ s → companion starts ends rows r s ≡ false
  unfolding companion
  not_there rows r s h = rw (le-ltb s rows h) (and_false (ltb r s))

  pub there : (rows r s : ℕ) → r < s → s < rows → companion starts ends rows r s ≡ not (rows_overlap starts ends r s)
  unfolding companion
  there rows r s h l = rw (lt-ltb r s h, lt-ltb s rows l)

  -- one row more or less: only its own column can differ
  pub other_columns : (last r s : ℕ) → s ≢ last → companion starts ends last r s ≡ companion starts ends (last + 1) r s
  unfolding companion
  other_columns last r s n = go (ltb s last) refl
    where
      go : (b : Bool) → ltb s last ≡ b → (ltb r s && (ltb s last && not (rows_overlap starts ends r s))) ≡ (ltb r s && (ltb s (last + 1) && not (rows_overlap starts ends r s)))
      go true e = let h = ltb-true s last e in rw (e, lt-ltb s (last + 1) (omega arith))
      go false e = let h = ltb-false s last e in let k : last + 1 ≤ s = late n h in rw (e, le-ltb s (last + 1) k)
        where
          late : s ≢ last → last ≤ s → last + 1 ≤ s
          late n h = omega arith

  -- and of the rows from the last on, not even that
  pub later_rows : (last r s : ℕ) → last ≤ r → companion starts ends last r s ≡ companion starts ends (last + 1) r s
  later_rows last r s h = go (eqb s last) refl
    where
      go : (b : Bool) → eqb s last ≡ b → companion starts ends last r s ≡ companion starts ends (last + 1) r s
      go true e = let k = eqb-true s last e in not_later last r s (omega arith) ∙ sym (not_later (last + 1) r s (omega arith))
      go false e = other_columns last r s (eqb-false s last e)

  -- a table of no rows has no flag
  pub no_rows : replicate 4096 false ≡ sheet_of starts ends 0
  no_rows = sheet_known (companion starts ends 0) (replicate 4096 false) (length-replicate 4096 false) (λ r s h l.
      get_or-replicate 4096 (64 * r + s) false false (omega arith) ∙ sym (not_there 0 r s (omega arith)))

-- the rows that are not there play no part
module _ (starts ends starts' ends' : List ℕ) (rows : ℕ) where
  pub only_present : ((i : ℕ) → i < rows → get_or starts i 0 ≡ get_or starts' i 0) → ((i : ℕ) → i < rows → get_or ends i 0 ≡ get_or ends' i 0)
      → sheet_of starts ends rows ≡ sheet_of starts' ends' rows
  only_present p q = sheet_same (companion starts ends rows) (companion starts' ends' rows) (λ r s h l. go r s (ltb r s) refl (ltb s rows) refl)
    where
      go : (r s : ℕ) (b : Bool) → ltb r s ≡ b → (c : Bool) → ltb s rows ≡ c → companion starts ends rows r s ≡ companion starts' ends' rows r s
      go r s false e c f = not_later starts ends rows r s (ltb-false r s e) ∙ sym (not_later starts' ends' rows r s (ltb-false r s e))
      go r s true e false f = not_there starts ends rows r s (ltb-false s rows f) ∙ sym (not_there starts' ends' rows r s (ltb-false s rows f))
      go r s true e true f =
          let h = ltb-true r s e in
          let l = ltb-true s rows f in
          let k : r < rows = omega arith in
          there starts ends rows r s h l ∙ rw (p r k, q r k, p s l, q s l) (sym (there starts' ends' rows r s h l))

-- ---- the comparison
pub same_told : (a b : List Bool) → same_flags a b ≡ true → a ≡ b
unfolding same_flags
same_told [] [] h = refl
same_told [] (y ∷ b) h = absurd (clash false refl h)
same_told (x ∷ a) [] h = absurd (clash false refl h)
same_told (true ∷ a) (true ∷ b) h = ap (λ (l : List Bool). true ∷ l) (same_told a b h)
same_told (true ∷ a) (false ∷ b) h = absurd (clash false refl h)
same_told (false ∷ a) (true ∷ b) h = absurd (clash false refl h)
same_told (false ∷ a) (false ∷ b) h = ap (λ (l : List Bool). false ∷ l) (same_told a b h)

pub same_itself : (a : List Bool) → same_flags a a ≡ true
unfolding same_flags
same_itself [] = refl
same_itself (true ∷ a) = same_itself a
same_itself (false ∷ a) = same_itself a

-- flags compared pair by pair
pub same_pairs : (a b : List Bool) → pointwise beq a b ≡ same_flags a b
unfolding same_flags
same_pairs [] [] = refl
same_pairs [] (y ∷ b) = refl
same_pairs (x ∷ a) [] = refl
same_pairs (true ∷ a) (true ∷ b) = same_pairs a b
same_pairs (true ∷ a) (false ∷ b) = refl
same_pairs (false ∷ a) (true ∷ b) = refl
same_pairs (false ∷ a) (false ∷ b) = same_pairs a b
