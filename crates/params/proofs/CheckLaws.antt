-- A loop that has found none so far and finds none here has found none up to the next; a row whose test holds gives its number, and
-- one whose test fails hands on to the next; and what one group of rows found, the whole list finds. Assumes nothing.
use mathlib.Core.Path.{◌≡◌, refl}
use Prim.Native.Nat.{ℕ, zero, suc, ◌+◌, ◌-◌, ◌*◌, ◌≤◌, ◌<◌}
use native.Mathlib.Omega.{arith}
use native.Mathlib.Numerals.{add-one}
use native.Mathlib.Nat.{mul-le-mul, mul-le-mul_right, suc-mul}
use mathlib.Core.Bool.{Bool, true, false, not, cond, ◌&&◌, ◌||◌}
use mathlib.Core.List.{List, [], ◌∷◌, ◌++◌}
use borrow.Author.Tests.{ltb-true, ltb-false, le-leb, lt-leb, eq-eqb, ne_eqb}
use lib.Dec.{leb, ltb, eqb}
use lib.IntN.{ℤ}
use lib.ListN.{length, take, drop}
use lib.Seq.{take-take}
use Rattle.paths.proofs.BooleanLaws.{clash, and_both}
use Rattle.params.specs.Numbers.{Rule, first_of, any_below, row_at}

or_true : (a : Bool) → (a || true) ≡ true
or_true true = refl
or_true false = refl

pub differ : (a b : ℕ) → (a ≡ b → ⊥) → not (eqb a b) ≡ true
differ a b h = rw (ne_eqb a b h)

pub agree : (a b : ℕ) → a ≡ b → not (eqb a b) ≡ false
agree a b h = rw (eq-eqb a b h)

-- a row of the table
pub given : (t : Bool) (n rest : ℕ) → t ≡ true → n ≡ cond t n rest
given t n rest e = rw e

pub passed : (t : Bool) (n rest found : ℕ) → t ≡ false → found ≡ rest → found ≡ cond t n rest
passed t n rest found e h = rw e h

-- one of several tests
pub or_here : (t rest : Bool) → t ≡ true → (t || rest) ≡ true
or_here t rest e = rw e

pub or_later : (t rest found : Bool) → t ≡ false → rest ≡ found → (t || rest) ≡ found
or_later t rest found e h = rw e h

-- past the range of k
pub k_high : (k : ℕ) → 6 < k → not (leb 1 k && leb k 6) ≡ true
k_high k h = rw (le-leb 1 k (omega arith), lt-leb k 6 h)

-- every row has a number
abbrev pub numbered : List Rule → Bool
numbered [] = true
numbered (r ∷ rows) = ltb 0 r.number && numbered rows

-- no row's test holds
abbrev pub Passed : List Rule → Type 0
Passed [] = Unit {0}
Passed (r ∷ rows) = (r.given ≡ false) × Passed rows

pub or_no : (a b : Bool) → (a || b) ≡ false → (a ≡ false) × (b ≡ false)
or_no true b h = absurd (clash true h refl)
or_no false b h = (refl, h)

-- two groups of rows: the first finds one, or hands on to the second
pub stops : (rows later : List Rule) (found : ℕ) → found ≡ first_of rows → (found ≡ 0 → ⊥) → found ≡ first_of (rows ++ later)
stops [] later found e h = absurd (h e)
stops (r ∷ rows) later found e h = go r.given e (λ f. stops rows later found f h)
  where
    go : (t : Bool) → found ≡ cond t r.number (first_of rows) → (found ≡ first_of rows → found ≡ first_of (rows ++ later))
        → found ≡ cond t r.number (first_of (rows ++ later))
    go true e rest = e
    go false e rest = rest e

pub goes_on : (rows later : List Rule) (found : ℕ) → Passed rows → found ≡ first_of later → found ≡ first_of (rows ++ later)
goes_on [] later found p h = h
goes_on (r ∷ rows) later found p h = passed r.given r.number (first_of (rows ++ later)) found p.0 (goes_on rows later found p.1 h)

-- 0 is given only where no row's test holds
pub none_given : (rows : List Rule) → numbered rows ≡ true → first_of rows ≡ 0 → Passed rows
none_given [] n e = tt
none_given (r ∷ rows) n e =
    let both = and_both (ltb 0 r.number) (numbered rows) n in
    go r.given refl e (ltb-true 0 r.number both.0) (λ f. none_given rows both.1 f)
  where
    go : (t : Bool) → r.given ≡ t → cond t r.number (first_of rows) ≡ 0 → 0 < r.number → (first_of rows ≡ 0 → Passed rows) → (r.given ≡ false) × Passed rows
    go true q e positive rest = absurd (omega arith)
    go false q e positive rest = (q, rest e)

-- few rows of few entries are few entries
pub few_in_all : (a b limit most : ℕ) → a ≤ limit → b ≤ most → a * b ≤ limit * most
few_in_all a b limit most h l = mul-le-mul h l

row_inside : (r n e : ℕ) → r < n → r * e + e ≤ n * e
row_inside r n e h = omega (arith, mul-le-mul_right e h, suc-mul r e)

-- a row, cut from all that stands from its first entry on
pub row_cut : (e n r : ℕ) (table : List ℤ) → length table ≡ n * e → r < n → take e (take (length table - r * e) (drop (r * e) table)) ≡ row_at e table r
row_cut e n r table h l = let inside = row_inside r n e l in take-take e (length table - r * e) (drop (r * e) table) (omega arith)

module _ (test : ℕ → Bool) where
  pub any_none : any_below 0 test ≡ false
  unfolding any_below
  any_none = refl

  pub any_more : (i : ℕ) → any_below i test ≡ false → test i ≡ false → any_below (i + 1) test ≡ false
  unfolding any_below
  any_more i before here = rw (add-one i, before, here)

  pub any_here : (n i : ℕ) → i < n → test i ≡ true → any_below n test ≡ true
  unfolding any_below
  any_here zero i h t = absurd (omega arith)
  any_here (suc n) i h t = go (ltb i n) refl (λ l. any_here n i l t)
    where
      go : (b : Bool) → ltb i n ≡ b → (i < n → any_below n test ≡ true) → (any_below n test || test n) ≡ true
      go true e earlier = rw (earlier (ltb-true i n e))
      go false e earlier = let p : i ≡ n = omega (arith, ltb-false i n e) in rw (← p, t) (or_true (any_below i test))

  -- at the end the loop's count is the whole
  pub any_end : (n i : ℕ) → n ≤ i → i ≤ n → any_below i test ≡ false → any_below n test ≡ false
  any_end n i l h none = let p : n ≡ i = omega arith in rw p none

  pub none_below : (n : ℕ) → ((i : ℕ) → i < n → test i ≡ false) → any_below n test ≡ false
  unfolding any_below
  none_below zero h = refl
  none_below (suc n) h = rw (none_below n (λ i l. h i (omega arith)), h n (omega arith))

  pub any_where : (n : ℕ) → any_below n test ≡ false → (i : ℕ) → i < n → test i ≡ false
  any_where n none i h = go (test i) refl
    where
      go : (b : Bool) → test i ≡ b → test i ≡ false
      go true e = absurd (clash (any_below n test) none (any_here n i h e))
      go false e = e
