-- The flags of the pairs of rows: how they are laid, row by row, and that they give the graph's own search and count,
-- for the graph's rule asks an edge only of a row of a chain and a later one. Assumes nothing.
use mathlib.Core.Path.{◌≡◌, refl, ap, ◌∙◌}
use Prim.Native.Nat.{ℕ, zero, suc, ◌+◌, ◌-◌, ◌*◌, ◌≤◌, ◌<◌, min, max}
use native.Mathlib.Omega.{arith}
use native.Mathlib.Numerals.{add-one}
use mathlib.Core.Logic.{◌≢◌}
use borrow.Author.Count.{below_more}
use borrow.Author.Tests.{ltb-true, ltb-false, le-ltb, eqb-true}
use mathlib.Core.Bool.{Bool, true, false, ◌&&◌}
use mathlib.Core.List.{List, map}
use lib.Dec.{ltb, eqb}
use lib.ListN.{length, get_or, set, replicate, length-set, length-replicate, get_or-replicate}
use lib.Seq.{get_or-set_same, get_or-set_other}
use Rattle.metrics.specs.Similarity.{lies_inside, overlaps_of}
use Rattle.paths.specs.Best.{best}
use Rattle.paths.specs.Chains.{extends, is_chain}
use Rattle.paths.specs.Count.{may_follow, chain_count}
use Rattle.paths.specs.Queue.{Ended}
use Rattle.paths.specs.Search.{none}
use Rattle.paths.proofs.RuleLaws.{scored_same, left_same, extends_same, chain_count_same}
use Rattle.params.specs.Numbers.{falling_start}
use Rattle.params.proofs.CheckLaws.{any_where}
use Rattle.kplib.specs.Graph.{edge, may_follow_in, chains_of}
use Rattle.kplib.specs.GraphWalk.{flag_of, Together, SetFrom, RowLaid}

-- ---- how they are laid
module _ (joins : ℕ → ℕ → Bool) (r : ℕ) (t : List Bool) where
  -- no later row yet
  pub row_begin : RowLaid joins (r + 1) r t t
  row_begin = record { long = refl; laid = λ s h l. absurd (omega arith); kept = λ i l. refl; ahead = λ i l. refl }

  -- one later row more
  pub row_on : (s : ℕ) (u : List Bool) (flag : Bool) → RowLaid joins s r t u → r < s → 64 * r + s < length u → flag ≡ joins r s → RowLaid joins (s + 1) r t (set u (64 * r + s) flag)
  row_on s u flag h k room e = record {
    long = length-set u (64 * r + s) flag ∙ h.long;
    laid = λ j q l. below_more (λ j. r < j → flag_of (set u (64 * r + s) flag) r j ≡ joins r j) s
        (λ j l q. let ne : 64 * r + j ≢ 64 * r + s = omega arith in get_or-set_other u (64 * r + s) (64 * r + j) flag false ne ∙ h.laid j q l)
        (λ q. get_or-set_same u (64 * r + s) flag false room ∙ e) j l q;
    kept = λ i l. let ne : i ≢ 64 * r + s = omega arith in get_or-set_other u (64 * r + s) i flag false ne ∙ h.kept i l;
    ahead = λ i l. let ne : i ≢ 64 * r + s = omega arith in get_or-set_other u (64 * r + s) i flag false ne ∙ h.ahead i (omega arith);
  }

  -- the other later rows have their flag already
  pub row_rest : {v s : ℕ} {u : List Bool} → RowLaid joins s r t u → s ≤ v → ((j : ℕ) → s ≤ j → j < v → flag_of t r j ≡ joins r j) → RowLaid joins v r t u
  row_rest {v} {s} {u} h l rest = record {
    long = h.long;
    laid = λ j q m. go j q m (ltb j s) refl;
    kept = h.kept;
    ahead = λ i m. h.ahead i (omega arith);
  }
    where
      go : (j : ℕ) → r < j → j < v → (b : Bool) → ltb j s ≡ b → flag_of u r j ≡ joins r j
      go j q m true e = h.laid j q (ltb-true j s e)
      go j q m false e = let k = ltb-false j s e in h.ahead (64 * r + j) (omega arith) ∙ rest j k m

-- ---- the rows that need not be asked
rises : (starts : List ℕ) → falling_start starts ≡ false → (s j : ℕ) → s ≤ j → j < length starts → get_or starts s 0 ≤ get_or starts j 0
unfolding falling_start
rises starts none s zero l h = let e : s ≡ 0 = omega arith in rw e (omega arith)
rises starts none s (suc j) l h = go (ltb s (suc j)) refl (λ k. rises starts none s j k (omega arith))
  where
    go : (b : Bool) → ltb s (suc j) ≡ b → (s ≤ j → get_or starts s 0 ≤ get_or starts j 0) → get_or starts s 0 ≤ get_or starts (suc j) 0
    go true e before =
        let step = ltb-false (get_or starts (j + 1) 0) (get_or starts j 0) (any_where (λ r. ltb (get_or starts (r + 1) 0) (get_or starts r 0)) (length starts - 1) none j (omega arith)) in
        omega (arith, before (omega (arith, ltb-true s (suc j) e)), (rw (add-one j) at step))
    go false e before = let p : s ≡ suc j = omega (arith, ltb-false s (suc j) e) in rw p (omega arith)

no_and : (a b : Bool) → (a && (b && false)) ≡ false
no_and true true = refl
no_and true false = refl
no_and false b = refl

not_inside : (s1 e1 s2 e2 : ℕ) → e1 ≤ s2 → lies_inside s1 e1 s2 e2 ≡ false
not_inside s1 e1 s2 e2 l = go (eqb s1 e1) refl
  where
    go : (t : Bool) → eqb s1 e1 ≡ t → lies_inside s1 e1 s2 e2 ≡ false
    go true e = let p : s1 ≡ e1 = eqb-true s1 e1 e in rw (e, le-ltb s2 s1 (omega arith))
    go false e = rw e

-- an interval that starts at another's end or behind it does not overlap it
behind : (s1 e1 s2 e2 : ℕ) → e1 ≤ s2 → overlaps_of s1 e1 s2 e2 ≡ false
unfolding overlaps_of
behind s1 e1 s2 e2 l = rw (le-ltb (max s1 s2) (min e1 e2) (omega arith), not_inside s1 e1 s2 e2 l, le-ltb s2 e1 l) (no_and (eqb s2 e2) (ltb s1 s2))

pub behind_all : (starts ends : List ℕ) → falling_start starts ≡ false → (r s : ℕ) → get_or ends r 0 ≤ get_or starts s 0 → (j : ℕ) → s ≤ j → j < length starts → true ≡ edge starts ends r j
unfolding edge
behind_all starts ends none r s l j q m =
    let k = rises starts none s j q m in
    rw (behind (get_or starts r 0) (get_or ends r 0) (get_or starts j 0) (get_or ends j 0) (omega (arith, k)))

-- the flags of the rows before r are laid, and the others are set
pub record LaidBefore (joins : ℕ → ℕ → Bool) (v r : ℕ) (t : List Bool) : Type 0 where
  pub flags : (i : ℕ) → i < r → (s : ℕ) → i < s → s < v → flag_of t i s ≡ joins i s
  pub others : SetFrom (64 * r) t

pub pairs_begin : (joins : ℕ → ℕ → Bool) (v : ℕ) {t : List Bool} → SetFrom 0 t → LaidBefore joins v 0 t
pairs_begin joins v all = record { flags = λ i l s q m. absurd (omega arith); others = all }

pub all_set : SetFrom 0 (replicate 4096 true)
all_set = record { long = length-replicate 4096 true; are_set = λ j l m. get_or-replicate 4096 j true false m }

-- ---- what is left of other flags beside them: the first s have both, and the others are as they were
pub record BothTo (p : ℕ → Bool) (old new : List Bool) (s : ℕ) : Type 0 where
  pub long : length new ≡ 64
  pub both : (j : ℕ) → j < s → get_or new j false ≡ (get_or old j false && p j)
  pub same : (j : ℕ) → s ≤ j → get_or new j false ≡ get_or old j false

-- ---- what they give
module _ (starts ends : List ℕ) (together : List Bool) (laid : Together (edge starts ends) (length starts) together) where
  -- the flags extend a chain as the graph's rule does
  extends_in_lem : (full : Bool) (c : List ℕ) (s : ℕ) → is_chain (may_follow (flag_of together) full) (length starts) c ≡ true → s < length starts
      → extends (may_follow (flag_of together) full) c s ≡ extends (may_follow_in starts ends full) c s
  extends_in_lem full c s h l = extends_same (flag_of together) (edge starts ends) (length starts) laid full c s h l

  -- the search by the flags is the search by the graph's rule
  pub ended_in : {R : Type 0} {le : R → R → Bool} {start : R} {score : List ℕ → R} (full : Bool) {D : List ℕ → ℕ} {steps k : ℕ} {b : R} {complete : Bool}
      → Ended le start score (may_follow (flag_of together) full) (length starts) D steps k b complete → Ended le start score (may_follow_in starts ends full) (length starts) D steps k b complete
  ended_in {le = le} {start = start} {score = score} full {D = D} {steps = steps} h =
      let scored = scored_same (may_follow (flag_of together) full) (may_follow_in starts ends full) (length starts) (extends_in_lem full) D steps in
      let left = left_same (may_follow (flag_of together) full) (may_follow_in starts ends full) (length starts) (extends_in_lem full) D steps in
      record {
        best_is = h.best_is ∙ ap (λ (l : List (List ℕ)). best le start (map score l)) scored;
        count_is = h.count_is ∙ ap length scored;
        complete_is = h.complete_is ∙ ap none left;
      }

  -- and so is the count
  pub flags_count : (full : Bool) → chain_count (flag_of together) (length starts) full ≡ chains_of starts ends full
  flags_count full = chain_count_same (flag_of together) (edge starts ends) (length starts) laid full
