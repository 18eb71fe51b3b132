-- What grows by the graph's rule is an ascending list without an overlapping pair; each stands once among those that N counts; and the walk over the rows,
-- the first first, counts what grows from a chain. Assumes nothing.
use mathlib.Core.Path.{◌≡◌, refl, sym, ap, ◌∙◌}
use Prim.Native.Nat.{ℕ, zero, suc, ◌+◌, ◌*◌, ◌-◌, ◌≤◌, ◌<◌}
use native.Mathlib.Omega.{arith}
use native.Mathlib.Nat.{add-zero}
use borrow.Author.Tests.{le-leb, lt-leb, lt-ltb, le-ltb, ltb-true, ltb-false, eqb-true, eqb-false}
use mathlib.Core.Bool.{Bool, true, false, cond, ◌&&◌}
use mathlib.Core.List.{List, [], ◌∷◌, map}
use lib.Dec.{leb, ltb, eqb, leb-zero}
use Rattle.paths.specs.Sums.{sum_by, bit, same_rows, times_in, keep}
use Rattle.paths.specs.Chains.{first_after, extends, extensions, is_chain, chains_from}
use Rattle.paths.specs.Search.{none}
use Rattle.paths.specs.Count.{stands_with_all, may_follow, no_pair_overlaps, ascends, ascending_lists, ChainRule, onward, rows_from}
use Rattle.paths.proofs.BooleanLaws.{and_false, and_true}
use Rattle.paths.proofs.SumLaws.{sum_append, bit_and, same_rows_eq}
use Rattle.paths.proofs.ChainLaws.{chains_from_step}

-- ---- what a chain is
-- below row s, itself below n, the rows that ascend are those that ascend below n and end before s
ascends_below : (n s : ℕ) (c : List ℕ) → s < n → (ascends n c && leb (first_after c) s) ≡ ascends s c
ascends_below n s [] h = leb-zero s
ascends_below n s (r ∷ c) h = go (ltb r s) refl
  where
    go : (t : Bool) → ltb r s ≡ t → ((ltb r n && ascends r c) && ltb r s) ≡ (ltb r s && ascends r c)
    go true e = rw (e, lt-ltb r n (omega (arith, ltb-true r s e))) (and_true (ascends r c))
    go false e = rw e (and_false (ltb r n && ascends r c))

shuffle : (a p l s : Bool) → ((a && p) && (l && s)) ≡ ((a && l) && (s && p))
shuffle false p l s = refl
shuffle true true true true = refl
shuffle true true true false = refl
shuffle true true false true = refl
shuffle true true false false = refl
shuffle true false true true = refl
shuffle true false true false = refl
shuffle true false false true = refl
shuffle true false false false = refl

module _ (joins : ℕ → ℕ → Bool) (n : ℕ) where
  chain_full : (x : List ℕ) → is_chain (may_follow joins true) n x ≡ (ascends n x && no_pair_overlaps joins x)
  unfolding is_chain extends
  chain_full [] = refl
  chain_full (s ∷ c) = rw (chain_full c) (go (ltb s n) refl)
    where
      go : (t : Bool) → ltb s n ≡ t
          → ((ascends n c && no_pair_overlaps joins c) && (ltb s n && (leb (first_after c) s && stands_with_all joins c s)))
          ≡ ((ltb s n && ascends s c) && (stands_with_all joins c s && no_pair_overlaps joins c))
      go true e =
          rw (e, ← ascends_below n s c (ltb-true s n e)) (shuffle (ascends n c) (no_pair_overlaps joins c) (leb (first_after c) s) (stands_with_all joins c s))
      go false e = rw e (and_false (ascends n c && no_pair_overlaps joins c))

  chain_bare : (x : List ℕ) → is_chain (may_follow joins false) n x ≡ none x
  unfolding is_chain extends
  chain_bare [] = refl
  chain_bare (s ∷ c) = rw (and_false (leb (first_after c) s), and_false (ltb s n)) (and_false (is_chain (may_follow joins false) n c))

-- ---- the lists that N counts
times_none : (k : ℕ) (l : List (List ℕ)) → times_in [] (map (λ c. k ∷ c) l) ≡ 0
times_none k [] = refl
times_none k (a ∷ l) = omega (arith, times_none k l)

times_longer : (s k : ℕ) (c : List ℕ) (l : List (List ℕ)) → times_in (s ∷ c) (map (λ c. k ∷ c) l) ≡ bit (eqb s k) * times_in c l
times_longer s k c [] = omega arith
times_longer s k c (a ∷ l) = omega (arith, times_longer s k c l, bit_and (eqb s k) (same_rows c a))

once_listed : (n : ℕ) (x : List ℕ) → times_in x (ascending_lists n) ≡ bit (ascends n x)
unfolding ascending_lists
once_listed zero [] = refl
once_listed zero (s ∷ c) = rw (le-ltb s 0 (omega arith))
once_listed (suc k) [] =
    sum_append (λ a. bit (same_rows [] a)) (map (λ c. k ∷ c) (ascending_lists k)) (ascending_lists k) ∙ omega (arith, times_none k (ascending_lists k), once_listed k [])
once_listed (suc k) (s ∷ c) =
    sum_append (λ a. bit (same_rows (s ∷ c) a)) (map (λ c. k ∷ c) (ascending_lists k)) (ascending_lists k)
    ∙ rw (times_longer s k c (ascending_lists k), once_listed k c, once_listed k (s ∷ c)) (go (eqb s k) refl)
  where
    less : (s ≡ k → ⊥) → ltb s (suc k) ≡ ltb s k
    less ne = go2 (ltb s k) refl
      where
        go2 : (t : Bool) → ltb s k ≡ t → ltb s (suc k) ≡ t
        go2 true e = lt-ltb s (suc k) (omega (arith, ltb-true s k e))
        go2 false e = le-ltb s (suc k) (omega (arith, ltb-false s k e))

    go : (t : Bool) → eqb s k ≡ t → bit (eqb s k) * bit (ascends k c) + bit (ltb s k && ascends s c) ≡ bit (ltb s (suc k) && ascends s c)
    go true e =
        let p : s ≡ k = eqb-true s k e in
        rw (e, p, le-ltb k k (omega arith), lt-ltb k (suc k) (omega arith)) (omega arith)
    go false e = rw (e, less (eqb-false s k e)) (omega arith)

pub chain_rule : (joins : ℕ → ℕ → Bool) (n : ℕ) → ChainRule joins n
chain_rule joins n = record { full = chain_full joins n; bare = chain_bare joins n; each_once = once_listed n }

-- of what is kept, a list at which p holds stands as often as before
times_kept : (p : List ℕ → Bool) (x : List ℕ) (l : List (List ℕ)) → times_in x (keep p l) ≡ bit (p x) * times_in x l
times_kept p x [] = omega arith
times_kept p x (a ∷ l) = go (p a) refl (same_rows x a) refl (times_kept p x l)
  where
    go : (t : Bool) → p a ≡ t → (u : Bool) → same_rows x a ≡ u → times_in x (keep p l) ≡ bit (p x) * times_in x l
        → times_in x (cond (p a) (a ∷ keep p l) (keep p l)) ≡ bit (p x) * (bit (same_rows x a) + times_in x l)
    go true e true f ih = rw (e, f) (let q : p x ≡ true = ap p (same_rows_eq x a f) ∙ e in rw (q) (omega (arith, (rw q at ih))))
    go true e false f ih = rw (e, f) (omega (arith, ih))
    go false e true f ih = rw (e, f) (let q : p x ≡ false = ap p (same_rows_eq x a f) ∙ e in rw (q) (omega (arith, (rw q at ih))))
    go false e false f ih = rw (e, f) (omega (arith, ih))

-- each chain of a full graph stands once among the lists that N counts, and nothing else
pub once_counted : (joins : ℕ → ℕ → Bool) (n : ℕ) (x : List ℕ) → times_in x (keep (no_pair_overlaps joins) (ascending_lists n)) ≡ bit (is_chain (may_follow joins true) n x)
once_counted joins n x =
    times_kept (no_pair_overlaps joins) x (ascending_lists n)
    ∙ rw (once_listed n x, chain_full joins n x) (sym (bit_and (ascends n x) (no_pair_overlaps joins x)))

-- ---- the walk
-- the sum of w over the rows below k at which p holds
unfoldable sum_rows : (ℕ → Bool) → (ℕ → ℕ) → ℕ → ℕ
sum_rows p w zero = 0
sum_rows p w (suc k) = cond (p k) (w k + sum_rows p w k) (sum_rows p w k)

-- the same over the k rows from s on
unfoldable sum_rows_from : (ℕ → Bool) → (ℕ → ℕ) → ℕ → ℕ → ℕ
sum_rows_from p w zero s = 0
sum_rows_from p w (suc k) s = cond (p s) (w s + sum_rows_from p w k (suc s)) (sum_rows_from p w k (suc s))

rows_split : (p : ℕ → Bool) (w : ℕ → ℕ) (k s : ℕ) → sum_rows p w (s + k) ≡ sum_rows p w s + sum_rows_from p w k s
unfolding sum_rows sum_rows_from
rows_split p w zero s = rw (add-zero s) (omega arith)
rows_split p w (suc k) s =
    let e : s + suc k ≡ suc s + k = omega arith in
    ap (λ (m : ℕ). sum_rows p w m) e ∙ rows_split p w k (suc s) ∙ go (p s)
  where
    go : (t : Bool) → cond t (w s + sum_rows p w s) (sum_rows p w s) + sum_rows_from p w k (suc s) ≡ sum_rows p w s + cond t (w s + sum_rows_from p w k (suc s)) (sum_rows_from p w k (suc s))
    go true = omega arith
    go false = refl

-- rows at which p fails add nothing
rows_none : (p : ℕ → Bool) (w : ℕ → ℕ) (k : ℕ) → ((s : ℕ) → s < k → p s ≡ false) → sum_rows p w k ≡ 0
unfolding sum_rows
rows_none p w zero h = refl
rows_none p w (suc k) h = rw (h k (omega arith)) (rows_none p w k (λ s l. h s (omega arith)))

-- two tests that agree from s on give one sum
from_same : (p q : ℕ → Bool) (w : ℕ → ℕ) (k s : ℕ) → ((j : ℕ) → s ≤ j → p j ≡ q j) → sum_rows_from p w k s ≡ sum_rows_from q w k s
unfolding sum_rows_from
from_same p q w zero s h = refl
from_same p q w (suc k) s h = rw (h s (omega arith), from_same p q w k (suc s) (λ j l. h j (omega arith)))

module _ (follows : List ℕ → ℕ → Bool) (n : ℕ) where
  -- a sum over extensions is a sum over rows
  sum_extended : (w : List ℕ → ℕ) (c : List ℕ) (k : ℕ) → sum_by w (extensions follows k c) ≡ sum_rows (extends follows c) (λ s. w (s ∷ c)) k
  unfolding extensions sum_rows
  sum_extended w c zero = refl
  sum_extended w c (suc k) = go (extends follows c k) (sum_extended w c k)
    where
      go : (t : Bool) → sum_by w (extensions follows k c) ≡ sum_rows (extends follows c) (λ s. w (s ∷ c)) k
          → sum_by w (cond t ((k ∷ c) ∷ extensions follows k c) (extensions follows k c))
          ≡ cond t (w (k ∷ c) + sum_rows (extends follows c) (λ s. w (s ∷ c)) k) (sum_rows (extends follows c) (λ s. w (s ∷ c)) k)
      go true h = omega arith
      go false h = h

  -- what grows from c is c, and what grows from c with one of the rows behind its last
  from_rows_lem : (c : List ℕ) → first_after c ≤ n → chains_from follows n c ≡ suc (sum_rows_from (follows c) (λ s. chains_from follows n (s ∷ c)) (n - first_after c) (first_after c))
  unfolding extends
  from_rows_lem c h =
      let f = first_after c in
      let w : ℕ → ℕ = λ s. chains_from follows n (s ∷ c) in
      let e : f + (n - f) ≡ n = omega arith in
      let split : sum_rows (extends follows c) w n ≡ sum_rows (extends follows c) w f + sum_rows_from (extends follows c) w (n - f) f =
      sym (ap (λ (m : ℕ). sum_rows (extends follows c) w m) e) ∙ rows_split (extends follows c) w (n - f) f in
      let early : sum_rows (extends follows c) w f ≡ 0 = rows_none (extends follows c) w f (λ s l. rw (lt-leb f s l)) in
      let late : sum_rows_from (extends follows c) w (n - f) f ≡ sum_rows_from (follows c) w (n - f) f = from_same (extends follows c) (follows c) w (n - f) f (λ s l. rw (le-leb f s l)) in
      omega (arith, chains_from_step follows n c, sum_extended (λ x. chains_from follows n x) c n, split, early, late)

module _ (joins : ℕ → ℕ → Bool) (n : ℕ) where
  onward_sum : (k s : ℕ) (c : List ℕ) → s + k ≡ n → onward joins c (rows_from k s) ≡ sum_rows_from (stands_with_all joins c) (λ r. chains_from (may_follow joins true) n (r ∷ c)) k s
  unfolding onward rows_from sum_rows_from
  onward_sum zero s c e = refl
  onward_sum (suc k) s c e =
      let here : suc (onward joins (s ∷ c) (rows_from k (suc s))) ≡ chains_from (may_follow joins true) n (s ∷ c) = longer (onward_sum k (suc s) (s ∷ c) (omega arith)) in
      go (stands_with_all joins c s) here (onward_sum k (suc s) c (omega arith))
    where
      longer : onward joins (s ∷ c) (rows_from k (suc s)) ≡ sum_rows_from (stands_with_all joins (s ∷ c)) (λ r. chains_from (may_follow joins true) n (r ∷ (s ∷ c))) k (suc s)
          → suc (onward joins (s ∷ c) (rows_from k (suc s))) ≡ chains_from (may_follow joins true) n (s ∷ c)
      longer h =
          let m : n - suc s ≡ k = omega arith in
          let all = from_rows_lem (may_follow joins true) n (s ∷ c) (omega arith) in
          omega (arith, h, (rw m at all))

      go : (t : Bool) → suc (onward joins (s ∷ c) (rows_from k (suc s))) ≡ chains_from (may_follow joins true) n (s ∷ c)
          → onward joins c (rows_from k (suc s)) ≡ sum_rows_from (stands_with_all joins c) (λ r. chains_from (may_follow joins true) n (r ∷ c)) k (suc s)
          → cond t (suc (onward joins (s ∷ c) (rows_from k (suc s)))) 0 + onward joins c (rows_from k (suc s))
          ≡ cond t (chains_from (may_follow joins true) n (s ∷ c) + sum_rows_from (stands_with_all joins c) (λ r. chains_from (may_follow joins true) n (r ∷ c)) k (suc s))
          (sum_rows_from (stands_with_all joins c) (λ r. chains_from (may_follow joins true) n (r ∷ c)) k (suc s))
      go true a b = omega arith
      go false a b = omega arith

  -- the walk over all the rows counts what grows from the empty chain, but for that chain itself
  pub walk_counts : chains_from (may_follow joins true) n [] ≡ suc (onward joins [] (rows_from n 0))
  walk_counts =
      let m : n - 0 ≡ n = omega arith in
      let all = from_rows_lem (may_follow joins true) n [] (omega arith) in
      omega (arith, onward_sum n 0 [] (omega arith), (rw m at all))

-- ---- a row taken narrows the rows that are left
swap : (a b c : Bool) → (a && (b && c)) ≡ (b && (a && c))
swap true true c = refl
swap true false c = refl
swap false true c = refl
swap false false c = refl

module _ (joins : ℕ → ℕ → Bool) where
  -- what d asks of a row more than e does is asked once, of the rows that are left
  narrowed : (p : ℕ → Bool) (d e l : List ℕ) → ((s : ℕ) → stands_with_all joins d s ≡ (p s && stands_with_all joins e s)) → onward joins d l ≡ onward joins e (keep p l)
  unfolding onward
  narrowed p d e [] h = refl
  narrowed p d e (s ∷ l) h =
      rw (h s) (go (p s) (narrowed p d e l h)
      (narrowed p (s ∷ d) (s ∷ e) l (λ j. ap (λ (t : Bool). joins s j && t) (h j) ∙ swap (joins s j) (p j) (stands_with_all joins e j))))
    where
      go : (t : Bool) → onward joins d l ≡ onward joins e (keep p l) → onward joins (s ∷ d) l ≡ onward joins (s ∷ e) (keep p l)
          → cond (t && stands_with_all joins e s) (suc (onward joins (s ∷ d) l)) 0 + onward joins d l ≡ onward joins e (cond t (s ∷ keep p l) (keep p l))
      go true a b = rw (a, b)
      go false a b = omega arith

  -- the first row alone, the chains that go on from it by rows that may stand with it, and those without it
  pub onward_first : (s : ℕ) (l : List ℕ) → onward joins [] (s ∷ l) ≡ suc (onward joins [] (keep (joins s) l)) + onward joins [] l
  unfolding onward
  onward_first s l = omega (arith, narrowed (joins s) (s ∷ []) [] l (λ j. refl))
