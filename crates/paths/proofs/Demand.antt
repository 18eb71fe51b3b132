-- Demand 3 follows from one law of conservation: what is scored, and what would grow from the chains still queued, come to what would grow from the empty chain.
-- Weighed by 1 it counts; weighed by "is it x" it says that each chain is scored once.
use mathlib.Core.Path.{◌≡◌, refl, sym, ap, ◌∙◌}
use Prim.Native.Nat.{ℕ, zero, suc, ◌+◌, ◌≤◌, min}
use native.Mathlib.Omega.{arith}
use mathlib.Core.Logic.{◌⊎◌, inl, inr, ⊎_elim}
use mathlib.Core.Bool.{Bool, true, false}
use mathlib.Core.List.{List, [], ◌∷◌, map}
use lib.ListN.{length}
use lib.Dec.{leb}
use borrow.Author.Tests.{leb-true, leb-false}
use Rattle.paths.specs.Sums.{sum_by, bit, same_rows, times_in, keep}
use Rattle.paths.specs.Chains.{extensions, is_chain, chains_from}
use Rattle.paths.specs.Count.{may_follow, no_pair_overlaps, ascending_lists, chain_count}
use Rattle.paths.specs.Search.{none, pick, after, scored, left}
use Rattle.paths.specs.Demand.{scored_chains, left_chains, Lists, NumberOfChains, SearchDemand}
use Rattle.paths.specs.Best.{Order, best, Latest}
use Rattle.paths.proofs.SumLaws.{sum_one, bit_le, same_rows_eq, same_rows_refl}
use Rattle.paths.proofs.SearchLaws.{conserve}
use Rattle.paths.proofs.CountLaws.{chain_rule, once_counted}
use Rattle.paths.proofs.ChainLaws.{chains_from_step, tree_step, tree_top, in_tree}
use Rattle.paths.proofs.BestLaws.{all_unmap, all_good, upper, all_times_in, best_first}

module _ {A : Type 0} (dist : A → ℕ) (ext : A → List A) where
  -- fewer steps than allowed are made only when nothing is queued
  ran : (f : ℕ) (q : List A) → (length (scored dist ext f q) ≡ f) ⊎ ((length (scored dist ext f q) ≤ f) × (left dist ext f q ≡ []))
  unfolding scored left
  ran zero q = inl refl
  ran (suc f) [] = inr (omega arith, refl)
  ran (suc f) (x ∷ q) = ⊎_elim (λ e. inl (omega arith)) (λ h. inr (omega arith, h.1)) (ran f (after dist ext x q))

module _ (follows : List ℕ → ℕ → Bool) (n : ℕ) (dist : List ℕ → ℕ) (f : ℕ) where
  abbrev Scored : List (List ℕ)
  Scored = scored_chains follows n dist f

  abbrev Left : List (List ℕ)
  Left = left_chains follows n dist f

  abbrev N : ℕ
  N = chains_from follows n []

  counted : length Scored + sum_by (λ c. chains_from follows n c) Left ≡ N
  counted = omega (arith, conserve dist (λ c. extensions follows n c) (λ _. 1) (λ c. chains_from follows n c) (λ c. chains_from_step follows n c) f ([] ∷ []), sum_one Scored)

  -- each chain once, no chain twice
  once : (x : List ℕ) → times_in x Scored + sum_by (λ c. in_tree follows n x c) Left ≡ bit (is_chain follows n x)
  once x = omega (arith, conserve dist (λ c. extensions follows n c) (λ c. bit (same_rows x c)) (λ c. in_tree follows n x c) (λ c. tree_step follows n x c) f ([] ∷ []), tree_top follows n x)

  chains_from_pos : (q : List (List ℕ)) → sum_by (λ c. chains_from follows n c) q ≡ 0 → q ≡ []
  chains_from_pos [] h = refl
  chains_from_pos (c ∷ q) h = absurd (omega (arith, chains_from_step follows n c))

  -- as many are scored as there are chains, or as steps are allowed
  pub how_many : length Scored ≡ min N f
  how_many = ⊎_elim (λ e. omega (arith, counted)) (λ h. omega (arith, counted, none h.1)) (ran dist (λ c. extensions follows n c) f ([] ∷ []))
    where
      none : Left ≡ [] → sum_by (λ c. chains_from follows n c) Left ≡ 0
      none e = ap (λ q. sum_by (λ c. chains_from follows n c) q) e

  pub complete_left : N ≤ f → Left ≡ []
  complete_left h = chains_from_pos Left (omega (arith, counted, how_many))

  pub left_complete : Left ≡ [] → N ≤ f
  left_complete e = omega (arith, counted, how_many, ap (λ q. sum_by (λ c. chains_from follows n c) q) e)

  pub at_most_once : (x : List ℕ) → times_in x Scored ≤ bit (is_chain follows n x)
  at_most_once x = omega (arith, once x)

  pub all_scored : N ≤ f → (x : List ℕ) → times_in x Scored ≡ bit (is_chain follows n x)
  all_scored h x = omega (arith, once x, ap (λ q. sum_by (λ c. in_tree follows n x c) q) (complete_left h))

  -- of a complete search no chain scores higher than the latest of the best among those scored
  pub none_higher : {R : Type 0} (P : R → Type 0) (le : R → R → Bool) (ord : Order P le) (score : List ℕ → R) → ((c : List ℕ) → P (score c))
      → (m : R) → Latest le m (map score Scored) → N ≤ f → (x : List ℕ) → is_chain follows n x ≡ true → le (score x) m ≡ true
  none_higher P le ord score good m b h x e =
      all_times_in (λ c. le (score c) m ≡ true) x Scored (all_unmap (λ r. le r m ≡ true) score Scored (upper P le ord b (all_good P score Scored good))) (omega (arith, ap bit e, all_scored h x))

none_true : {A : Type 0} (l : List A) → none l ≡ true → l ≡ []
none_true [] e = refl
none_true (x ∷ l) e = cc

bit_pos : (t : Bool) → 1 ≤ bit t → t ≡ true
bit_pos true h = refl
bit_pos false h = absurd (omega arith)

-- nothing is left queued exactly when N is at most the steps
complete_flag : (follows : List ℕ → ℕ → Bool) (n : ℕ) (dist : List ℕ → ℕ) (f : ℕ) → none (left_chains follows n dist f) ≡ leb (chains_from follows n []) f
complete_flag follows n dist f = go (leb (chains_from follows n []) f) refl
  where
    left_some : (l : List (List ℕ)) → (l ≡ [] → ⊥) → none l ≡ false
    left_some [] h = absurd (h refl)
    left_some (x ∷ l) h = refl

    go : (t : Bool) → leb (chains_from follows n []) f ≡ t → none (left_chains follows n dist f) ≡ t
    go true e = ap none (complete_left follows n dist f (leb-true (chains_from follows n []) f e))
    go false e = left_some (left_chains follows n dist f) (λ z. omega (arith, left_complete follows n dist f z, leb-false (chains_from follows n []) f e))

lists : (follows : List ℕ → ℕ → Bool) (n : ℕ) (dist : List ℕ → ℕ) (f : ℕ) → chains_from follows n [] ≤ f → Lists follows n (scored_chains follows n dist f)
lists follows n dist f h = record {
  each_chain = λ x e. all_scored follows n dist f h x ∙ ap bit e;
  nothing_else = λ x e. all_scored follows n dist f h x ∙ ap bit e;
}

-- a list that stands in l, taken out of it once
taken_out : (x : List ℕ) (l : List (List ℕ)) → 1 ≤ times_in x l
    → (r : List (List ℕ)) × (length l ≡ suc (length r)) × ((z : List ℕ) → times_in z l ≡ bit (same_rows z x) + times_in z r)
taken_out x [] h = absurd (omega arith)
taken_out x (y ∷ l) h = go (same_rows x y) refl (λ k. taken_out x l k)
  where
    go : (t : Bool) → same_rows x y ≡ t → (1 ≤ times_in x l → (r : List (List ℕ)) × (length l ≡ suc (length r)) × ((z : List ℕ) → times_in z l ≡ bit (same_rows z x) + times_in z r))
        → (r : List (List ℕ)) × (length (y ∷ l) ≡ suc (length r)) × ((z : List ℕ) → times_in z (y ∷ l) ≡ bit (same_rows z x) + times_in z r)
    go true e ih = (l, refl, λ z. rw (same_rows_eq x y e))
    go false e ih =
        let o : 1 ≤ times_in x l = omega (arith, ap bit e) in
        let k = ih o in
        (y ∷ k.0, ap suc k.1, λ z. omega (arith, k.2 z))

-- two lists in which each list stands equally often are equally long
same_length : (a b : List (List ℕ)) → ((x : List ℕ) → times_in x a ≡ times_in x b) → length a ≡ length b
same_length [] [] h = refl
same_length [] (y ∷ b) h = absurd (omega (arith, h y, ap bit (same_rows_refl y)))
same_length (x ∷ a) b h =
    let k = taken_out x b (omega (arith, h x, ap bit (same_rows_refl x))) in
    omega (arith, k.1, same_length a k.0 (λ z. omega (arith, h z, k.2 z)))

-- two lists that list the chains are equally long
lists_agree : (follows : List ℕ → ℕ → Bool) (n : ℕ) (a b : List (List ℕ)) → Lists follows n a → Lists follows n b → length a ≡ length b
lists_agree follows n a b p q = same_length a b (λ x. go x (is_chain follows n x) refl)
  where
    go : (x : List ℕ) (t : Bool) → is_chain follows n x ≡ t → times_in x a ≡ times_in x b
    go x true e = omega (arith, p.each_chain x e, q.each_chain x e)
    go x false e = omega (arith, p.nothing_else x e, q.nothing_else x e)

chains_counted : (follows : List ℕ → ℕ → Bool) (n : ℕ) → NumberOfChains follows n (chains_from follows n [])
chains_counted follows n =
    let chains = scored_chains follows n (λ c. 0) (chains_from follows n []) in
    let listed : Lists follows n chains = lists follows n (λ c. 0) (chains_from follows n []) (omega arith) in
    let number : length chains ≡ chains_from follows n [] = omega (arith, how_many follows n (λ c. 0) (chains_from follows n [])) in
    record { chains = chains; listed = listed; number = number; every = λ l h. lists_agree follows n l chains h listed ∙ number }

-- N's own list holds each chain of a full graph once; in a bare one the empty chain is the only one
full_lists : (joins : ℕ → ℕ → Bool) (n : ℕ) → Lists (may_follow joins true) n (keep (no_pair_overlaps joins) (ascending_lists n))
full_lists joins n = record {
  each_chain = λ x e. once_counted joins n x ∙ ap bit e;
  nothing_else = λ x e. once_counted joins n x ∙ ap bit e;
}

bare_lists : (joins : ℕ → ℕ → Bool) (n : ℕ) → Lists (may_follow joins false) n ([] ∷ [])
bare_lists joins n = record {
  each_chain = λ x e. only x (sym ((chain_rule joins n).bare x) ∙ e);
  nothing_else = λ x e. no_other x (sym ((chain_rule joins n).bare x) ∙ e);
}
  where
    only : (x : List ℕ) → none x ≡ true → times_in x ([] ∷ []) ≡ 1
    only [] e = refl
    only (s ∷ x) e = cc

    no_other : (x : List ℕ) → none x ≡ false → times_in x ([] ∷ []) ≡ 0
    no_other [] e = cc
    no_other (s ∷ x) e = refl

-- N is the number of chains
pub count_counts : (joins : ℕ → ℕ → Bool) (n : ℕ) (full : Bool) → NumberOfChains (may_follow joins full) n (chain_count joins n full)
unfolding chain_count
count_counts joins n true =
    let chains = keep (no_pair_overlaps joins) (ascending_lists n) in
    record { chains = chains; listed = full_lists joins n; number = refl; every = λ l h. lists_agree (may_follow joins true) n l chains h (full_lists joins n) }
count_counts joins n false =
    record { chains = [] ∷ []; listed = bare_lists joins n; number = refl; every = λ l h. lists_agree (may_follow joins false) n l ([] ∷ []) h (bare_lists joins n) }

-- as many grow from the empty chain
pub chains_are_n : (joins : ℕ → ℕ → Bool) (n : ℕ) (full : Bool) → chains_from (may_follow joins full) n [] ≡ chain_count joins n full
chains_are_n joins n full =
    let c = chains_counted (may_follow joins full) n in
    sym c.number ∙ (count_counts joins n full).every c.chains c.listed

module _ {R : Type 0} (P : R → Type 0) (le : R → R → Bool) (ord : Order P le) (start : R) (score : List ℕ → R) (good : (c : List ℕ) → P (score c))
    (first : le start (score []) ≡ true) (dist : List ℕ → ℕ) (ext : List ℕ → List (List ℕ)) where
  from_first : (f : ℕ) → Latest le (best le start (map score (scored dist ext (suc f) ([] ∷ [])))) (map score (scored dist ext (suc f) ([] ∷ [])))
  unfolding scored pick
  from_first f =
      let rest = scored dist ext f (after dist ext [] []) in
      best_first P le ord start (score []) (map score rest) first (good []) (all_good P score rest good)

module _ {R : Type 0} (P : R → Type 0) (le : R → R → Bool) (ord : Order P le) (start : R) (score : List ℕ → R) (good : (c : List ℕ) → P (score c))
    (first : le start (score []) ≡ true) (follows : List ℕ → ℕ → Bool) (n : ℕ) (dist : List ℕ → ℕ) (steps : ℕ) where
  -- the empty chain comes first, and its result replaces the start
  latest : 1 ≤ steps → Latest le (best le start (map score (scored_chains follows n dist steps))) (map score (scored_chains follows n dist steps))
  latest h = go steps h
    where
      go : (f : ℕ) → 1 ≤ f → Latest le (best le start (map score (scored_chains follows n dist f))) (map score (scored_chains follows n dist f))
      go zero h = absurd (omega arith)
      go (suc f) h = from_first P le ord start score good first dist (λ c. extensions follows n c) f

  pub demand3 : 1 ≤ steps → SearchDemand le start score follows n dist steps
  demand3 h =
      let done : none (left_chains follows n dist steps) ≡ true → chains_from follows n [] ≤ steps = λ e. left_complete follows n dist steps (none_true (left_chains follows n dist steps) e) in
      record {
        only_chains = λ x o. bit_pos (is_chain follows n x) (omega (arith, at_most_once follows n dist steps x));
        none_twice = λ x. omega (arith, at_most_once follows n dist steps x, bit_le (is_chain follows n x));
        as_many = how_many follows n dist steps;
        complete_when = complete_flag follows n dist steps;
        complete_all = λ e. lists follows n dist steps (done e);
        latest_best = latest h;
        none_higher = λ e x c. none_higher follows n dist steps P le ord score good (best le start (map score (scored_chains follows n dist steps))) (latest h) (done e) x c;
      }
