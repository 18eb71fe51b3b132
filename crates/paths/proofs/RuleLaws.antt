-- Two graph rules that agree on the chains of a table give one search: what is queued are chains of the table, so both rules extend it alike.
-- Two rules of pairs that agree on each pair of the rows, the later last, give one search and one count.
use mathlib.Core.Path.{◌≡◌, refl, sym, ap, ◌∙◌}
use Prim.Native.Nat.{ℕ, zero, suc, ◌+◌, ◌≤◌, ◌<◌}
use native.Mathlib.Omega.{arith}
use mathlib.Core.Bool.{Bool, true, false, cond, ◌&&◌}
use mathlib.Core.List.{List, [], ◌∷◌, ◌++◌}
use lib.Dec.{leb}
use lib.ListN.{length}
use borrow.Author.Tests.{leb-true}
use Rattle.paths.specs.Best.{All}
use Rattle.paths.specs.Chains.{first_after, extends, extensions, is_chain, chains_from}
use Rattle.paths.specs.Count.{stands_with_all, may_follow, chain_count}
use Rattle.paths.specs.Search.{pick, after, scored, left}
use Rattle.paths.specs.Demand.{scored_chains, left_chains}
use Rattle.paths.proofs.PickLaws.{picked_all}
use Rattle.paths.proofs.QueueLaws.{all_append, chain_longer, chain_parts}
use Rattle.paths.proofs.Demand.{how_many, chains_are_n}

-- ---- the search
module _ {A : Type 0} (dist : A → ℕ) (P : A → Type 0) where
  module _ (ext ext' : A → List A) (same : (a : A) → P a → ext a ≡ ext' a) (next : (a : A) → P a → All P (ext a)) where
    after_same : (x : A) (q : List A) → P x → All P q → after dist ext x q ≡ after dist ext' x q
    unfolding after
    after_same x q h a = ap (λ (l : List A). (pick dist x q).1 ++ l) (same (pick dist x q).0 (picked_all dist P x q h a).0)

    after_all_lem : (x : A) (q : List A) → P x → All P q → All P (after dist ext x q)
    unfolding after
    after_all_lem x q h a =
        let p = picked_all dist P x q h a in
        all_append P (pick dist x q).1 (ext (pick dist x q).0) p.1 (next (pick dist x q).0 p.0)

    all_scored_same : (f : ℕ) (q : List A) → All P q → scored dist ext f q ≡ scored dist ext' f q
    unfolding scored
    all_scored_same zero q a = refl
    all_scored_same (suc f) [] a = refl
    all_scored_same (suc f) (x ∷ q) a =
        ap (λ (l : List A). (pick dist x q).0 ∷ l) (all_scored_same f (after dist ext x q) (after_all_lem x q a.0 a.1) ∙ ap (λ (l : List A). scored dist ext' f l) (after_same x q a.0 a.1))

    all_left_same : (f : ℕ) (q : List A) → All P q → left dist ext f q ≡ left dist ext' f q
    unfolding left
    all_left_same zero q a = refl
    all_left_same (suc f) [] a = refl
    all_left_same (suc f) (x ∷ q) a =
        all_left_same f (after dist ext x q) (after_all_lem x q a.0 a.1) ∙ ap (λ (l : List A). left dist ext' f l) (after_same x q a.0 a.1)

module _ (f g : List ℕ → ℕ → Bool) (v : ℕ) (same : (c : List ℕ) (s : ℕ) → is_chain f v c ≡ true → s < v → extends f c s ≡ extends g c s) where
  extensions_same : (c : List ℕ) → is_chain f v c ≡ true → (k : ℕ) → k ≤ v → extensions f k c ≡ extensions g k c
  unfolding extensions
  extensions_same c h zero l = refl
  extensions_same c h (suc k) l = rw (same c k h l, extensions_same c h k (omega arith))

  -- a chain's extensions are chains
  extensions_chains : (c : List ℕ) → is_chain f v c ≡ true → (k : ℕ) → k ≤ v → All (λ e. is_chain f v e ≡ true) (extensions f k c)
  unfolding extensions
  extensions_chains c h zero l = tt
  extensions_chains c h (suc k) l = go (extends f c k) refl (extensions_chains c h k (omega arith))
    where
      go : (t : Bool) → extends f c k ≡ t → All (λ e. is_chain f v e ≡ true) (extensions f k c) → All (λ e. is_chain f v e ≡ true) (cond t ((k ∷ c) ∷ extensions f k c) (extensions f k c))
      go true e ih = (chain_longer f v k c h l e, ih)
      go false e ih = ih

  all_same : (c : List ℕ) → is_chain f v c ≡ true → extensions f v c ≡ extensions g v c
  all_same c h = extensions_same c h v (omega arith)

  all_chains : (c : List ℕ) → is_chain f v c ≡ true → All (λ e. is_chain f v e ≡ true) (extensions f v c)
  all_chains c h = extensions_chains c h v (omega arith)

  module _ (D : List ℕ → ℕ) (steps : ℕ) where
    pub scored_same : scored_chains f v D steps ≡ scored_chains g v D steps
    unfolding is_chain
    scored_same = all_scored_same D (λ c. is_chain f v c ≡ true) (λ c. extensions f v c) (λ c. extensions g v c) all_same all_chains steps ([] ∷ []) (refl, tt)

    pub left_same : left_chains f v D steps ≡ left_chains g v D steps
    unfolding is_chain
    left_same = all_left_same D (λ c. is_chain f v c ≡ true) (λ c. extensions f v c) (λ c. extensions g v c) all_same all_chains steps ([] ∷ []) (refl, tt)

  -- and as many chains grow
  chains_same : chains_from f v [] ≡ chains_from g v []
  chains_same =
      let steps = chains_from f v [] + chains_from g v [] in
      omega (arith, how_many f v (λ c. 0) steps, how_many g v (λ c. 0) steps, ap length (scored_same (λ c. 0) steps))

-- ---- one rule of pairs for another
module _ (joins joins' : ℕ → ℕ → Bool) (v : ℕ) (same : (r s : ℕ) → r < s → s < v → joins r s ≡ joins' r s) (full : Bool) where
  stands_same : (c : List ℕ) (s : ℕ) → is_chain (may_follow joins full) v c ≡ true → first_after c ≤ s → s < v → stands_with_all joins c s ≡ stands_with_all joins' c s
  stands_same [] s h l k = refl
  stands_same (r ∷ c) s h l k =
      let p = chain_parts (may_follow joins full) v r c h in
      rw (same r s l k, stands_same c s p.0 (omega arith) k)

  pub extends_same : (c : List ℕ) (s : ℕ) → is_chain (may_follow joins full) v c ≡ true → s < v → extends (may_follow joins full) c s ≡ extends (may_follow joins' full) c s
  unfolding extends
  extends_same c s h l = go (leb (first_after c) s) refl
    where
      go : (t : Bool) → leb (first_after c) s ≡ t → (leb (first_after c) s && may_follow joins full c s) ≡ (leb (first_after c) s && may_follow joins' full c s)
      go true e = rw (e, stands_same c s h (leb-true (first_after c) s e) l)
      go false e = rw e

  pub chain_count_same : chain_count joins v full ≡ chain_count joins' v full
  chain_count_same = sym (chains_are_n joins v full) ∙ chains_same (may_follow joins full) (may_follow joins' full) v extends_same ∙ chains_are_n joins' v full
