-- Chains and how many grow from each: a chain's count is itself and the sum over its extensions.
use mathlib.Core.Path.{◌≡◌, refl, ap, ◌∙◌}
use Prim.Native.Nat.{ℕ, zero, suc, ◌+◌, ◌*◌, ◌-◌, ◌≤◌, ◌<◌}
use native.Mathlib.Omega.{arith}
use mathlib.Core.Bool.{Bool, true, false, ◌&&◌, cond}
use mathlib.Core.List.{List, [], ◌∷◌}
use lib.Dec.{leb, ltb, eqb}
use borrow.Author.Tests.{leb-true}
use Rattle.paths.specs.Sums.{sum_by, bit, same_rows}
use Rattle.paths.specs.Chains.{first_after, extends, extensions, is_chain, chains_within, chains_from}
use Rattle.paths.proofs.BooleanLaws.{and_both}
use Rattle.paths.proofs.SumLaws.{bit_and, same_rows_eq}
use Rattle.paths.proofs.OrderLaws.{sum_next, hits, hits_suc, hits_none}

module _ (follows : List ℕ → ℕ → Bool) where
  -- an extending row is later
  pub extends_first_after : (c : List ℕ) (s : ℕ) → extends follows c s ≡ true → first_after c ≤ s
  unfolding extends
  extends_first_after c s h = leb-true (first_after c) s (and_both (leb (first_after c) s) (follows c s) h).0

  -- two weights that agree on c's extensions have one sum there
  pub sum_extensions : (w w' : List ℕ → ℕ) (c : List ℕ) (k : ℕ) → ((s : ℕ) → s < k → extends follows c s ≡ true → w (s ∷ c) ≡ w' (s ∷ c))
      → sum_by w (extensions follows k c) ≡ sum_by w' (extensions follows k c)
  unfolding extensions
  sum_extensions w w' c zero h = refl
  sum_extensions w w' c (suc k) h = go (extends follows c k) refl (sum_extensions w w' c k (λ s l e. h s (omega arith) e))
    where
      go : (t : Bool) → extends follows c k ≡ t → sum_by w (extensions follows k c) ≡ sum_by w' (extensions follows k c)
          → sum_by w (extensions follows (suc k) c) ≡ sum_by w' (extensions follows (suc k) c)
      go true e ih = omega (arith, sum_next follows c w k true e, sum_next follows c w' k true e, h k (omega arith) e)
      go false e ih = omega (arith, sum_next follows c w k false e, sum_next follows c w' k false e)

  -- no room, no extension
  pub no_extensions : (w : List ℕ → ℕ) (c : List ℕ) (k : ℕ) → k ≤ first_after c → sum_by w (extensions follows k c) ≡ 0
  no_extensions w c k h = sum_extensions w (λ _. 0) c k (λ s l e. absurd (omega (arith, extends_first_after c s e))) ∙ zeros (extensions follows k c)
    where
      zeros : (l : List (List ℕ)) → sum_by (λ _. 0) l ≡ 0
      zeros [] = refl
      zeros (x ∷ l) = omega (arith, zeros l)

  module _ (n : ℕ) where
    -- any fuel that is enough counts alike
    enough : (f g : ℕ) (c : List ℕ) → n - first_after c ≤ f → n - first_after c ≤ g → chains_within follows n f c ≡ chains_within follows n g c
    unfolding chains_within
    enough zero zero c p q = refl
    enough zero (suc g) c p q = omega (arith, no_extensions (λ e. chains_within follows n g e) c n (omega arith))
    enough (suc f) zero c p q = omega (arith, no_extensions (λ e. chains_within follows n f e) c n (omega arith))
    enough (suc f) (suc g) c p q =
        ap suc (sum_extensions (λ e. chains_within follows n f e) (λ e. chains_within follows n g e) c n
        (λ s l e. enough f g (s ∷ c) (omega (arith, extends_first_after c s e)) (omega (arith, extends_first_after c s e))))

    -- document 01's recursion: c itself, and the counts of its extensions
    pub chains_from_step : (c : List ℕ) → chains_from follows n c ≡ 1 + sum_by (λ e. chains_from follows n e) (extensions follows n c)
    unfolding chains_from chains_within
    chains_from_step c =
        let a : chains_within follows n (n - first_after c) c ≡ chains_within follows n (suc (n - first_after c)) c = enough (n - first_after c) (suc (n - first_after c)) c
        (omega arith) (omega arith) in
        let b = sum_extensions (λ e. chains_within follows n (n - first_after c) e) (λ e. chains_from follows n e) c n
        (λ s l e. enough (n - first_after c) (n - suc s) (s ∷ c) (omega (arith, extends_first_after c s e)) (omega arith)) in
        omega (arith, a, b)

    -- 1 if s is a row that extends c, 0 else
    step : List ℕ → ℕ → ℕ
    step c s = bit (ltb s n && extends follows c s)

    -- how often x stands in the tree below c: at most once, as the recursion on x makes plain
    pub in_tree : List ℕ → List ℕ → ℕ
    in_tree [] c = bit (same_rows [] c)
    in_tree (s ∷ x) c = bit (same_rows (s ∷ x) c) + in_tree x c * step x s

    hits_all : (s : ℕ) (x c : List ℕ) (t : Bool) → same_rows x c ≡ t → bit t * hits follows c s n ≡ bit t * step x s
    unfolding hits step
    hits_all s x c true e = rw (← same_rows_eq x c e)
    hits_all s x c false e = omega arith

    tree_extensions_nil : (c : List ℕ) (k : ℕ) → sum_by (λ e. in_tree [] e) (extensions follows k c) ≡ 0
    unfolding in_tree
    tree_extensions_nil c k = sum_extensions (λ e. in_tree [] e) (λ _. 0) c k (λ s l e. refl) ∙ zeros (extensions follows k c)
      where
        zeros : (l : List (List ℕ)) → sum_by (λ _. 0) l ≡ 0
        zeros [] = refl
        zeros (x ∷ l) = omega (arith, zeros l)

    tree_extensions : (s : ℕ) (x c : List ℕ) (k : ℕ)
        → sum_by (λ e. in_tree (s ∷ x) e) (extensions follows k c) ≡ bit (same_rows x c) * hits follows c s k + sum_by (λ e. in_tree x e) (extensions follows k c) * step x s
    unfolding in_tree extensions
    tree_extensions s x c zero = rw (hits_none follows c s) (omega arith)
    tree_extensions s x c (suc k) = go (extends follows c k) (hits_suc follows c s k) (tree_extensions s x c k)
      where
        go : (t : Bool) → hits follows c s (suc k) ≡ bit t * bit (eqb s k) + hits follows c s k
            → sum_by (λ e. in_tree (s ∷ x) e) (extensions follows k c) ≡ bit (same_rows x c) * hits follows c s k + sum_by (λ e. in_tree x e) (extensions follows k c) * step x s
            → sum_by (λ e. in_tree (s ∷ x) e) (cond t ((k ∷ c) ∷ extensions follows k c) (extensions follows k c))
            ≡ bit (same_rows x c) * hits follows c s (suc k) + sum_by (λ e. in_tree x e) (cond t ((k ∷ c) ∷ extensions follows k c) (extensions follows k c)) * step x s
        go true h ih = rw h (omega (arith, bit_and (eqb s k) (same_rows x c), ih))
        go false h ih = rw h (omega (arith, ih))

    -- x below c is c itself or stands below one extension of c
    pub tree_step : (x c : List ℕ) → in_tree x c ≡ bit (same_rows x c) + sum_by (λ e. in_tree x e) (extensions follows n c)
    unfolding in_tree
    tree_step [] c = omega (arith, tree_extensions_nil c n)
    tree_step (s ∷ x) c = omega (arith, tree_extensions s x c n, tree_step x c, hits_all s x c (same_rows x c) refl, ap (λ (m : ℕ). m * step x s) (tree_step x c))

    -- below the empty chain stands each chain once, and nothing else
    pub tree_top : (x : List ℕ) → in_tree x [] ≡ bit (is_chain follows n x)
    unfolding in_tree is_chain step
    tree_top [] = refl
    tree_top (s ∷ x) = omega (arith, ap (λ (m : ℕ). m * step x s) (tree_top x), bit_and (is_chain follows n x) (ltb s n && extends follows x s))
