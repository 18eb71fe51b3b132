-- Document 01, "Parts, graph, paths": chains, here written LAST ROW FIRST, so that an extension is one row put in front.
-- `follows c s` is the graph's rule, may row s stand right after chain c. That s comes later than c's last row is not asked of it: that is built in.
use Rattle.std.specs.Prelude.{ℕ, zero, suc, ◌-◌, Bool, true, cond, ◌&&◌, List, [], ◌∷◌, leb, ltb}
use Rattle.paths.specs.Sums.{sum_by}

-- the first row after c's last one; its number is also that of the node at which c ends
abbrev pub first_after : List ℕ → ℕ
first_after [] = 0
first_after (r ∷ c) = suc r

module _ (follows : List ℕ → ℕ → Bool) where
  -- the row s extends c
  unfoldable pub extends : List ℕ → ℕ → Bool
  extends c s = leb (first_after c) s && follows c s

  -- c's extensions by rows below k, highest row first
  unfoldable pub extensions : ℕ → List ℕ → List (List ℕ)
  extensions zero c = []
  extensions (suc k) c = cond (extends c k) ((k ∷ c) ∷ extensions k c) (extensions k c)

  module _ (n : ℕ) where
    -- c is a chain of a table of n rows: the empty list, or a chain and one row more that extends it
    unfoldable pub is_chain : List ℕ → Bool
    is_chain [] = true
    is_chain (s ∷ c) = is_chain c && (ltb s n && extends c s)

    -- how many chains begin with c, c itself among them; f is at least the number of rows that may follow
    unfoldable pub chains_within : ℕ → List ℕ → ℕ
    chains_within zero c = 1
    chains_within (suc f) c = suc (sum_by (λ e. chains_within f e) (extensions n c))

    unfoldable pub chains_from : List ℕ → ℕ
    chains_from c = chains_within (n - first_after c) c
