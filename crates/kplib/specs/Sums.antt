-- Document 01: size and features of a chain, and of a part list, are sums over its rows. Feature rows lie flat in a table, e entries each.
use Rattle.std.specs.Prelude.{ℕ, List, [], ◌∷◌, ℤ, pos, ◌+ℤ◌, get_or, length, replicate}
use Rattle.params.specs.Numbers.{row_at}

-- entry by entry
unfoldable pub row_plus : List ℤ → List ℤ → List ℤ
row_plus [] ys = []
row_plus (x ∷ xs) [] = []
row_plus (x ∷ xs) (y ∷ ys) = (x +ℤ y) ∷ row_plus xs ys

unfoldable pub zeros : ℕ → List ℤ
zeros e = replicate e (pos 0)

-- with the sizes, and with the feature rows, of the rows that are left added one by one
unfoldable pub size_from : List ℤ → ℤ → List ℕ → ℤ
size_from sizes z [] = z
size_from sizes z (r ∷ rows) = size_from sizes (z +ℤ get_or sizes r (pos 0)) rows

unfoldable pub features_from : ℕ → List ℤ → List ℤ → List ℕ → List ℤ
unfolding row_plus
features_from e table x [] = x
features_from e table x (r ∷ rows) = features_from e table (row_plus x (row_at e table r)) rows

unfoldable pub size_of : List ℤ → List ℕ → ℤ
unfolding size_from
size_of sizes rows = size_from sizes (pos 0) rows

unfoldable pub features_of : ℕ → List ℤ → List ℕ → List ℤ
unfolding features_from zeros
features_of e table rows = features_from e table (zeros e) rows

-- what a chain or a part list is scored by: its size, its features, and how many rows it has (a chain's length, a list's n)
pub record Total : Type 0 where
  pub size : ℤ
  pub features : List ℤ
  pub count : ℕ

abbrev pub total_of : ℕ → List ℤ → List ℤ → List ℕ → Total
unfolding size_of features_of
total_of e sizes table rows = record { size = size_of sizes rows; features = features_of e table rows; count = length rows }
