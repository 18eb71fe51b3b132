-- Private: what single rows do. No public promise cites this file.
use Rattle.std.specs.Prelude.{ℕ, suc, ◌+◌, ◌≤◌, ◌≡◌, List, [], ◌∷◌, Bool, ℤ, length, set}
use Rattle.form.specs.Job.{Variant, Part}

-- the five slices of the variants, and a variant stored in row v
pub record Rows : Type 0 where
  pub starts : List ℕ
  pub ends : List ℕ
  pub sizes : List ℤ
  pub negatives : List Bool
  pub counts : List ℕ

abbrev pub rows : List ℕ → List ℕ → List ℤ → List Bool → List ℕ → Rows
rows starts ends sizes negatives counts = record { starts = starts; ends = ends; sizes = sizes; negatives = negatives; counts = counts }

abbrev pub put_row : Rows → ℕ → Variant → Rows
put_row t v x = record {
  starts = set t.starts v x.start;
  ends = set t.ends v x.end;
  sizes = set t.sizes v x.size;
  negatives = set t.negatives v x.negative;
  counts = set t.counts v (length x.letters);
}

-- the same for the three slices of the parts
pub record PartRows : Type 0 where
  pub sizes : List ℤ
  pub negatives : List Bool
  pub counts : List ℕ

abbrev pub part_rows : List ℤ → List Bool → List ℕ → PartRows
part_rows sizes negatives counts = record { sizes = sizes; negatives = negatives; counts = counts }

abbrev pub put_part : PartRows → ℕ → Part → PartRows
put_part t v x = record {
  sizes = set t.sizes v x.size;
  negatives = set t.negatives v x.negative;
  counts = set t.counts v (length x.letters);
}

-- a list stored from row v on
unfoldable pub stores : {T A : Type 0} → (T → ℕ → A → T) → T → ℕ → List A → T
stores put t v [] = t
stores put t v (x ∷ xs) = stores put (put t v x) (suc v) xs

-- from t to u: at most one is stored in row v, and r is the next row
pub record Stored {T A : Type 0} (put : T → ℕ → A → T) (t u : T) (v r : ℕ) (xs : List A) : Type 0 where
  pub is : u ≡ stores put t v xs
  pub next : r ≡ v + length xs
  pub one : r ≤ v + 1
