-- The record numbers of rows, written one by one to the front of a buffer. Assumes nothing.
use Prim.Native.Nat.{ℕ, zero, suc, ◌+◌, ◌≤◌, ◌<◌}
use native.Mathlib.Omega.{arith}
use mathlib.Core.Path.{◌≡◌, refl, sym, ap, ◌∙◌}
use mathlib.Core.List.{List, [], ◌∷◌, ◌++◌}
use lib.ListN.{length, get_or, set, take, drop, length-map}
use lib.Seq.{length-take-le}
use Rattle.metrics.specs.Placed.{placed}
use Rattle.kplib.proofs.PlaceLaws.{put_on, put_done}
use Rattle.dive.specs.Numbered.{records_at}

-- the record at i is that of row i, and there are as many records as rows
record_at : (numbers rows : List ℕ) (n i : ℕ) → i < n → n ≤ length rows → get_or (records_at numbers (take n rows)) i 0 ≡ get_or numbers (get_or rows i 0) 0
unfolding records_at
record_at numbers rows zero i l h = absurd (omega arith)
record_at numbers [] (suc n) i l h = absurd (omega arith)
record_at numbers (r ∷ rows) (suc n) zero l h = refl
record_at numbers (r ∷ rows) (suc n) (suc i) l h = record_at numbers rows n i (omega arith) (omega arith)

record_count : (numbers rows : List ℕ) (n : ℕ) → n ≤ length rows → length (records_at numbers (take n rows)) ≡ n
unfolding records_at
record_count numbers rows n h = length-map (take n rows) (λ r. get_or numbers r 0) ∙ length-take-le n rows h

module _ (numbers rows records : List ℕ) (n : ℕ) (h : n ≤ length rows) where
  abbrev written : List ℕ
  written = records_at numbers (take n rows)

  -- the first i records are written
  pub record_on : (i : ℕ) → i < n → n ≤ length records → {x : ℕ} → x ≡ get_or numbers (get_or rows i 0) 0
      → set (take i written ++ drop i records) i x ≡ take (i + 1) written ++ drop (i + 1) records
  record_on i l room e =
      let count = record_count numbers rows n h in
      ap (λ (y : ℕ). set (take i written ++ drop i records) i y) (e ∙ sym (record_at numbers rows n i l h)) ∙ put_on i written records (omega arith) (omega arith)

  pub record_done : (i : ℕ) → i ≡ n → take i written ++ drop i records ≡ placed records written
  record_done i e = put_done i written records (e ∙ sym (record_count numbers rows n h))
