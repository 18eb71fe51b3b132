-- The records of several haplotypes, stretch by stretch. Assumes nothing.
use Prim.Native.Nat.{ℕ, ◌+◌, ◌-◌, ◌*◌, ◌≤◌, ◌<◌}
use native.Mathlib.Omega.{arith}
use native.Mathlib.Nat.{mul-le-mul_right, suc-mul}
use mathlib.Core.Path.{◌≡◌, refl, ap, ◌∙◌}
use mathlib.Core.List.{List}
use lib.ListN.{length, take, drop}
use lib.Seq.{sets, take-take}
use borrow.Rule.Slice.PartMut.{put_mid}
use Rattle.metrics.specs.Placed.{placed}
use Rattle.kplib.specs.Haplotypes.{laid}
use Rattle.kplib.proofs.StretchLaws.{lent_length, stretch_stored, none_laid, laid_length, one_more}
use Rattle.dive.specs.Numbered.{records_at}
use Rattle.dive.specs.RecordSteps.{row_count, records_in, Stretched}

-- i haplotypes have their records
pub record Recorded (v n : ℕ) (numbers rows reports records₀ : List ℕ) (i : ℕ) (records : List ℕ) : Type 0 where
  pub few : i ≤ n
  pub kept : length records ≡ length records₀
  pub are : records ≡ laid v (records_in v numbers rows reports) i records₀

module _ {v n : ℕ} {rows reports records₀ : List ℕ} (s : Stretched v n rows reports records₀) (numbers : List ℕ) where
  pub none_recorded : Recorded v n numbers rows reports records₀ 0 records₀
  none_recorded = record { few = omega arith; kept = refl; are = none_laid v (records_in v numbers rows reports) records₀ }

  module _ {i : ℕ} {records : List ℕ} (h : Recorded v n numbers rows reports records₀ i records) (l : i < n) where
    inside : i * v + v ≤ n * v
    inside = omega (arith, suc-mul i v, mul-le-mul_right v l)

    in_rows : i * v + v ≤ length rows
    in_rows = omega (arith, inside, s.rows_room)

    in_records : i * v + v ≤ length records
    in_records = omega (arith, inside, s.records_room, h.kept)

    pub counted_rows : (row_count reports i ≤ length (take (i * v + v - i * v) (drop (i * v) rows))) × (row_count reports i ≤ length (take (i * v + v - i * v) (drop (i * v) records)))
    counted_rows =
        let z : i * v + v - i * v ≡ v = omega arith in
        rw z (omega (arith, s.counted i l, lent_length (i * v) v rows in_rows), omega (arith, s.counted i l, lent_length (i * v) v records in_records))

    pub one_recorded : {part : List ℕ}
        → part ≡ placed (take (i * v + v - i * v) (drop (i * v) records)) (records_at numbers (take (row_count reports i) (take (i * v + v - i * v) (drop (i * v) rows))))
        → length part ≡ length (take (i * v + v - i * v) (drop (i * v) records))
        → Recorded v n numbers rows reports records₀ (i + 1) (put_mid (i * v) (i * v + v - i * v) records part)
    one_recorded {part} e k =
        let z : i * v + v - i * v ≡ v = omega arith in
        let cut : take (row_count reports i) (take v (drop (i * v) rows)) ≡ take (row_count reports i) (drop (i * v) rows) = take-take (row_count reports i) v (drop (i * v) rows) (s.counted i l) in
        let laid-down : part ≡ placed (take v (drop (i * v) records)) (records_in v numbers rows reports i) =
        rw z at e ∙ ap (λ (m : List ℕ). placed (take v (drop (i * v) records)) (records_at numbers m)) cut in
        let stored : put_mid (i * v) v records part ≡ sets records (i * v) (records_in v numbers rows reports i) =
        stretch_stored (i * v) v records (records_in v numbers rows reports i) in_records laid-down (rw z at k) in
        let on = stored ∙ one_more v (records_in v numbers rows reports) records₀ i h.are in
        rw z (record { few = omega arith; kept = ap length on ∙ laid_length v (records_in v numbers rows reports) records₀ (i + 1); are = on })
    -- all have theirs

  pub all_recorded : {i : ℕ} {records : List ℕ} → Recorded v n numbers rows reports records₀ i records → n ≤ i → records ≡ laid v (records_in v numbers rows reports) n records₀
  all_recorded {i} h l = let z : i ≡ n = omega (arith, h.few) in h.are ∙ ap (λ (m : ℕ). laid v (records_in v numbers rows reports) m records₀) z
