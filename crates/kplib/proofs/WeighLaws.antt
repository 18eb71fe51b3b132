-- A chain read back to the end of a list of 64 rows is what stands there from its begin on; so it can be summed and scored. Assumes nothing.
use mathlib.Core.Path.{◌≡◌, ◌∙◌}
use Prim.Native.Nat.{ℕ, ◌-◌, ◌≤◌}
use native.Mathlib.Omega.{arith}
use mathlib.Core.List.{List, reverse}
use lib.IntN.{ℤ, nat_abs}
use lib.Ieee.{Float}
use lib.ListN.{length, take, drop, length-drop}
use lib.Seq.{take_all}
use Rattle.kplib.specs.Sums.{size_of}
use Rattle.kplib.specs.Told.{Told}
use Rattle.kplib.specs.Scoring.{chain_total, coded_score, StandsFor, Scorable}
use Rattle.kplib.specs.SearchSteps.{chain_of, score_told, Rowed, Weighable, WeighedAs}
use Rattle.kplib.specs.declared.steps.Weighed.{Weighed}
use Rattle.kplib.proofs.SizeSumLaws.{size_le}
use Rattle.kplib.proofs.RowSumLaws.{summable}

pub cut : (x : List ℕ) (n r : ℕ) {c : List ℕ} → length x ≡ n → (r ≤ length x) × (drop r x ≡ c) → take (n - r) (drop r x) ≡ c
cut x n r l e = take_all (n - r) (drop r x) (omega (arith, length-drop r x)) ∙ e.1

module _ {q : Told} {links : List ℕ} {entry : ℕ} {scratch : List ℤ}
    (h : Weighable q links entry scratch) {l : List ℕ} (e : l ≡ reverse (chain_of links entry)) where
  pub rowed_as : Rowed q.sizes l
  rowed_as = rw e (record { sized = h.sized; within = h.within; most = h.most })

  pub size_small : {size : ℤ} → size ≡ size_of q.sizes l → nat_abs size ≤ 8388608
  size_small z = rw z (size_le q.sizes l h.sized rowed_as.most)

  pub scorable_as : {size : ℤ} {chosen : List ℕ} → size ≡ size_of q.sizes l → 64 ≤ length chosen
      → Scorable q l size chosen scratch
  scorable_as z r = record {
    planned = h.planned;
    chained = rw e (summable (length q.sizes) q.plan.width q.features (reverse (chain_of links entry)) h.rows h.within h.most);
    chain_size = size_small z;
    part_rows = h.part_rows;
    coded = h.coded;
    room = r;
    scratch_is = h.scratch_is;
  }

  pub weighed_as : {floor : Float} {r : Weighed} → r.size ≡ size_of q.sizes l
      → StandsFor floor (coded_score q.plan q.part_features q.codes q.list_sizes (chain_total q.plan.width q.features l r.size)) r.scored
      → WeighedAs q (reverse (chain_of links entry)) floor r
  unfolding score_told
  weighed_as z k = rw (← e) (record { size_is = z; stands = rw z at k })
