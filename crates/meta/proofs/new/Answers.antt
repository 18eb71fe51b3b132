-- One read of the sample: its flag fits, since its index is below eight. Assumes nothing.
use native.Mathlib.Omega.{arith}
use mathlib.Core.Path.{sym, ap}
use Prim.Native.Nat.{ℕ, ◌<◌}
use lib.ListN.{set, replicate}
use Rattle.meta.specs.declared.HaplotypeMeta.{HaplotypeMeta}
use Rattle.meta.proofs.FaultLaws.{new_inside, flag_fits, accepted}
use Rattle.meta.proofs.new.Goals.{In_ok-new_fault}
use Rattle.meta.proofs.new.Goals as goal

inside : (c : In_ok-new_fault) → c.args.sample_idx < 8
inside c = new_inside _ _ (sym c.in_ok-new_fault.ensures)

pub offset_bounds-coverage-sample_idx : goal.offset_bounds-coverage-sample_idx
offset_bounds-coverage-sample_idx c = let h = inside (goal.at.offset_bounds-coverage-sample_idx c).In_ok-new_fault in record { fits = omega arith }

pub bounds-coverage-sample_idx : goal.bounds-coverage-sample_idx
bounds-coverage-sample_idx c = inside (goal.at.bounds-coverage-sample_idx c).In_ok-new_fault

pub overflow_shl-result : goal.overflow_shl-result
overflow_shl-result c = let h = inside (goal.at.overflow_shl-result c).In_ok-new_fault in omega arith

pub returns : goal.returns
returns c =
    let a = c.args in
    let below = inside (goal.at.returns c).In_ok-new_fault in
    rw c.blank.ensures (accepted c.in_ok-new_fault.ensures (ap (λ (flag : ℕ). flagged a.sample_idx a.num_samples flag) (flag_fits _ below)))
  where
    flagged : ℕ → ℕ → ℕ → HaplotypeMeta
    flagged i n flag = record { id = 0; samples = n; samples_flag = flag; coverage = set (replicate 8 0) i 1; ps = replicate 8 0; hp = replicate 8 0 }
