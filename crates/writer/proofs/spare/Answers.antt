-- What every job of so many haplotypes has in its edition, the variants and the parts are taken away one after the other.
use native.Mathlib.Omega.{arith}
use mathlib.Core.Path.{◌≡◌, ◌∙◌}
use Prim.Native.Nat.{◌+◌, ◌-◌, ◌≤◌}
use Rattle.std.specs.declared.option.Option.TheVariants.{None, Some}
use Rattle.writer.specs.Steps.{variant_kind_by, settings_size, total, left_of}
use Rattle.writer.proofs.EditionLaws.{short_settings}
use Rattle.writer.proofs.WriteLaws.{spare_none, spare_short, spare_enough}
use Rattle.writer.proofs.spare.Goals as goal

pub overflow_add-least : goal.overflow_add-least
overflow_add-least c = omega (arith, c.settings_size.ensures, short_settings c.args.edition)

pub overflow_add-least-2 : goal.overflow_add-least-2
overflow_add-least-2 c = omega (arith, c.settings_size.ensures, short_settings c.args.edition, c.requires)

pub returns-in_err-behind : goal.returns-in_err-behind
returns-in_err-behind c =
    let size = c.settings_size.ensures in
    let short : c.settings_size.result + 1 + c.args.breaks ≤ c.args.room → ⊥ = c.in_err-behind.ensures in
    c.from_residual.ensures ∙ spare_none _ _ _ _ (omega arith)

pub returns-in_err-n : goal.returns-in_err-n
returns-in_err-n c =
    let a = c.args in
    let enough = c.in_ok-behind.ensures in
    let least : settings_size a.edition + 1 + a.breaks ≤ a.room = omega (arith, enough.0, c.settings_size.ensures) in
    let left : None ≡ left_of (total (variant_kind_by a.edition) a.counts.now) (a.room - (settings_size a.edition + 1 + a.breaks)) = cc (c.in_err-n.ensures, enough.1) in
    c.from_residual-in_err-n.ensures ∙ spare_short _ _ _ _ least left

pub returns : goal.returns
returns c =
    let a = c.args in
    let enough = c.in_ok-behind.ensures in
    let least : settings_size a.edition + 1 + a.breaks ≤ a.room = omega (arith, enough.0, c.settings_size.ensures) in
    let left : Some c.in_ok-n.n ≡ left_of (total (variant_kind_by a.edition) a.counts.now) (a.room - (settings_size a.edition + 1 + a.breaks)) = cc (c.in_ok-n.ensures, enough.1) in
    spare_enough _ _ _ _ least _ _ left c.left_after-2.ensures
