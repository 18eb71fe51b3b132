-- Each callee's asks follow from where the search stands, and what the callees promise is where it stands then.
use mathlib.Core.Path.{refl}
use Prim.Native.Nat.{◌<◌}
use Rattle.kplib.proofs.StepLaws.{weighable, entry_in, extending, gone_on}
use Rattle.kplib.proofs.steps.step.Goals.{After-take_next-entry}
use Rattle.kplib.proofs.steps.step.Goals as goal

entered : (c : After-take_next-entry) → (c.take_next-entry.result < c.args.at.used)
entered c =
    let b = c.requires in
    entry_in b.0 b.1.2 c.take_next-entry.auto.keys b.1.0 b.1.1 c.take_next-entry.ensures

pub weigh-size-requires : goal.weigh-size-requires
weigh-size-requires c = let b = c.requires in weighable b.0 b.1.2 _ (entered (goal.at.weigh-size-requires c).After-take_next-entry) refl

pub queue_extensions-added-requires : goal.queue_extensions-added-requires
queue_extensions-added-requires c =
    let b = c.requires in
    extending b.0 b.1.2 c.take_next-entry.auto.keys b.1.0 b.1.1 c.take_next-entry.ensures _ c.weigh-size.ensures.size_is

pub returns : goal.returns
returns c =
    let b = c.requires in
    gone_on b.0 b.1.2 c.take_next-entry.auto.keys b.1.0 b.1.1 c.take_next-entry.ensures _ _ c.queue_extensions-added.ensures.fact c.queue_extensions-added.ensures.result_in_bounds
    c.weigh-size.ensures
    c.advance.ensures
