-- Row by row, highest first: a row that extends the chain is put behind the entries, its key to the keys, and any other row is passed over.
use mathlib.Core.Path.{◌≡◌, ◌∙◌}
use Prim.Native.Nat.{◌-◌}
use native.Mathlib.Omega.{arith}
use mathlib.Core.Bool.{true, false}
use lib.ListN.{get_or}
use Rattle.paths.proofs.QueueLaws.{queueing_begin, queueing_skip, queueing_done}
use Rattle.paths.specs.Chains.{extends}
use Rattle.kplib.specs.SearchSteps.{chain_of, follows_by}
use Rattle.kplib.proofs.ExtensionLaws.{end_is, end_low, found, sum_fits, key_sizes, queueing_row}
use Rattle.kplib.proofs.queue.queue_extensions.Goals.{In-loop-r, Then-may-r}
use Rattle.kplib.proofs.queue.queue_extensions.Goals as goal

-- a row's flag tells whether it extends the chain
flag : (c : In-loop-r) → extends (follows_by c.args.told.now.plan c.args.told.now.together.now) (chain_of c.args.links.now c.args.entry) (c.loop-r.r - 1)
    ≡ get_or c.followers-may.result (c.loop-r.r - 1) false
flag c = let h = c.requires in found h c.followers-may.ensures (c.loop-r.r - 1) (omega (arith, end_is h c.end_node-first.ensures)) (omega (arith, h.sized.few))

extending : (c : Then-may-r) → extends (follows_by c.args.told.now.plan c.args.told.now.together.now) (chain_of c.args.links.now c.args.entry) (c.loop-r.r - 1) ≡ true
extending c =
    let h = c.requires in
    found h c.followers-may.ensures (c.loop-r.r - 1) (omega (arith, end_is h c.end_node-first.ensures)) (omega (arith, h.sized.few)) ∙ c.if-may-r.true

pub loop-r-init : goal.loop-r-init
loop-r-init c =
    let h = c.requires in
    (end_low h c.end_node-first.ensures, queueing_begin h.tree h.order (omega (arith, h.key_room)))

pub overflow_add-size : goal.overflow_add-size
overflow_add-size c = sum_fits c.requires (omega arith) (extending (goal.at.overflow_add-size c).Then-may-r)

pub key-k-requires : goal.key-k-requires
key-k-requires c =
    let h = c.requires in
    let k = key_sizes h (omega arith) (extending (goal.at.key-k-requires c).Then-may-r) in
    (k.0, k.1, omega (arith, h.few_entries, c.loop-r.invariant.1.most))

pub loop-r-preserved-then-may-r : goal.loop-r-preserved-then-may-r
loop-r-preserved-then-may-r c =
    let l = c.loop-r in
    let follows = extending (goal.at.loop-r-preserved-then-may-r c).Then-may-r in
    (omega arith, queueing_row c.requires l.links l.invariant.1 (omega arith) (omega arith) (omega arith) follows c.key-k.ensures c.put_key.ensures)

pub loop-r-preserved : goal.loop-r-preserved
loop-r-preserved c =
    let l = c.loop-r in
    (omega arith, queueing_skip l.invariant.1 (omega arith) (flag (goal.at.loop-r-preserved c).In-loop-r ∙ c.if-may-r.false))

pub returns-clause-fact : goal.returns-clause-fact
returns-clause-fact c = queueing_done c.loop-r.invariant.1 (omega (arith, end_is c.requires c.end_node-first.ensures))
