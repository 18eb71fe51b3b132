-- From entry to parent: the rows still to come stand before those written.
use native.Mathlib.Omega.{arith}
use lib.ListN.{length-set}
use Rattle.paths.proofs.TableLaws.{read_room, read_done}
use Rattle.kplib.proofs.LinkLaws.{parent_before, read_link}
use Rattle.kplib.proofs.queue.read_chain.Goals as goal

pub overflow_sub-at : goal.overflow_sub-at
overflow_sub-at c = read_room c.loop-i.invariant.1 c.requires.links (omega arith)

pub bounds-chain-at : goal.bounds-chain-at
bounds-chain-at c =
    let r = c.loop-i.invariant.1 in
    omega (arith, read_room r c.requires.links (omega arith), r.inside)

pub loop-i-smaller : goal.loop-i-smaller
loop-i-smaller c = parent_before c.args.links.now c.loop-i.invariant.1 c.requires.links (omega arith)

pub loop-i-preserved : goal.loop-i-preserved
loop-i-preserved c =
    let l = c.loop-i in
    (simp length-set l.invariant.0, read_link c.args.links.now l.invariant.1 c.requires.links (omega arith))

pub returns : goal.returns
returns c = let r = c.loop-i.invariant.1 in (r.inside, read_done r (omega arith))
