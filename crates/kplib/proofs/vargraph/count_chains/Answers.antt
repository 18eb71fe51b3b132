-- The refusal and the count, each in its case. Assumes nothing.
use Rattle.std.proofs.Common.{◌≡◌, Err, rules}
use Rattle.kplib.specs.Graph.{capped_count}
use Rattle.kplib.proofs.CountedLaws.{refused_is, answered_is, count_ready}
use Rattle.kplib.proofs.vargraph.count_chains.Goals as goal

pub returns-in_err-count_fault : goal.returns-in_err-count_fault
unfolding capped_count
returns-in_err-count_fault c =
    let a = c.args in
    let h : Err c.in_err-count_fault.field-0.0 ≡ capped_count a.starts.now a.ends.now a.full a.cap = refused_is _ _ _ c.in_err-count_fault.ensures in
    search (rules, h)

pub count_capped-requires : goal.count_capped-requires
count_capped-requires c = count_ready _ _ _ c.in_ok-count_fault.ensures

pub returns : goal.returns
unfolding capped_count
returns c = answered_is _ c.in_ok-count_fault.ensures c.count_capped.ensures
