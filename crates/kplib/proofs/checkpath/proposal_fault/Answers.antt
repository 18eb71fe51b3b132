-- The call's refusal, and then 54: its rooms suffice, so that it is given no refusal of theirs.
use Rattle.std.proofs.Common.{◌≡◌, rules, arith}
use Rattle.metrics.specs.Refusals.{refusal_number}
use Rattle.metrics.proofs.RefusalLaws.{never_zero}
use Rattle.params.specs.Held.{table_held, parts_held}
use Rattle.kplib.specs.Proposal.{proposal_of, proposal_fault}
use Rattle.kplib.proofs.ProposalLaws.{by_call, too_long, no_fault}
use Rattle.kplib.proofs.checkpath.proposal_fault.Goals as goal

pub returns-in_err-call_fault : goal.returns-in_err-call_fault
returns-in_err-call_fault c = λ score.
    let a = c.args in
    let h : refusal_number c.in_err-call_fault.field-0.0 ≡ proposal_fault a.s (table_held a.table.now) (parts_held a.parts.now) (proposal_of a.rows.now a.positions.now score) =
    by_call _ _ _ _ _ c.in_err-call_fault.ensures (never_zero _) in
    search (rules, h)

pub returns-then-rows-gt64 : goal.returns-then-rows-gt64
returns-then-rows-gt64 c = λ score. too_long _ _ _ _ _ _ c.in_ok-call_fault.ensures c.then-rows-gt64.either

pub returns : goal.returns
returns c = λ score. no_fault _ _ _ _ _ _ c.in_ok-call_fault.ensures (omega arith) (omega arith)
