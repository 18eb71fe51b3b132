-- A refusal is answered at once; then chain, part list and score are asked, and the first that fails is a no.
use Rattle.std.proofs.Common.{◌≡◌, Err, rules}
use Rattle.params.specs.Held.{table_held, parts_held}
use Rattle.kplib.specs.Proposal.{proposal_of, check_of}
use Rattle.kplib.proofs.CountedLaws.{refused_is}
use Rattle.kplib.proofs.ProposalLaws.{graph_ready, pairable, no_chain, no_list, scored}
use Rattle.kplib.proofs.checkpath.check_path.Goals as goal

pub returns-in_err-proposal_fault : goal.returns-in_err-proposal_fault
unfolding check_of
returns-in_err-proposal_fault c =
    let a = c.args in
    let h : Err c.in_err-proposal_fault.field-0.0 ≡ check_of a.s (table_held a.table.now) (parts_held a.parts.now) (proposal_of a.rows.now a.positions.now a.score) =
    refused_is _ _ _ (c.in_err-proposal_fault.ensures c.args.score) in
    search (rules, h)

pub is_chain-requires : goal.is_chain-requires
is_chain-requires c = graph_ready _ _ _ _ (c.in_ok-proposal_fault.ensures c.args.score)

pub returns-then-not-is_chain : goal.returns-then-not-is_chain
returns-then-not-is_chain c = no_chain _ _ _ _ (c.in_ok-proposal_fault.ensures c.args.score) c.is_chain.ensures (c.if-not-is_chain.true)

pub returns-then-not-is_part_list : goal.returns-then-not-is_part_list
returns-then-not-is_part_list c = no_list _ _ _ _ (c.in_ok-proposal_fault.ensures c.args.score) c.is_part_list.ensures (c.if-not-is_part_list.true)

pub score_pair-verdict-requires : goal.score_pair-verdict-requires
score_pair-verdict-requires c =
    pairable _ _ _ _ (c.in_ok-proposal_fault.ensures c.args.score) c.is_chain.ensures (c.if-not-is_chain.false) c.is_part_list.ensures (c.if-not-is_part_list.false)

pub returns : goal.returns
returns c =
    scored _ _ _ _ (c.in_ok-proposal_fault.ensures c.args.score) c.is_chain.ensures (c.if-not-is_chain.false) c.is_part_list.ensures (c.if-not-is_part_list.false)
    c.score_pair-verdict.ensures c.gives_score.ensures
