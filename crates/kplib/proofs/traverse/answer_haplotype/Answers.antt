-- The table has passed, so that the parts' own fault is the call's; where there is none the call is accepted.
use mathlib.Core.Path.{refl, sym}
use Rattle.metrics.proofs.RefusalLaws.{never_zero}
use Rattle.kplib.proofs.FoundLaws.{refused_answers, parts_only}
use Rattle.kplib.proofs.traverse.answer_haplotype.Goals as goal

pub returns-in-Err : goal.returns-in-Err
returns-in-Err c =
    let h = refused_answers _ (parts_only _ c.requires c.in-Err.ensures) (never_zero _) c.answer_refused.ensures c.args.rows.now in
    (h.0, (h.1, (λ _. refl, λ _. refl)))

pub answer_accepted-requires : goal.answer_accepted-requires
answer_accepted-requires c = sym (parts_only _ c.requires c.in_default.ensures)
