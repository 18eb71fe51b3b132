-- A refusal is answered at once with nothing written; else the call is accepted.
use mathlib.Core.Path.{refl}
use Rattle.metrics.proofs.RefusalLaws.{never_zero}
use Rattle.kplib.proofs.FoundLaws.{refused_answers}
use Rattle.kplib.proofs.traverse.apply_haplotype.Goals as goal

pub returns-in-Err : goal.returns-in-Err
returns-in-Err c =
    let h = refused_answers _ (rw c.queue_room-room.ensures at c.in-Err.ensures) (never_zero _) c.answer_refused.ensures c.args.rows.now in
    (h.0, (h.1, (λ _. refl, λ _. refl)))
