-- The number, the rows, their records and the queue are those of the library call's own promise, and the report is that of its answer.
-- The settings that the code makes of the words are answered as the words' own are.
use mathlib.Core.Path.{ap, ◌∙◌}
use Rattle.metrics.specs.Placed.{placed}
use Rattle.kplib.specs.Report.{report_of}
use Rattle.capi.proofs.HeldLaws.{held_alike}
use Rattle.capi.proofs.nd_apply_haplotype.Goals as goal

pub returns : goal.returns
returns c =
    let promised = c.apply_numbered-answer.ensures in
    let alike = held_alike _ _ _ _ _ _ _ c.settings_of_words-s.ensures in
    let answer = promised.0 ∙ alike.answer in
    let written = promised.1 in
    let queue = written.1.1 in (
      ap (λ a. a.refusal) answer,
      (
        c.put_report.ensures ∙ ap report_of answer,
        (
          written.0 ∙ ap (placed _) alike.rows,
          (written.1.0 ∙ ap (placed _) alike.records, (λ h. queue.0 (alike.search ∙ h), λ h. queue.1 (alike.search ∙ h))),
        ),
      ),
    )
