-- All is the library call's own promise; the settings that the code makes of the words are answered as the words' own are.
use mathlib.Core.Path.{◌∙◌}
use Rattle.capi.proofs.HeldLaws.{several_alike}
use Rattle.capi.proofs.nd_apply_haplotypes.Goals as goal

pub returns : goal.returns
returns c =
    let promised = c.apply_numbered_haplotypes.ensures in
    let alike = several_alike _ _ _ _ _ _ _ _ _ _ c.settings_of_words-s.ensures in
    let written = promised.1 in
    let queue = written.1.1.1 in (
      c.told.ensures ∙ promised.0 ∙ alike.fault,
      (
        written.0 ∙ alike.rows _,
        (written.1.0 ∙ alike.records _, (written.1.1.0 ∙ alike.reports _, (λ h. queue.0 (alike.search ∙ h), λ h. queue.1 (alike.search ∙ h)))),
      ),
    )
