-- The number and the word are those of the library call's own promise; the settings that the code makes of the words are answered as the words' own are.
use Rattle.std.proofs.Common.{◌≡◌, ap, ◌∙◌, rules}
use Rattle.metrics.specs.Refusals.{told}
use Rattle.kplib.specs.Proposal.{check_word}
use Rattle.capi.proofs.HeldLaws.{check_alike}
use Rattle.capi.proofs.nd_check_path.Goals as goal

pub returns : goal.returns
returns c =
    let same = c.check_path-checked.ensures ∙ check_alike _ _ _ _ c.settings_of_words-s.ensures in
    let number : c.told_at.result ≡ told c.check_path-checked.result = search rules in
    let word : c.told_at.new.at ≡ check_word c.check_path-checked.result = search rules in
    (number ∙ ap told same, word ∙ ap check_word same)
