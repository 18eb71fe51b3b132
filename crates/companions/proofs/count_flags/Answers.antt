-- The flags of the row, counted. Assumes nothing.
use Rattle.std.proofs.Common.{rules, arith, ◌≡◌, ◌+◌, ◌-◌, ◌*◌, ℕ, take, drop, ◌∙◌}
use Rattle.std.specs.Prelude.{count_by}
use Rattle.companions.specs.Questions.{later_of}
use Rattle.companions.proofs.CountLaws.{count_flags}
use Rattle.companions.proofs.count_flags.Goals as goal

pub returns : goal.returns
unfolding later_of
returns c =
    let at : ℕ = 64 * c.args.row in
    let counted : c.count.result ≡ count_by (λ x. x) (take (at + 64 - at) (drop at c.args.sheet.now)) = search rules in
    let all : at + 64 - at ≡ 64 = omega arith in
    rw all at counted ∙ count_flags c.args.sheet.now at 64 (omega arith)
