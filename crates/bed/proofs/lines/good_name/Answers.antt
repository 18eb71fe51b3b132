-- Its length, and then its bytes.
use Rattle.std.proofs.Common.{rules, arith, ◌≤◌, length, refl, ◌&&◌, inl, inr}
use Rattle.std.proofs.lemmas.Grind.{common_steps}
use Rattle.std.proofs.lemmas.List.Recursion.{and_is}
use lib.Dec.{leb}
use Rattle.bed.specs.Bed.{printable}
use Rattle.bed.proofs.NameLaws.{name_empty, name_long, name_told}
use Rattle.bed.proofs.lines.good_name.Goals as goal

pub returns-then-is_empty : goal.returns-then-is_empty
returns-then-is_empty c =
    let name = c.args.name.now in
    elim c.then-is_empty.either [
      | inl h ↦ name_empty name (grind (arith, common_steps))
      | inr h ↦ name_long name (omega arith) h.1
    ]

pub returns : goal.returns
unfolding printable
returns c =
    let name = c.args.name.now in
    let some : 1 ≤ length name = grind (arith, common_steps) in
    name_told name some (omega arith) (and_is printable (λ x. leb 33 x && leb x 126) refl (λ _ _. refl) name 0 _ (search rules) (search rules))
