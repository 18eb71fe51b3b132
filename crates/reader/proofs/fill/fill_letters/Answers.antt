-- As many letters are copied as the record gives.
use native.Mathlib.Omega.{arith}
use Rattle.reader.proofs.WalkLaws.{laid_letters}
use Rattle.reader.proofs.fill.fill_letters.Goals as goal

pub copy_letters-requires : goal.copy_letters-requires
copy_letters-requires c = (omega arith, omega arith)

pub overflow_add-result : goal.overflow_add-result
overflow_add-result c = omega arith

pub returns : goal.returns
returns c =
    record { is = laid_letters _ _ _ _ _ _ c.letters_given-n.ensures.0 c.copy_letters.ensures; next = (omega arith, omega arith) }
