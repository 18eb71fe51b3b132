-- The answer of a search as seven words.
use Rattle.std.specs.Prelude.{ℕ, ◌+◌, min, Bool, true, false, List, [], ◌∷◌}
use Rattle.std.specs.Float.{binary32}
use Rattle.std.specs.Float.Ieee.{to_bits}
use Rattle.kplib.specs.declared.pathscore.Target.{Target}
use Rattle.kplib.specs.declared.pathscore.Target.TheVariants.{Nothing, Whole, Partial}
use Rattle.kplib.specs.declared.traverse.Answer.{Answer}

-- 0 no part list, 1 the whole haplotype, 1 more for each part left out, up to the largest word
abbrev pub target_number : Target → ℕ
target_number Nothing = 0
target_number Whole = 1
target_number (Partial left) = min (1 + left) 4294967295

abbrev pub flag_number : Bool → ℕ
flag_number false = 0
flag_number true = 1

-- how many rows, the target, the bits of the three floats, the count, and whether it is complete
abbrev pub report_of : Answer → List ℕ
report_of a =
    a.rows ∷
    target_number a.target ∷
    to_bits binary32 a.score ∷
    to_bits binary32 a.sizesim ∷
    to_bits binary32 a.seqsim ∷
    a.scored ∷
    flag_number a.complete ∷
    []
