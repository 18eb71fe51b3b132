-- What is done and what is left come to the whole list; its words are a whole number of 28. Assumes nothing.
use Prim.Native.Nat.{◌*◌, ◌≤◌}
use mathlib.Core.Path.{◌≡◌}
use lib.ListN.{length}
use Rattle.meta.specs.Meta.{made_unless}
use Rattle.meta.specs.Grouping.{all_from, all_made, metas_in}
use Rattle.meta.proofs.WordListLaws.{later}
use Rattle.meta.proofs.lists.combine_all.Given as goal

abbrev pub invariant-loop-i : goal.invariant-loop-i
invariant-loop-i l = (28 * l.n ≤ length l.metas) × (all_from (made_unless 0 l.all) (later l.metas l.n l.i) ≡ all_made (metas_in l.n l.metas))
