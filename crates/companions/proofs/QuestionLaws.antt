-- A sheet that is its table's has at most 64 rows. Assumes nothing.
use Prim.Native.Nat.{ℕ, ◌≤◌}
use mathlib.Core.Path.{◌≡◌}
use mathlib.Core.Bool.{Bool, false}
use mathlib.Core.List.{List}
use Rattle.companions.specs.Companions.{lent_of, not_its_sheet}
use Rattle.companions.proofs.TableLaws.{table_within, sound_table}

pub rows_few : (starts ends : List ℕ) (sheet : List Bool) (rows : ℕ) → not_its_sheet (lent_of starts ends sheet rows) ≡ false → rows ≤ 64
rows_few starts ends sheet rows own = table_within rows starts ends (sound_table (lent_of starts ends sheet rows) own)
