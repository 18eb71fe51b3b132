-- N is how many chains grow from the empty one. Assumes nothing.
use mathlib.Core.Path.{◌≡◌}
use Prim.Native.Nat.{ℕ}
use mathlib.Core.Bool.{Bool}
use mathlib.Core.List.{List, []}
use lib.ListN.{length}
use Rattle.paths.specs.Chains.{chains_from}
use Rattle.paths.proofs.Demand.{chains_are_n}
use Rattle.kplib.specs.Graph.{edge, may_follow_in, chains_of}

pub counts_chains : (starts ends : List ℕ) (full : Bool) → chains_from (may_follow_in starts ends full) (length starts) [] ≡ chains_of starts ends full
counts_chains starts ends full = chains_are_n (edge starts ends) (length starts) full
