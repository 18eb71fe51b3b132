-- Where no sum wrapped it is the row's own; where one may have, the row is counted.
use Rattle.std.proofs.Common.{ℕ, ltb, ap}
use Rattle.metrics.proofs.LaneLaws.{sum_exact}
use Rattle.metrics.proofs.lanes.row_over.Goals as goal

pub returns-then-surely_exact : goal.returns-then-surely_exact
returns-then-surely_exact c =
    ap (λ (n : ℕ). ltb c.args.limit n) (sum_exact _ _ c.sum_row-s.ensures (c.surely_exact.ensures c.if-surely_exact.true))
