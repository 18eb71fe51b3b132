-- A row that is summed is left alone; another is summed, and its magnitudes with it.
use native.Mathlib.Omega.{arith}
use mathlib.Core.Path.{ap}
use Rattle.metrics.specs.Similarity.{magnitude_sum}
use Rattle.kplib.proofs.RowSumLaws.{features_sum}
use Rattle.kplib.proofs.pathscore.ready.Goals as goal

pub weight_of-requires : goal.weight_of-requires
weight_of-requires c =
    omega (arith, ap magnitude_sum c.sum_features.ensures, features_sum _ _ _ c.requires.0)
