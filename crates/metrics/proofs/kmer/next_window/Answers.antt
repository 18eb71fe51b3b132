-- A mask of 2 k bits is the remainder by 4 ^ k.
use Rattle.std.proofs.Common.{arith}
use Rattle.metrics.proofs.Windows.{four_pos}
use Rattle.metrics.proofs.Codes.{masked}
use Rattle.metrics.proofs.kmer.next_window.Goals as goal

pub overflow_sub-result : goal.overflow_sub-result
overflow_sub-result c = omega (arith, four_pos c.args.k)

pub returns : goal.returns
returns c = masked _ c.args.k c.args.size c.requires.0
