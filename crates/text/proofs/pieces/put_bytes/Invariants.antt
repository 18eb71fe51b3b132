-- After i turns the first i bytes are a piece.
use lib.ListN.{take}
use Rattle.text.specs.Written.{Written}
use Rattle.text.proofs.pieces.put_bytes.Given as goal

abbrev pub invariant-loop-x : goal.invariant-loop-x
invariant-loop-x l = Written l.initial.out l.at (take l.x-index l.src) l.out l.end
