-- A line with a good name fits the memory, so all of it is written.
use Rattle.bed.specs.Bed.{bed_line}
use Rattle.bed.proofs.LineLaws.{line_short}
use Rattle.bed.proofs.StoredLaws.{stored_length}
use Rattle.bed.proofs.lines.line_room.Goals as goal

pub returns : goal.returns
returns c =
    let a = c.args in stored_length _ (bed_line a.name.now a.start a.end) c.put_line.ensures (line_short a.name.now a.start a.end c.requires)
