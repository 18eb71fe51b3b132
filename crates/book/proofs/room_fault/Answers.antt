-- Each refusal in its place. Assumes nothing.
use Rattle.book.proofs.FaultLaws.{room_used, room_little, room_there}
use Rattle.book.proofs.room_fault.Goals as goal

pub returns-then-n-ge-MOST_VERSIONS : goal.returns-then-n-ge-MOST_VERSIONS
returns-then-n-ge-MOST_VERSIONS c = room_used _ _ c.versions-n.ensures.0 c.if-n-ge-MOST_VERSIONS.true

pub returns-then-book-n : goal.returns-then-book-n
returns-then-book-n c = room_little _ _ c.versions-n.ensures.0 c.if-n-ge-MOST_VERSIONS.false c.if-book-n.true

pub returns : goal.returns
returns c = room_there _ _ c.versions-n.ensures.0 c.if-n-ge-MOST_VERSIONS.false c.if-book-n.false
