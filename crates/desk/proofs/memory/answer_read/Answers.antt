-- A job that fits is never refused for want of room, and the arrays then hold it.
use Rattle.desk.proofs.DeskLaws.{printed_as}
use Rattle.desk.proofs.ReadLaws.{empty_with, empty_room, reading_loaded, reading_text_lem}
use Rattle.desk.proofs.memory.answer_read.Goals as goal

pub answer_reading-requires : goal.answer_reading-requires
answer_reading-requires c =
    let empty = empty_room ((c.letter_room-letters.result)) c.letter_room-letters.ensures in
    reading_loaded c.args.input.now c.requires (empty_with ((c.letter_room-letters.result))) empty _ c.read_job-read.ensures.1 c.record_numbers-numbers.ensures _ c.read_job-read.ensures.0

pub returns : goal.returns
returns c =
    let empty = empty_room ((c.letter_room-letters.result)) c.letter_room-letters.ensures in
    printed_as c.answer_reading.ensures
    (reading_text_lem c.args.input.now c.requires (empty_with ((c.letter_room-letters.result))) empty _ c.read_job-read.ensures.1 c.record_numbers-numbers.ensures _ c.read_job-read.ensures.0)
