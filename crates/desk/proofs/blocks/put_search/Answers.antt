-- The search has the room that the text names, and its rows and records are the answer's.
use native.Mathlib.Omega.{arith}
use mathlib.Core.Path.{◌≡◌, refl}
use lib.ListN.{length, replicate}
use Rattle.params.specs.Held.{table_held, parts_held}
use Rattle.desk.proofs.AnswerLaws.{answer_printed}
use Rattle.desk.proofs.blocks.put_search.Goals as goal

pub returns : goal.returns
returns c =
    let a = c.apply_numbered-a in
    let g = c.rows-2-1.given in
    let l : length a.new.rows ≡ 16 = omega arith in
    answer_printed c.args.s (table_held c.args.table.now) (parts_held c.args.parts.now)
    c.args.numbers.now c.link_room-links.result c.key_room-keys.result
    (replicate 16 0) (replicate 16 0) c.link_room-links.ensures c.key_room-keys.ensures refl refl
    a.result a.ensures.0 (a.new.rows) a.ensures.1.0 (a.new.records) a.ensures.1.1.0 l c.put_answer.ensures
