-- The records written so far, and then the buffer's own.
use mathlib.Core.Path.{◌≡◌, ◌∙◌}
use Prim.Native.Nat.{◌<◌}
use native.Mathlib.Omega.{arith}
use borrow.Author.Rules.{rules}
use lib.ListN.{get_or, take}
use lib.Seq.{get_or-take, length-take-le}
use Rattle.dive.proofs.RecordLaws.{record_on, record_done}
use Rattle.dive.proofs.records.put_records.Goals as goal

pub loop-i-preserved : goal.loop-i-preserved
loop-i-preserved c =
    let a = c.args in
    let i = c.loop-i.i in
    let w = length-take-le a.n a.rows.now c.requires.0 in
    let l : i < a.n = omega arith in
    let e : c.unwrap_or.result ≡ get_or a.numbers.now (get_or (take a.n a.rows.now) i 0) 0 = search rules in
    let e = rw (get_or-take a.n a.rows.now i 0 l) at e in
    rw c.loop-i.invariant (record_on a.numbers.now a.rows.now a.records.now a.n c.requires.0 i l c.requires.1 e)

pub returns : goal.returns
returns c =
    let a = c.args in
    let w = length-take-le a.n a.rows.now c.requires.0 in
    c.loop-i.invariant ∙ record_done a.numbers.now a.rows.now a.records.now a.n c.requires.0 c.loop-i.i (omega arith)
