-- Each refusal in its place; then the rows gathered are laid down, and the name.
use Rattle.std.proofs.Common.{◌≡◌, ℕ, ◌≤◌, rules, sym, ap, ◌∙◌, length}
use Rattle.metrics.specs.Placed.{placed}
use Rattle.text.proofs.PieceLaws.{written_as}
use Rattle.bed.specs.Reading.{read_fault, name_in}
use Rattle.bed.proofs.StoredLaws.{stored_length, stored_placed}
use Rattle.bed.proofs.TableLaws.{little_starts, little_ends, enough, name_fits, refused_read, accepted_read}
use native.Mathlib.Omega.{arith}
use Rattle.bed.proofs.read_bed.Goals.{Start, then-starts-lt64-via-then-starts-lt64, then-starts-lt64-via-else-starts-lt64+then-ends-lt64}
use Rattle.bed.proofs.read_bed.Goals as goal

abbrev fault : Start → ℕ
fault c = let a = c.args in read_fault a.text.now (length a.starts.now) (length a.ends.now)

pub returns-then-starts-lt64 : goal.returns-then-starts-lt64
returns-then-starts-lt64 c =
    let at = goal.at.returns-then-starts-lt64 c in
    let a = c.args in
    let starts = length a.starts.now in
    let ends = length a.ends.now in
    let little : 6 ≡ fault at.Start = elim c.then-starts-lt64.branch [
      | then-starts-lt64-via-then-starts-lt64 w ↦ little_starts a.text.now starts ends w.if-starts-lt64.true
      | then-starts-lt64-via-else-starts-lt64+then-ends-lt64 w ↦ little_ends a.text.now starts ends w.if-starts-lt64.false w.if-ends-lt64.true
    ] in
    refused_read (fault at.Start) a.text.now a.starts.now a.ends.now a.name.now little

pub returns-in_err-rows : goal.returns-in_err-rows
returns-in_err-rows c =
    let at = goal.at.returns-in_err-rows c in
    let a = c.args in
    let room = enough a.text.now (length a.starts.now) (length a.ends.now) c.if-starts-lt64.false c.if-ends-lt64.false c.in_err-rows.ensures in
    let h = refused_read (fault at.Start) a.text.now a.starts.now a.ends.now a.name.now room in
    search (rules, h)

pub returns : goal.returns
returns c =
    let at = goal.at.returns c in
    let a = c.args in
    let text = a.text.now in
    let name = a.name.now in
    let rows = c.in_ok-rows.ensures.1 in
    let sound = enough text (length a.starts.now) (length a.ends.now) c.if-starts-lt64.false c.if-ends-lt64.false (sym c.in_ok-rows.ensures.0) in
    let short : length (name_in text) ≤ length name = let s = name_fits text rows.sound in omega arith in
    let put = written_as c.put_bytes-width.ensures c.first.ensures in
    accepted_read (fault at.Start) text a.starts.now a.ends.now name sound rows.count (stored_length name (name_in text) put short)
    (c.lay.ensures ∙ ap (placed a.starts.now) rows.starts) (c.lay-2.ensures ∙ ap (placed a.ends.now) rows.ends) (stored_placed name (name_in text) put short)
