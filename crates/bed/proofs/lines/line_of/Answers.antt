-- The fields are read, and the line written again and compared.
use mathlib.Core.Path.{sym, ap, ◌∙◌}
use Rattle.bed.specs.Bed.{good_name, tab, newline, bed_line}
use Rattle.bed.specs.Reading.{same_bytes, up_to, behind_first}
use Rattle.bed.proofs.LineLaws.{judged_bad, judged_good, judged_other, reads_as}
use native.Mathlib.Omega.{arith}
use Rattle.bed.proofs.lines.line_of.Goals as goal

pub returns-then-not-good_name : goal.returns-then-not-good_name
returns-then-not-good_name c =
    judged_bad c.args.line.now (ap good_name (sym c.first-name.ensures) ∙ sym c.good_name.ensures ∙ c.if-not-good_name.true)

pub says-requires : goal.says-requires
says-requires c =
    sym c.good_name.ensures ∙ c.if-not-good_name.false

pub returns-then-not-says : goal.returns-then-not-says
returns-then-not-says c =
    let line = c.args.line.now in
    let name = c.first-name.ensures in
    let good = ap good_name (sym name) ∙ sym c.good_name.ensures ∙ c.if-not-good_name.false in
    let behind = c.behind-rest.ensures in
    let start = reads_as (c.first.ensures ∙ ap (up_to tab) behind) c.value-start.ensures in
    let last = c.behind.ensures ∙ ap (behind_first tab) behind in
    let end = reads_as (c.first-2.ensures ∙ ap (up_to newline) last) c.value-end.ensures in
    judged_other line (record { start = c.value-start.result; end = c.value-end.result }) good start end (omega arith) (omega arith)
    (ap (λ l. same_bytes line (bed_line l c.value-start.result c.value-end.result)) (sym name) ∙ sym c.says.ensures ∙ c.if-not-says.true)

pub returns : goal.returns
returns c =
    let line = c.args.line.now in
    let name = c.first-name.ensures in
    let good = ap good_name (sym name) ∙ sym c.good_name.ensures ∙ c.if-not-good_name.false in
    let behind = c.behind-rest.ensures in
    let start = reads_as (c.first.ensures ∙ ap (up_to tab) behind) c.value-start.ensures in
    let last = c.behind.ensures ∙ ap (behind_first tab) behind in
    let end = reads_as (c.first-2.ensures ∙ ap (up_to newline) last) c.value-end.ensures in
    judged_good line _ good start end (omega arith) (omega arith)
    (ap (λ l. same_bytes line (bed_line l c.value-start.result c.value-end.result)) (sym name) ∙ sym c.says.ensures ∙ c.if-not-says.false)
