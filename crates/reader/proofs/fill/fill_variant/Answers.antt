-- Behind the tests the record is a whole variant of either edition, and adds one.
use Rattle.std.proofs.Common.{rules, ◌≡◌, true}
use mathlib.Core.Path.{◌∙◌}
use Rattle.form.specs.Form.{is_variant}
use Rattle.form.specs.Job.{variant_of}
use Rattle.reader.proofs.FillLaws.{adds_one, one_variant, same_row}
use Rattle.reader.specs.Steps.{rows, put_row}
use Rattle.reader.proofs.fill.fill_variant.Goals as goal

pub returns : goal.returns
returns c =
    let a = c.args in
    let variant : is_variant a.kind ≡ true = search rules in
    let t = rows a.starts.now a.ends.now a.sizes.now a.negatives.now a.counts.now in
    adds_one put_row t a.v (variant_of a.kind a.b.now) (one_variant a.kind a.b.now variant c.body_len.ensures c.if-b-body_len.false)
    (c.put_variant.ensures ∙ same_row t a.v a.kind a.b.now variant)
