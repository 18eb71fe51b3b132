-- Behind the tests the record is a whole part, and adds one.
use Rattle.std.proofs.Common.{rules, ◌≡◌, true}
use Rattle.form.specs.Form.{is_part}
use Rattle.reader.proofs.FillLaws.{adds_one, one_part}
use Rattle.reader.specs.Steps.{put_part}
use Rattle.reader.proofs.fill.fill_part.Goals as goal

pub returns : goal.returns
returns c =
    let part : is_part c.args.kind ≡ true = search rules in
    adds_one put_part _ _ _ (one_part _ _ part c.if-b-lt-PART_BODY.false) c.put_part.ensures
