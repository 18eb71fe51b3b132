-- The kind, and then the padded letters.
use mathlib.Core.Path.{refl}
use mathlib.Core.List.{◌∷◌, []}
use Prim.Native.Nat.{◌+◌}
use lib.Seq.{slice}
use Rattle.form.specs.Job.{padded}
use Rattle.fields.proofs.FieldLaws.{join}
use Rattle.writer.proofs.write_letters.Goals as goal

pub returns : goal.returns
returns c =
    let a = c.args in
    join a.out.now _ _ a.at (a.at + 1) (4 ∷ []) (padded (slice a.from a.end a.letters.now)) refl c.put_u8.ensures c.write_padded.ensures
