-- The kind, the shared bytes and what is added, one behind the other.
use native.Mathlib.Omega.{arith}
use Prim.Native.Nat.{◌+◌, ◌≤◌}
use lib.ListN.{length}
use lib.Seq.{length-take-le}
use Rattle.editions.proofs.WalkLaws.{copy_fits, record_put}
use Rattle.editions.proofs.walk.lay_record.Goals.{After-copy-arg-1}
use Rattle.editions.proofs.walk.lay_record.Goals as goal

-- the bytes that are copied fit
fits : (c : After-copy-arg-1) → (c.min.result ≤ length c.args.b.now) × (c.args.at + 1 + c.min.result ≤ length c.args.out.now)
fits c =
    copy_fits c.args.edition c.args.byte c.args.b.now c.args.row c.kind_of-kind.result _ _ _ _ c.kind_of-kind.ensures c.shared_len.ensures c.min.ensures c.requires

pub copy-end-requires : goal.copy-end-requires
copy-end-requires c = let f = fits (goal.at.copy-end-requires c).After-copy-arg-1 in let l = c.put_u8.auto.out in (f.0, omega arith)

pub lay_added-requires : goal.lay_added-requires
lay_added-requires c =
    let f = fits (goal.at.lay_added-requires c).After-copy-arg-1 in omega (arith, f.0, f.1, c.copy-end.ensures.next, length-take-le c.min.result c.args.b.now f.0, c.well_formed.1.1.1.1.0)

pub returns : goal.returns
returns c =
    record_put _ _ _ _ _ _ _ _ _ _ _ _ _ _ _ c.kind_of-kind.ensures c.byte_in.ensures c.shared_len.ensures c.min.ensures
    c.put_u8.ensures c.copy-end.ensures c.lay_added.ensures
