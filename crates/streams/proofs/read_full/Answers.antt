-- What a read put behind the front is what it consumed.
use Rattle.std.proofs.Common.{◌≡◌, ℕ, ◌+◌, ◌-◌, ◌≤◌, List, ◌++◌, rules, length, take, sym, ap, ap₂, ◌∙◌, subst, le_refl, drop_at, length-take-le}
use Rattle.std.proofs.lemmas.Slice.{take-put_mid_below}
use Rattle.std.specs.Io.KnownBytes.{Consumes}
use Rattle.std.proofs.KnownBytes.{Consumes-trans}
use borrow.Rule.Slice.PartMut.{put_mid, post_of}
use lib.Seq.{take-add, take-append-le}
use Rattle.streams.proofs.read_full.Goals as goal

longer_front : (done room got : ℕ) (xs ys : List ℕ) → done ≤ length xs → got ≤ length ys → take (done + got) (put_mid done room xs ys) ≡ take done xs ++ take got ys
longer_front done room got xs ys within fits =
    take-add done got (put_mid done room xs ys)
    ∙ ap₂ (λ l r. l ++ r) (take-put_mid_below done room xs ys done (le_refl _) within)
    (ap (take got) (drop_at (take done xs) (ys ++ post_of done room xs) done (length-take-le done xs within)) ∙ take-append-le got ys (post_of done room xs) fits)

pub loop-done-preserved : goal.loop-done-preserved
loop-done-preserved g c =
    let front = longer_front c.loop-done.done (length c.loop-done.into - c.loop-done.done) c.in-Ok.got c.loop-done.into c.read-read.new.buf c.loop-done.invariant.1 c.in-Ok.ensures.bound.0 in
    (search rules, search rules, subst (Consumes _ _) (sym front) (Consumes-trans _ _ _ _ _ c.loop-done.invariant.2 c.in-Ok.ensures.bytes.0))
