-- What `any` found over the sizes is found at some place. Assumes nothing.
use Rattle.std.proofs.Common.{rules, tests, ◌∙◌}
use lib.Dec.{ltb}
use lib.IntN.{ℤ, pos, nat_abs}
use Rattle.std.proofs.lemmas.Iterator.{YieldsList-from_slice}
use Rattle.std.proofs.lemmas.Iterator.Search.{any_from_yields_List}
use Rattle.params.specs.Numbers.{bad_size}
use Rattle.params.proofs.AnyLaws.{anywhere}
use Rattle.params.proofs.checks.bad_size.Goals as goal

pub returns : goal.returns
unfolding bad_size
returns c =
    let over = λ (x : ℤ). ltb 131072 (nat_abs x) in
    let sizes = c.args.sizes.now in
    any_from_yields_List over _ _ _ c.any.ensures.ran (YieldsList-from_slice sizes cc) (λ x b q k. search (rules, tests)) ∙ anywhere over (pos 0) sizes
